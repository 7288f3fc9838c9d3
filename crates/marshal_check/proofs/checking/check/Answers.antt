use Rattle.std.proofs.Common.{[], ◌-◌, ◌%◌, refl, arith}
use Rattle.std.proofs.lemmas.Result.{err_from_is_err_and}
use Rattle.marshal.proofs.Numbers.{AllBytes-from_index}
use Rattle.marshal.proofs.Decoded.{is_found}
use Rattle.marshal_check.specs.SignatureTexts.{types_in}
use Rattle.marshal_check.proofs.Checked.{is_its_text, whole_text, body_done, body_fault, not_refused, its_length}
use Rattle.marshal_check.proofs.checking.check.Goals as goal

pub returns-in_err-end-clause-only : goal.returns-in_err-end-clause-only
returns-in_err-end-clause-only c = λ vs front rest b h.
    let ts = types_in c.args.types.text.now in
    let k = c.in_err-end.ensures.reads ts [] (whole_text c.args.types.text.now c.args.types.valid) refl in
    absurd (not_refused c.args.order ts c.args.offset c.args.bytes.now front rest vs c.in_err-end.field-0.0 (body_fault c.args.order ts c.args.offset c.args.bytes.now c.in_err-end.field-0.0 k) b h)

pub returns-in_err-end-clause-exact : goal.returns-in_err-end-clause-exact
returns-in_err-end-clause-exact c =
    let ts = types_in c.args.types.text.now in
    let p = err_from_is_err_and c.from_residual.result c.from_residual.ensures.1 in
    let k = c.in_err-end.ensures.reads ts [] (whole_text c.args.types.text.now c.args.types.valid) refl in
    rw (p.1, p.2) (body_fault c.args.order ts c.args.offset c.args.bytes.now c.in_err-end.field-0.0 k)

pub returns-clause-found : goal.returns-clause-found
returns-clause-found c =
    let ts = types_in c.args.types.text.now in
    let k = c.in_ok-end.ensures.reads ts [] (whole_text c.args.types.text.now c.args.types.valid) refl in
    let f = is_found c.args.order ts c.args.offset c.args.bytes.now (k.0, c.in_ok-end.end - c.args.offset % 8) (is_its_text c.args.types.text.now c.args.types.valid).0 (AllBytes-from_index c.args.bytes.now (λ i. omega (arith, c.type_inv.bytes i))) (body_done c.args.order ts c.args.offset c.in_ok-end.end c.args.bytes.now c.in_ok-end._rest.now k.0 k.1) in
    (f.0, k.0, f.1)

pub returns-clause-only : goal.returns-clause-only
returns-clause-only c = λ vs front rest b h.
    let ts = types_in c.args.types.text.now in
    let k = c.in_ok-end.ensures.reads ts [] (whole_text c.args.types.text.now c.args.types.valid) refl in
    its_length c.args.order ts c.args.offset (c.in_ok-end.end - c.args.offset % 8) c.args.bytes.now front rest vs k.0 (body_done c.args.order ts c.args.offset c.in_ok-end.end c.args.bytes.now c.in_ok-end._rest.now k.0 k.1) b h

pub returns-clause-exact : goal.returns-clause-exact
returns-clause-exact c =
    let ts = types_in c.args.types.text.now in
    let k = c.in_ok-end.ensures.reads ts [] (whole_text c.args.types.text.now c.args.types.valid) refl in
    (k.0, body_done c.args.order ts c.args.offset c.in_ok-end.end c.args.bytes.now c.in_ok-end._rest.now k.0 k.1)
