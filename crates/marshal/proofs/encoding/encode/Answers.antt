use Rattle.std.proofs.Common.{ℕ, List, ◌++◌, ap, ◌∙◌}
use Rattle.std.proofs.lemmas.Result.{err_from_is_err_and}
use Rattle.marshal_core.specs.Values.{values_of}
use Rattle.marshal.proofs.Encoded.{appended, refused}
use Rattle.marshal.proofs.encoding.encode.Goals as goal

pub returns-in_err-bytes-clause-refused : goal.returns-in_err-bytes-clause-refused
returns-in_err-bytes-clause-refused c =
    let p = err_from_is_err_and c.from_residual.result c.from_residual.ensures.1 in
    rw (p.1, p.2) (refused c.in_err-bytes.field-0.0 c.args.order c.args.offset (values_of c.args.values.now) c.in_err-bytes.ensures)

pub returns-clause-appended : goal.returns-clause-appended
returns-clause-appended c =
    appended c.args.order c.args.offset (values_of c.args.values.now) c.args.output.now.items c.extend_from_slice.new.self.items c.in_ok-bytes.bytes.items c.in_ok-bytes.ensures
    (c.in_ok-extend_from_slice.ensures.items ∙ ap (λ (z : List ℕ). c.args.output.now.items ++ z) c.deref.ensures.value)
