use Rattle.std.proofs.Common.{◌+◌, ◌∷◌, ◌++◌, [], length, sym, ◌∙◌, arith}
use Rattle.std.proofs.lemmas.Result.{err_from_is_err_and}
use Rattle.std.proofs.lemmas.List.{nil_from_length}
use Rattle.marshal_core.specs.Types.{variant, types}
use Rattle.marshal_core.specs.Signatures.{type_at, types_at}
use Rattle.marshal_core.proofs.TypeSteps.{type_none, type_variant, type_no_array, type_array, type_no_struct, type_struct, type_basic}
use Rattle.marshal_core.proofs.TypesLoop.{IsFree, free_outside, free_before, types_next, types_close, types_open, types_end}
use Rattle.marshal_check.proofs.Recognized.{types_told, no_struct, struct_leaves, basic_leaves}
use Rattle.marshal_check.proofs.recognizing.+types.Goals as goal
use Rattle.marshal_check.proofs.recognizing.+types.Goals.{after_types-else-inside-via-then-inside+else-first-eq41, after_types-else-inside-via-else-inside}

pub after_struct-returns-then-at_end-clause-reads : goal.after_struct-returns-then-at_end-clause-reads
after_struct-returns-then-at_end-clause-reads t c =
    no_struct (type_at (c.args.arrays + c.args.structs + 1) c.args.arrays c.args.structs) c.args.text.now (sym c.at_end.ensures ∙ c.if-at_end.true)

pub after_struct-returns-clause-reads : goal.after_struct-returns-clause-reads
after_struct-returns-clause-reads t c =
    struct_leaves (λ x. x.now) c.after_types.result (type_at (c.args.arrays + c.args.structs + 1) c.args.arrays c.args.structs) c.args.text.now (sym c.at_end.ensures ∙ c.if-at_end.false) c.after_types.ensures.reads

pub after_type-returns-in_default-clause-reads : goal.after_type-returns-in_default-clause-reads
after_type-returns-in_default-clause-reads t c =
    type_none c.args.arrays c.args.structs c.args.text.now (nil_from_length c.args.text.now c.in_default.ensures.cases)

pub after_type-returns-then-first-eq118-clause-reads : goal.after_type-returns-then-first-eq118-clause-reads
after_type-returns-then-first-eq118-clause-reads t c =
    (variant, type_variant c.args.arrays c.args.structs c.in-Some.first.now c.args.text.now c.in-Some.rest.now c.in-Some.ensures.cases.0 c.if-first-eq118.true)

pub after_type-returns-then-arrays-eq0-clause-reads : goal.after_type-returns-then-arrays-eq0-clause-reads
after_type-returns-then-arrays-eq0-clause-reads t c =
    type_no_array c.args.arrays c.args.structs c.in-Some.first.now c.args.text.now c.in-Some.rest.now c.in-Some.ensures.cases.0 c.if-first-eq97.true c.if-arrays-eq0.true

pub after_type-returns-then-first-eq97-clause-reads : goal.after_type-returns-then-first-eq97-clause-reads
after_type-returns-then-first-eq97-clause-reads t c =
    rw (type_array c.args.arrays c.args.structs c.in-Some.first.now c.args.text.now c.in-Some.rest.now c.in-Some.ensures.cases.0 c.if-first-eq97.true (omega arith)) c.after_array.ensures.reads

pub after_type-returns-then-structs-eq0-clause-reads : goal.after_type-returns-then-structs-eq0-clause-reads
after_type-returns-then-structs-eq0-clause-reads t c =
    type_no_struct c.args.arrays c.args.structs c.in-Some.first.now c.args.text.now c.in-Some.rest.now c.in-Some.ensures.cases.0 c.if-first-eq40.true c.if-structs-eq0.true

pub after_type-returns-then-first-eq40-clause-reads : goal.after_type-returns-then-first-eq40-clause-reads
after_type-returns-then-first-eq40-clause-reads t c =
    rw (type_struct c.args.arrays c.args.structs c.in-Some.first.now c.args.text.now c.in-Some.rest.now c.in-Some.ensures.cases.0 c.if-first-eq40.true (omega arith)) c.after_struct.ensures.reads

pub after_type-returns-clause-reads : goal.after_type-returns-clause-reads
after_type-returns-clause-reads t c =
    rw (type_basic c.args.arrays c.args.structs c.in-Some.first.now c.args.text.now c.in-Some.rest.now c.in-Some.ensures.cases.0 c.if-first-eq118.false c.if-first-eq97.false c.if-first-eq40.false)
    (basic_leaves (λ x. x.now) c.after_basic.result c.args.text.now c.after_basic.ensures.reads)

pub after_types-returns-then-first-eq41-clause-reads : goal.after_types-returns-then-first-eq41-clause-reads
after_types-returns-then-first-eq41-clause-reads t c =
    let read = type_at (c.args.arrays + c.args.structs + 1) c.args.arrays c.args.structs in
    let so_far = c.each.invariant.reads in
    (types so_far.0, types_close c.args.inside read so_far.0 c.in-Some.first.now c.each.rest.now c.in-Some.behind.now (types_at c.args.inside read (length c.args.text.now) c.args.text.now) c.in-Some.ensures.cases.0 c.if-inside.true c.if-first-eq41.true so_far.1)

pub after_types-returns-in_err-rest-clause-reads : goal.after_types-returns-in_err-rest-clause-reads
after_types-returns-in_err-rest-clause-reads t c =
    let read = type_at (c.args.arrays + c.args.structs + 1) c.args.arrays c.args.structs in
    let p = err_from_is_err_and c.from_residual.result c.from_residual.ensures.1 in
    let so_far = c.each.invariant.reads in
    let free : IsFree c.args.inside c.in-Some.first.now = elim c.else-inside.branch [
      | after_types-else-inside-via-then-inside+else-first-eq41 w ↦ free_before c.args.inside c.in-Some.first.now w.if-first-eq41.false
      | after_types-else-inside-via-else-inside w ↦ free_outside c.args.inside c.in-Some.first.now w.if-inside.false
    ] in
    rw (p.1, p.2) (types_told c.in_err-rest.field-0.0 c.args.inside read so_far.0 c.in-Some.first.now c.each.rest.now c.in-Some.behind.now (types_at c.args.inside read (length c.args.text.now) c.args.text.now) c.in-Some.ensures.cases.0 free c.in_err-rest.ensures.reads so_far.1)

pub after_types-each-preserved : goal.after_types-each-preserved
after_types-each-preserved t c =
    let read = type_at (c.args.arrays + c.args.structs + 1) c.args.arrays c.args.structs in
    let so_far = c.each.invariant.reads in
    let one = c.in_ok-rest.ensures.reads in
    let free : IsFree c.args.inside c.in-Some.first.now = elim c.else-inside.branch [
      | after_types-else-inside-via-then-inside+else-first-eq41 w ↦ free_before c.args.inside c.in-Some.first.now w.if-first-eq41.false
      | after_types-else-inside-via-else-inside w ↦ free_outside c.args.inside c.in-Some.first.now w.if-inside.false
    ] in
    record {
      reads = (so_far.0 ++ one.0 ∷ [], types_next c.args.inside read so_far.0 c.in-Some.first.now c.each.rest.now c.in-Some.behind.now c.in_ok-rest.rest.now one.0 (types_at c.args.inside read (length c.args.text.now) c.args.text.now) c.in-Some.ensures.cases.0 free one.1 c.in_ok-rest.ensures.shorter so_far.1);
      within = omega (arith, c.in_ok-rest.ensures.shorter, c.each.invariant.within);
    }

pub after_types-returns-then-inside-2-clause-reads : goal.after_types-returns-then-inside-2-clause-reads
after_types-returns-then-inside-2-clause-reads t c =
    let read = type_at (c.args.arrays + c.args.structs + 1) c.args.arrays c.args.structs in
    let so_far = c.each.invariant.reads in
    types_open c.args.inside read so_far.0 c.each.rest.now (types_at c.args.inside read (length c.args.text.now) c.args.text.now) (nil_from_length c.each.rest.now c.in_default.ensures.cases) c.if-inside-2.true so_far.1

pub after_types-returns-clause-reads : goal.after_types-returns-clause-reads
after_types-returns-clause-reads t c =
    let read = type_at (c.args.arrays + c.args.structs + 1) c.args.arrays c.args.structs in
    let so_far = c.each.invariant.reads in
    (types so_far.0, types_end c.args.inside read so_far.0 c.each.rest.now (types_at c.args.inside read (length c.args.text.now) c.args.text.now) (nil_from_length c.each.rest.now c.in_default.ensures.cases) c.if-inside-2.false so_far.1)
