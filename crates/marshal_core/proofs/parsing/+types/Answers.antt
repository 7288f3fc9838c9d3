use Rattle.std.proofs.Common.{◌≡◌, ◌+◌, ◌<◌, ◌∷◌, ◌++◌, [], length, map, arith, refl}
use Rattle.std.proofs.lemmas.Result.{err_from_is_err_and}
use Rattle.std.proofs.lemmas.List.{nil_from_length, map_push}
use Rattle.std.proofs.lemmas.Grind.{common_steps}
use Rattle.std.proofs.lemmas.Bool.Decides.{nat_tests}
use Rattle.marshal_core.specs.declared.data_type.DataType.{Variant}
use Rattle.marshal_core.specs.declared.data_type.DataType.TheViews as DataType
use Rattle.marshal_core.specs.Types.{ty_of}
use Rattle.marshal_core.specs.Signatures.{type_at, types_at, struct_type_at, basic_type_at}
use Rattle.marshal_core.proofs.Views.{ty_variant, ty_struct}
use Rattle.marshal_core.proofs.TypeSteps.{type_none, type_variant, type_no_array, type_array, type_no_struct, type_struct, type_basic, told}
use Rattle.marshal_core.proofs.TypesLoop.{IsFree, free_outside, free_before, types_next, types_fail, types_close, types_open, types_end, made_struct}
use Rattle.marshal_core.proofs.parsing.+types.Goals as goal
use Rattle.marshal_core.proofs.parsing.+types.Goals.{types-else-inside-via-then-inside+else-first-eq41, types-else-inside-via-else-inside}

pub complete_type-returns-in_default-clause-reads : goal.complete_type-returns-in_default-clause-reads
complete_type-returns-in_default-clause-reads t c = λ known.
    type_none c.args.arrays c.args.structs c.args.text.now (nil_from_length c.args.text.now c.in_default.ensures.cases)

pub complete_type-returns-then-first-eq118-clause-reads : goal.complete_type-returns-then-first-eq118-clause-reads
complete_type-returns-then-first-eq118-clause-reads t c =
    rw (ty_variant Variant refl) (type_variant c.args.arrays c.args.structs c.in-Some.first.now c.args.text.now c.in-Some.rest.now c.in-Some.ensures.cases.0 c.if-first-eq118.true)

pub complete_type-returns-then-arrays-eq0-clause-reads : goal.complete_type-returns-then-arrays-eq0-clause-reads
complete_type-returns-then-arrays-eq0-clause-reads t c = λ known.
    type_no_array c.args.arrays c.args.structs c.in-Some.first.now c.args.text.now c.in-Some.rest.now c.in-Some.ensures.cases.0 c.if-first-eq97.true c.if-arrays-eq0.true

pub complete_type-returns-then-first-eq97-clause-reads : goal.complete_type-returns-then-first-eq97-clause-reads
complete_type-returns-then-first-eq97-clause-reads t c =
    rw (type_array c.args.arrays c.args.structs c.in-Some.first.now c.args.text.now c.in-Some.rest.now c.in-Some.ensures.cases.0 c.if-first-eq97.true (omega arith)) c.array_type.ensures.reads

pub complete_type-returns-then-structs-eq0-clause-reads : goal.complete_type-returns-then-structs-eq0-clause-reads
complete_type-returns-then-structs-eq0-clause-reads t c = λ known.
    type_no_struct c.args.arrays c.args.structs c.in-Some.first.now c.args.text.now c.in-Some.rest.now c.in-Some.ensures.cases.0 c.if-first-eq40.true c.if-structs-eq0.true

pub complete_type-returns-then-first-eq40-clause-reads : goal.complete_type-returns-then-first-eq40-clause-reads
complete_type-returns-then-first-eq40-clause-reads t c =
    rw (type_struct c.args.arrays c.args.structs c.in-Some.first.now c.args.text.now c.in-Some.rest.now c.in-Some.ensures.cases.0 c.if-first-eq40.true (omega arith)) c.struct_type.ensures.reads

pub complete_type-returns-clause-reads : goal.complete_type-returns-clause-reads
complete_type-returns-clause-reads t c =
    rw (type_basic c.args.arrays c.args.structs c.in-Some.first.now c.args.text.now c.in-Some.rest.now c.in-Some.ensures.cases.0 c.if-first-eq118.false c.if-first-eq97.false c.if-first-eq40.false)
    (told (λ x. (ty_of x.0, x.1.now)) c.basic_data_type.result (basic_type_at c.args.text.now) c.basic_data_type.ensures.reads)

pub struct_type-returns-clause-reads : goal.struct_type-returns-clause-reads
unfolding struct_type_at
struct_type-returns-clause-reads t c =
    let some : 0 < length (map ty_of c.in_ok-fields.fields.items) = grind (arith, common_steps, nat_tests) in
    rw (ty_struct (DataType.Struct c.in_ok-fields.fields) c.in_ok-fields.fields refl, c.in_ok-fields.ensures.reads) (made_struct (map ty_of c.in_ok-fields.fields.items) c.in_ok-fields.rest.now some)

pub types-returns-then-first-eq41-clause-reads : goal.types-returns-then-first-eq41-clause-reads
types-returns-then-first-eq41-clause-reads t c =
    let read = type_at (c.args.arrays + c.args.structs + 1) c.args.arrays c.args.structs in
    types_close c.args.inside read (map ty_of c.each.types.items) c.in-Some.first.now c.each.rest.now c.in-Some.behind.now (types_at c.args.inside read (length c.args.text.now) c.args.text.now) c.in-Some.ensures.cases.0 c.if-inside.true c.if-first-eq41.true c.each.invariant.reads

pub types-returns-in_err-one-clause-reads : goal.types-returns-in_err-one-clause-reads
types-returns-in_err-one-clause-reads t c =
    let read = type_at (c.args.arrays + c.args.structs + 1) c.args.arrays c.args.structs in
    let p = err_from_is_err_and c.from_residual.result c.from_residual.ensures.1 in
    let free : IsFree c.args.inside c.in-Some.first.now = elim c.else-inside.branch [
      | types-else-inside-via-then-inside+else-first-eq41 w ↦ free_before c.args.inside c.in-Some.first.now w.if-first-eq41.false
      | types-else-inside-via-else-inside w ↦ free_outside c.args.inside c.in-Some.first.now w.if-inside.false
    ] in
    rw (p.1, p.2) (types_fail c.in_err-one.field-0.0 c.args.inside read (map ty_of c.each.types.items) c.in-Some.first.now c.each.rest.now c.in-Some.behind.now (types_at c.args.inside read (length c.args.text.now) c.args.text.now) c.in-Some.ensures.cases.0 free c.in_err-one.ensures.reads c.each.invariant.reads)

pub types-each-preserved : goal.types-each-preserved
types-each-preserved t c =
    let read = type_at (c.args.arrays + c.args.structs + 1) c.args.arrays c.args.structs in
    let e : map ty_of c.push.new.self.items ≡ map ty_of c.each.types.items ++ ty_of c.in_ok-one.one ∷ [] = rw c.in_ok-push.ensures.items (map_push ty_of c.each.types.items c.in_ok-one.one) in
    let free : IsFree c.args.inside c.in-Some.first.now = elim c.else-inside.branch [
      | types-else-inside-via-then-inside+else-first-eq41 w ↦ free_before c.args.inside c.in-Some.first.now w.if-first-eq41.false
      | types-else-inside-via-else-inside w ↦ free_outside c.args.inside c.in-Some.first.now w.if-inside.false
    ] in
    record {
      reads = rw e (types_next c.args.inside read (map ty_of c.each.types.items) c.in-Some.first.now c.each.rest.now c.in-Some.behind.now c.in_ok-one.after.now (ty_of c.in_ok-one.one) (types_at c.args.inside read (length c.args.text.now) c.args.text.now) c.in-Some.ensures.cases.0 free c.in_ok-one.ensures.reads c.in_ok-one.ensures.shorter c.each.invariant.reads);
      within = omega (arith, c.in_ok-one.ensures.shorter);
    }

pub types-returns-then-inside-2-clause-reads : goal.types-returns-then-inside-2-clause-reads
types-returns-then-inside-2-clause-reads t c = λ known.
    types_open c.args.inside (type_at (c.args.arrays + c.args.structs + 1) c.args.arrays c.args.structs) (map ty_of c.each.types.items) c.each.rest.now (types_at c.args.inside (type_at (c.args.arrays + c.args.structs + 1) c.args.arrays c.args.structs) (length c.args.text.now) c.args.text.now) (nil_from_length c.each.rest.now c.in_default.ensures.cases) c.if-inside-2.true c.each.invariant.reads

pub types-returns-clause-reads : goal.types-returns-clause-reads
types-returns-clause-reads t c =
    types_end c.args.inside (type_at (c.args.arrays + c.args.structs + 1) c.args.arrays c.args.structs) (map ty_of c.each.types.items) c.each.rest.now (types_at c.args.inside (type_at (c.args.arrays + c.args.structs + 1) c.args.arrays c.args.structs) (length c.args.text.now) c.args.text.now) (nil_from_length c.each.rest.now c.in_default.ensures.cases) c.if-inside-2.false c.each.invariant.reads
