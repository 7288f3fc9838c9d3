use Rattle.std.proofs.Common.{◌≡◌, true, false, ◌∷◌, ◌++◌, [], length, arith, sym, ◌∙◌, refl, rules, inl}
use Rattle.std.proofs.lemmas.Result.{err_from_is_err_and}
use Rattle.marshal_core.specs.Types.{basic}
use Rattle.marshal_core.specs.Values.{a_basic, values}
use Rattle.marshal_core.specs.Signatures.{code, entry_end, struct_end}
use Rattle.marshal_core.specs.Reading.{value_at, elements_at, fields_at, basic_at}
use Rattle.marshal.proofs.Loops.{some_left, none_left, elements_begin, elements_next, elements_end}
use Rattle.marshal.proofs.Layers.{value_basic, value_variant, value_array, value_entry, value_struct}
use Rattle.marshal_check.specs.Checking.{is_end}
use Rattle.marshal_check.proofs.Skipping.{as_skips, is_basic, not_empty, too_deep, is_variant, is_array, is_entry, is_struct, variant_fault, variant_skips, array_fault, array_element_fault, array_done, elements_told, entry_gap, entry_key, entry_skips, texts_next, texts_told, texts_end, struct_none, struct_gap, struct_skips}
use Rattle.marshal_check.proofs.FreeElements.{first_is_aligned, all_whole, last_short}
use Rattle.marshal_check.proofs.checking.+values.Goals as goal

pub each_element-each-init : goal.each_element-each-init
each_element-each-init g t c = record {
  reads = λ u tail e. ([], elements_begin (value_at c.args.depth g.O.Endian.order) u c.args.at c.args.bytes.now);
  place = refl;
}

pub array-returns-in_err-place-clause-reads : goal.array-returns-in_err-place-clause-reads
array-returns-in_err-place-clause-reads g t c = λ u tail e.
    let p = err_from_is_err_and c.from_residual.result c.from_residual.ensures.1 in
    rw (p.1, p.2) (array_fault (value_at c.args.depth g.O.Endian.order) g.O.Endian.order c.args.short c.in_err-place.field-0.0 u c.alignment.result c.args.at c.args.bytes.now (c.alignment.ensures.value u tail e) c.in_err-place.ensures.reads)

pub array-returns-in_err-elements-clause-reads : goal.array-returns-in_err-elements-clause-reads
array-returns-in_err-elements-clause-reads g t c = λ u tail e.
    let p = err_from_is_err_and c.from_residual-in_err-elements.result c.from_residual-in_err-elements.ensures.1 in
    let a = c.alignment.ensures.value u tail e in
    let al = first_is_aligned g.O.Endian.order c.args.short u c.alignment.result c.args.at c.in_ok-place.place c.in_ok-place.at c.args.bytes.now c.in_ok-place.inside.now c.in_ok-place.rest.now a c.in_ok-place.ensures.reads in
    rw (p.1, p.2) (array_element_fault (value_at c.args.depth g.O.Endian.order) g.O.Endian.order c.args.short c.in_err-elements.field-0.0 u c.alignment.result c.args.at c.in_ok-place.place c.in_ok-place.at c.args.bytes.now c.in_ok-place.inside.now c.in_ok-place.rest.now a c.in_ok-place.ensures.reads (c.in_err-elements.ensures u tail e al))

pub array-returns-clause-reads : goal.array-returns-clause-reads
array-returns-clause-reads g t c = λ u tail e.
    let a = c.alignment.ensures.value u tail e in
    let al = first_is_aligned g.O.Endian.order c.args.short u c.alignment.result c.args.at c.in_ok-place.place c.in_ok-place.at c.args.bytes.now c.in_ok-place.inside.now c.in_ok-place.rest.now a c.in_ok-place.ensures.reads in
    array_done (value_at c.args.depth g.O.Endian.order) g.O.Endian.order c.args.short u c.alignment.result c.args.at c.in_ok-place.place c.in_ok-place.at c.args.bytes.now c.in_ok-place.inside.now c.in_ok-place.rest.now a c.in_ok-place.ensures.reads (c.in_ok-elements.ensures u tail e al)

pub container-returns-then-depth-eq0-clause-reads : goal.container-returns-then-depth-eq0-clause-reads
container-returns-then-depth-eq0-clause-reads g t c = λ u tail e h.
    too_deep u tail c.args.inner.now c.args.letter c.args.depth g.O.Endian.order c.args.short c.args.at c.args.bytes.now e h c.if-depth-eq0.true

pub container-returns-then-letter-eq118-clause-reads : goal.container-returns-then-letter-eq118-clause-reads
container-returns-then-letter-eq118-clause-reads g t c = λ u tail e h.
    let k = is_variant u tail c.args.inner.now c.args.letter e h c.if-letter-eq118.true in
    rw (k, value_variant c.args.depth g.O.Endian.order c.args.short c.args.at c.args.bytes.now (omega (arith, c.if-depth-eq0.false))) c.variant.ensures.reads

pub container-returns-then-letter-eq97-clause-reads : goal.container-returns-then-letter-eq97-clause-reads
container-returns-then-letter-eq97-clause-reads g t c = λ u tail e h.
    let k = is_array u tail c.args.inner.now c.args.letter e h c.if-letter-eq97.true in
    rw (k.1, value_array c.args.depth g.O.Endian.order c.args.short k.0 c.args.at c.args.bytes.now (omega (arith, c.if-depth-eq0.false))) (c.array.ensures.reads k.0 tail k.2)

pub container-returns-then-letter-eq123-clause-reads : goal.container-returns-then-letter-eq123-clause-reads
container-returns-then-letter-eq123-clause-reads g t c = λ u tail e h.
    let k = is_entry u tail c.args.inner.now c.args.letter e h c.if-letter-eq123.true in
    rw (k.2, value_entry c.args.depth g.O.Endian.order c.args.short k.0 k.1 c.args.at c.args.bytes.now (omega (arith, c.if-depth-eq0.false))) (c.entry.ensures.reads k.0 k.1 tail k.3)

pub container-returns-clause-reads : goal.container-returns-clause-reads
container-returns-clause-reads g t c = λ u tail e h.
    let k = is_struct u tail c.args.inner.now c.args.letter e h c.if-letter-eq118.false c.if-letter-eq97.false c.if-letter-eq123.false in
    rw (k.1, value_struct c.args.depth g.O.Endian.order c.args.short k.0 c.args.at c.args.bytes.now (omega (arith, c.if-depth-eq0.false))) (c.structure.ensures.reads k.0 tail k.2)

pub each_element-returns-in_err-place : goal.each_element-returns-in_err-place
each_element-returns-in_err-place g t c = λ u tail e.
    let total = elements_at (value_at c.args.depth g.O.Endian.order) u (length c.args.bytes.now) c.args.at c.args.bytes.now in
    let p = err_from_is_err_and c.from_residual.result c.from_residual.ensures.1 in
    let so_far = c.each.invariant.reads u tail e in
    rw (p.1, p.2) (elements_told c.in_err-place.field-0.0 (value_at c.args.depth g.O.Endian.order) u so_far.0 c.each.place c.each.rest.now total (some_left c.is_empty.result (length c.each.rest.now) c.is_empty.ensures (search rules)) (c.in_err-place.ensures.reads u tail e) so_far.1)

pub each_element-each-preserved : goal.each_element-each-preserved
each_element-each-preserved g t c =
    record {
      reads = λ u tail e.
          let total = elements_at (value_at c.args.depth g.O.Endian.order) u (length c.args.bytes.now) c.args.at c.args.bytes.now in
          let so_far = c.each.invariant.reads u tail e in
          let one = c.in_ok-place.ensures.reads u tail e in
          (so_far.0 ++ one.0 ∷ [], elements_next (value_at c.args.depth g.O.Endian.order) u so_far.0 c.each.place c.each.rest.now one.0 c.in_ok-place.field-0-0 c.in_ok-place.field-0-1.now total (some_left c.is_empty.result (length c.each.rest.now) c.is_empty.ensures (search rules)) one.1 c.in_ok-place.ensures.shorter so_far.1);
      place = omega (arith, c.in_ok-place.ensures.place, c.each.invariant.place);
    }

pub each_element-returns : goal.each_element-returns
each_element-returns g t c = λ u tail e.
    let total = elements_at (value_at c.args.depth g.O.Endian.order) u (length c.args.bytes.now) c.args.at c.args.bytes.now in
    let so_far = c.each.invariant.reads u tail e in
    (values so_far.0, elements_end (value_at c.args.depth g.O.Endian.order) u so_far.0 c.each.place c.each.rest.now total (omega (arith, none_left c.is_empty.result (length c.each.rest.now) c.is_empty.ensures (search rules))) so_far.1)

pub elements-returns-then-bytes-size-eq0 : goal.elements-returns-then-bytes-size-eq0
elements-returns-then-bytes-size-eq0 g t c = λ u tail e al.
    all_whole u c.in-Some.size (sym c.in-Some.is ∙ c.free_element.ensures.size u tail e) c.args.depth g.O.Endian.order c.args.at c.args.bytes.now al (search rules)

pub elements-returns-else-bytes-size-eq0 : goal.elements-returns-else-bytes-size-eq0
elements-returns-else-bytes-size-eq0 g t c = λ u tail e al.
    last_short u c.in-Some.size (sym c.in-Some.is ∙ c.free_element.ensures.size u tail e) c.args.depth g.O.Endian.order c.args.at c.args.bytes.now al (omega arith)

pub entry-returns-in_err-at-clause-reads : goal.entry-returns-in_err-at-clause-reads
entry-returns-in_err-at-clause-reads g t c = λ k u tail e.
    let p = err_from_is_err_and c.from_residual.result c.from_residual.ensures.1 in
    rw (p.1, p.2) (entry_gap (value_at c.args.depth g.O.Endian.order) g.O.Endian.order c.args.short c.in_err-at.field-0.0 k u c.args.at c.args.bytes.now c.in_err-at.ensures.reads)

pub entry-returns-in_err-at-2-clause-reads : goal.entry-returns-in_err-at-2-clause-reads
entry-returns-in_err-at-2-clause-reads g t c = λ k u tail e.
    let p = err_from_is_err_and c.from_residual-in_err-at-2.result c.from_residual-in_err-at-2.ensures.1 in
    rw (p.1, p.2) (entry_key c.args.depth g.O.Endian.order c.args.short c.in_err-at-2.field-0.0 k u c.args.at c.in_ok-at.at c.args.bytes.now c.in_ok-at.rest.now c.in_ok-at.ensures.reads (c.in_err-at-2.ensures.reads (basic k) (code u ++ entry_end ∷ tail) e))

pub entry-returns-clause-reads : goal.entry-returns-clause-reads
entry-returns-clause-reads g t c = λ k u tail e.
    let key = c.in_ok-at-2.ensures.reads (basic k) (code u ++ entry_end ∷ tail) e in
    let after = c.skip_type.ensures.rest (basic k) (code u ++ entry_end ∷ tail) e in
    entry_skips (λ x. (x.0, x.1.now)) c.value-2.result c.args.depth g.O.Endian.order c.args.short k u c.args.at c.in_ok-at.at c.in_ok-at-2.at c.args.bytes.now c.in_ok-at.rest.now c.in_ok-at-2.rest.now key.0 c.in_ok-at.ensures.reads key.1 (c.value-2.ensures.reads u (entry_end ∷ tail) after)

pub fields-returns-in_err-place-clause-reads : goal.fields-returns-in_err-place-clause-reads
fields-returns-in_err-place-clause-reads g t c = λ ts tail e last.
    let p = err_from_is_err_and c.from_residual.result c.from_residual.ensures.1 in
    let some : is_end c.each.types.now ≡ false = sym c.at_end.ensures ∙ (search rules) in
    rw (p.1, p.2) (texts_told (value_at c.args.depth g.O.Endian.order) c.args.short c.in_err-place.field-0.0 tail c.each.types.now c.each.place c.each.rest.now (fields_at (value_at c.args.depth g.O.Endian.order) c.args.short ts c.args.at c.args.bytes.now) (c.each.invariant.reads ts tail e last) some last c.in_err-place.ensures.reads)

pub fields-each-preserved : goal.fields-each-preserved
fields-each-preserved g t c =
    let some : is_end c.each.types.now ≡ false = sym c.at_end.ensures ∙ (search rules) in
    record {
      reads = λ ts tail e last.
          texts_next (value_at c.args.depth g.O.Endian.order) c.args.short tail c.each.types.now c.skip_type-types.result.now c.each.place c.in_ok-place.field-0-0 c.each.rest.now c.in_ok-place.field-0-1.now (fields_at (value_at c.args.depth g.O.Endian.order) c.args.short ts c.args.at c.args.bytes.now) (c.each.invariant.reads ts tail e last) some last c.skip_type-types.ensures.rest c.in_ok-place.ensures.reads;
      place = omega (arith, c.in_ok-place.ensures.place, c.each.invariant.place);
      within = omega (arith, c.in_ok-place.ensures.shorter, c.each.invariant.within);
      begun = inl (omega (arith, c.in_ok-place.ensures.shorter, c.each.invariant.within));
    }

pub fields-returns-clause-reads : goal.fields-returns-clause-reads
fields-returns-clause-reads g t c = λ ts tail e last.
    let none : is_end c.each.types.now ≡ true = sym c.at_end.ensures ∙ (search rules) in
    texts_end (value_at c.args.depth g.O.Endian.order) c.args.short tail c.each.types.now c.each.place c.each.rest.now (fields_at (value_at c.args.depth g.O.Endian.order) c.args.short ts c.args.at c.args.bytes.now) (c.each.invariant.reads ts tail e last) none

pub structure-returns-then-at_end-clause-reads : goal.structure-returns-then-at_end-clause-reads
structure-returns-then-at_end-clause-reads g t c = λ ts tail e.
    struct_none (value_at c.args.depth g.O.Endian.order) c.args.short ts tail c.args.of.now c.args.at c.args.bytes.now e (sym c.at_end.ensures ∙ c.if-at_end.true)

pub structure-returns-in_err-at-clause-reads : goal.structure-returns-in_err-at-clause-reads
structure-returns-in_err-at-clause-reads g t c = λ ts tail e.
    let p = err_from_is_err_and c.from_residual.result c.from_residual.ensures.1 in
    rw (p.1, p.2) (struct_gap (value_at c.args.depth g.O.Endian.order) c.args.short c.in_err-at.field-0.0 ts tail c.args.of.now c.args.at c.args.bytes.now e (sym c.at_end.ensures ∙ c.if-at_end.false) c.in_err-at.ensures.reads)

pub structure-returns-clause-reads : goal.structure-returns-clause-reads
structure-returns-clause-reads g t c = λ ts tail e.
    struct_skips (λ x. (x.0, x.1.now)) c.fields.result (value_at c.args.depth g.O.Endian.order) c.args.short ts tail c.args.of.now c.args.at c.in_ok-at.at c.args.bytes.now c.in_ok-at.rest.now e (sym c.at_end.ensures ∙ c.if-at_end.false) c.in_ok-at.ensures.reads (c.fields.ensures.reads ts (struct_end ∷ tail) e refl)

pub value-returns-in_default-clause-reads : goal.value-returns-in_default-clause-reads
value-returns-in_default-clause-reads g t c = λ u tail e. absurd (not_empty u tail c.args.of.now e c.in_default.ensures.cases)

pub value-returns-in-Some-from_code-clause-reads : goal.value-returns-in-Some-from_code-clause-reads
value-returns-in-Some-from_code-clause-reads g t c = λ u tail e.
    let k = is_basic u tail c.args.of.now c.in-Some.inner.now c.in-Some.first.now c.in-Some-from_code.of e c.in-Some.ensures.cases.0 (sym c.from_code.ensures ∙ c.in-Some-from_code.is) in
    rw (k, value_basic c.args.depth g.O.Endian.order c.args.short c.in-Some-from_code.of c.args.at c.args.bytes.now) (as_skips (λ x. (x.0, x.1.now)) a_basic c.basic.result (basic_at g.O.Endian.order c.args.short c.in-Some-from_code.of c.args.at c.args.bytes.now) c.basic.ensures.reads)

pub variant-returns-in_err-of-clause-reads : goal.variant-returns-in_err-of-clause-reads
variant-returns-in_err-of-clause-reads g t c =
    let p = err_from_is_err_and c.from_residual.result c.from_residual.ensures.1 in
    rw (p.1, p.2) (variant_fault (value_at c.args.depth g.O.Endian.order) c.args.short c.in_err-of.field-0.0 c.args.at c.args.bytes.now c.in_err-of.ensures.reads)

pub variant-returns-clause-reads : goal.variant-returns-clause-reads
variant-returns-clause-reads g t c =
    let held = c.in_ok-of.ensures.reads in
    variant_skips (λ x. (x.0, x.1.now)) c.value.result (value_at c.args.depth g.O.Endian.order) c.args.short c.args.at c.in_ok-of.at c.args.bytes.now c.in_ok-of.of.now c.in_ok-of.rest.now held.0 held.1 held.2 c.value.ensures.reads
