use Rattle.std.proofs.Common.{◌≡◌, ◌+◌, ◌<◌, ◌∷◌, ◌++◌, [], length, map, drop, arith, refl, rules}
use Rattle.std.proofs.lemmas.Result.{err_from_is_err_and}
use Rattle.std.proofs.lemmas.List.{map_push, drop_all, length-map}
use Rattle.marshal_core.specs.declared.fault.MarshalFault.TheVariants.{ArrayLength}
use Rattle.marshal_core.specs.Types.{ty_of, types_of, entry}
use Rattle.marshal_core.specs.Values.{val_of, entry_of}
use Rattle.marshal_core.specs.Reading.{value_at, array_at, elements_at, fields_at}
use Rattle.marshal_core.proofs.Views.{ty_basic, ty_variant, ty_array, ty_dictionary, ty_struct}
use Rattle.marshal.proofs.Loops.{elements_next, elements_fail, elements_end, FieldsSoFar, fields_next, fields_fail, fields_end, some_left, none_left, drop_one}
use Rattle.marshal.proofs.Layers.{value_basic, value_variant, value_array, value_entry, value_struct, deep_variant, deep_array, deep_entry, deep_struct, some_fields}
use Rattle.marshal.proofs.ValueViews.{val_dictionary}
use Rattle.marshal.proofs.decoding.+values.Goals as goal

pub dictionary-returns-clause-reads : goal.dictionary-returns-clause-reads
unfolding array_at
dictionary-returns-clause-reads g t c =
    rw (val_dictionary c.args.key c.in_ok-of.of c.in_ok-items.items, c.in_ok-place.ensures.reads, c.in_ok-items.ensures, c.in_ok-of.ensures) refl

pub elements-returns-in_err-one : goal.elements-returns-in_err-one
elements-returns-in_err-one g t c =
    let total = elements_at (value_at c.args.depth g.O.Endian.order) (ty_of c.args.of.now) (length c.args.bytes.now) c.args.at c.args.bytes.now in
    let p = err_from_is_err_and c.from_residual.result c.from_residual.ensures.1 in
    rw (p.1, p.2) (elements_fail c.in_err-one.field-0.0 (value_at c.args.depth g.O.Endian.order) (ty_of c.args.of.now) (map val_of c.each.items.items) c.each.place c.each.rest.now total (some_left c.is_empty.result (length c.each.rest.now) c.is_empty.ensures (search rules)) c.in_err-one.ensures.reads c.each.invariant.reads)

pub elements-each-preserved : goal.elements-each-preserved
elements-each-preserved g t c =
    let total = elements_at (value_at c.args.depth g.O.Endian.order) (ty_of c.args.of.now) (length c.args.bytes.now) c.args.at c.args.bytes.now in
    let e : map val_of c.push.new.self.items ≡ map val_of c.each.items.items ++ val_of c.in_ok-one.one ∷ [] = rw c.in_ok-push.ensures.items (map_push val_of c.each.items.items c.in_ok-one.one) in
    record {
      reads = rw e (elements_next (value_at c.args.depth g.O.Endian.order) (ty_of c.args.of.now) (map val_of c.each.items.items) c.each.place c.each.rest.now (val_of c.in_ok-one.one) c.in_ok-one.after c.in_ok-one.behind.now total (some_left c.is_empty.result (length c.each.rest.now) c.is_empty.ensures (search rules)) c.in_ok-one.ensures.reads c.in_ok-one.ensures.shorter c.each.invariant.reads);
      place = omega (arith, c.in_ok-one.ensures.place, c.each.invariant.place);
    }

pub elements-returns : goal.elements-returns
elements-returns g t c =
    let total = elements_at (value_at c.args.depth g.O.Endian.order) (ty_of c.args.of.now) (length c.args.bytes.now) c.args.at c.args.bytes.now in
    elements_end (value_at c.args.depth g.O.Endian.order) (ty_of c.args.of.now) (map val_of c.each.items.items) c.each.place c.each.rest.now total (omega (arith, none_left c.is_empty.result (length c.each.rest.now) c.is_empty.ensures (search rules))) c.each.invariant.reads

pub entries-returns-in_err-one : goal.entries-returns-in_err-one
entries-returns-in_err-one g t c =
    let of = entry c.args.key (ty_of c.args.of.now) in
    let total = elements_at (value_at c.args.depth g.O.Endian.order) of (length c.args.bytes.now) c.args.at c.args.bytes.now in
    let p = err_from_is_err_and c.from_residual.result c.from_residual.ensures.1 in
    rw (p.1, p.2) (elements_fail c.in_err-one.field-0.0 (value_at c.args.depth g.O.Endian.order) of (map entry_of c.each.items.items) c.each.place c.each.rest.now total (some_left c.is_empty.result (length c.each.rest.now) c.is_empty.ensures (search rules)) c.in_err-one.ensures.reads c.each.invariant.reads)

pub entries-each-preserved : goal.entries-each-preserved
entries-each-preserved g t c =
    let of = entry c.args.key (ty_of c.args.of.now) in
    let total = elements_at (value_at c.args.depth g.O.Endian.order) of (length c.args.bytes.now) c.args.at c.args.bytes.now in
    let e : map entry_of c.push.new.self.items ≡ map entry_of c.each.items.items ++ entry_of c.in_ok-one.one ∷ [] = rw c.in_ok-push.ensures.items (map_push entry_of c.each.items.items c.in_ok-one.one) in
    record {
      reads = rw e (elements_next (value_at c.args.depth g.O.Endian.order) of (map entry_of c.each.items.items) c.each.place c.each.rest.now (entry_of c.in_ok-one.one) c.in_ok-one.after c.in_ok-one.behind.now total (some_left c.is_empty.result (length c.each.rest.now) c.is_empty.ensures (search rules)) c.in_ok-one.ensures.reads c.in_ok-one.ensures.shorter c.each.invariant.reads);
      place = omega (arith, c.in_ok-one.ensures.place, c.each.invariant.place);
    }

pub entries-returns : goal.entries-returns
entries-returns g t c =
    let of = entry c.args.key (ty_of c.args.of.now) in
    let total = elements_at (value_at c.args.depth g.O.Endian.order) of (length c.args.bytes.now) c.args.at c.args.bytes.now in
    elements_end (value_at c.args.depth g.O.Endian.order) of (map entry_of c.each.items.items) c.each.place c.each.rest.now total (omega (arith, none_left c.is_empty.result (length c.each.rest.now) c.is_empty.ensures (search rules))) c.each.invariant.reads

pub fields-returns-in_err-read-clause-reads : goal.fields-returns-in_err-read-clause-reads
fields-returns-in_err-read-clause-reads g t c =
    let total = fields_at (value_at c.args.depth g.O.Endian.order) c.args.short (types_of c.args.of.now) c.args.at c.args.bytes.now in
    let p = err_from_is_err_and c.from_residual.result c.from_residual.ensures.1 in
    let e = drop_one c.args.of.now c.loop-one.one-index c.one-item.result c.loop-one-test.true c.one-item.is in
    let so_far : FieldsSoFar (value_at c.args.depth g.O.Endian.order) c.args.short (ty_of c.one-item.result ∷ map ty_of (drop (c.loop-one.one-index + 1) c.args.of.now)) (map val_of c.loop-one.items.items) c.loop-one.place c.loop-one.rest.now total = rw e at c.loop-one.invariant.reads in
    rw (p.1, p.2) (fields_fail c.in_err-read.field-0.0 (value_at c.args.depth g.O.Endian.order) c.args.short (ty_of c.one-item.result) (map ty_of (drop (c.loop-one.one-index + 1) c.args.of.now)) (map val_of c.loop-one.items.items) c.loop-one.place c.loop-one.rest.now total c.in_err-read.ensures.reads so_far)

pub fields-loop-one-preserved : goal.fields-loop-one-preserved
fields-loop-one-preserved g t c =
    let total = fields_at (value_at c.args.depth g.O.Endian.order) c.args.short (types_of c.args.of.now) c.args.at c.args.bytes.now in
    let e = drop_one c.args.of.now c.loop-one.one-index c.one-item.result c.loop-one-test.true c.one-item.is in
    let so_far : FieldsSoFar (value_at c.args.depth g.O.Endian.order) c.args.short (ty_of c.one-item.result ∷ map ty_of (drop (c.loop-one.one-index + 1) c.args.of.now)) (map val_of c.loop-one.items.items) c.loop-one.place c.loop-one.rest.now total = rw e at c.loop-one.invariant.reads in
    let f : map val_of c.push.new.self.items ≡ map val_of c.loop-one.items.items ++ val_of c.in_ok-read.read ∷ [] = rw c.in_ok-push.ensures.items (map_push val_of c.loop-one.items.items c.in_ok-read.read) in
    record {
      reads = rw f (fields_next (value_at c.args.depth g.O.Endian.order) c.args.short (ty_of c.one-item.result) (map ty_of (drop (c.loop-one.one-index + 1) c.args.of.now)) (map val_of c.loop-one.items.items) c.loop-one.place c.loop-one.rest.now (val_of c.in_ok-read.read) c.in_ok-read.after c.in_ok-read.behind.now total c.in_ok-read.ensures.reads so_far);
      place = omega (arith, c.in_ok-read.ensures.place, c.loop-one.invariant.place);
      within = omega (arith, c.in_ok-read.ensures.shorter, c.loop-one.invariant.within);
    }

pub fields-returns-clause-reads : goal.fields-returns-clause-reads
fields-returns-clause-reads g t c =
    let total = fields_at (value_at c.args.depth g.O.Endian.order) c.args.short (types_of c.args.of.now) c.args.at c.args.bytes.now in
    let k : drop c.loop-one.one-index c.args.of.now ≡ [] = drop_all c.loop-one.one-index c.args.of.now c.loop-one-test.false in
    let so_far : FieldsSoFar (value_at c.args.depth g.O.Endian.order) c.args.short [] (map val_of c.loop-one.items.items) c.loop-one.place c.loop-one.rest.now total = rw k at c.loop-one.invariant.reads in
    fields_end (value_at c.args.depth g.O.Endian.order) c.args.short (map val_of c.loop-one.items.items) c.loop-one.place c.loop-one.rest.now total so_far

pub one_entry-returns-then-depth-eq0-clause-reads : goal.one_entry-returns-then-depth-eq0-clause-reads
one_entry-returns-then-depth-eq0-clause-reads g t c = λ known.
    deep_entry c.args.depth g.O.Endian.order ArrayLength c.args.key (ty_of c.args.of.now) c.args.at c.args.bytes.now c.if-depth-eq0.true

pub one_entry-returns-clause-reads : goal.one_entry-returns-clause-reads
one_entry-returns-clause-reads g t c =
    rw (value_entry c.args.depth g.O.Endian.order ArrayLength c.args.key (ty_of c.args.of.now) c.args.at c.args.bytes.now (omega arith)) c.key_and_value.ensures.reads

pub structure-returns-clause-reads : goal.structure-returns-clause-reads
structure-returns-clause-reads g t c =
    let some : 0 < length c.args.of.now = some_left c.is_empty.result (length c.args.of.now) c.is_empty.ensures c.if-is_empty.false in
    let e = some_fields (value_at c.args.depth g.O.Endian.order) c.args.short (map ty_of c.args.of.now) c.args.at c.args.bytes.now (simp length-map some) in
    rw e c.fields_of.ensures.reads

pub value-returns-in-Basic-clause-reads : goal.value-returns-in-Basic-clause-reads
value-returns-in-Basic-clause-reads g t c =
    let e = ty_basic c.args.of.now c.in-Basic.of c.in-Basic.is in
    rw (e, value_basic c.args.depth g.O.Endian.order c.args.short c.in-Basic.of c.args.at c.args.bytes.now) c.basic_value.ensures.reads

pub value-returns-then-depth-eq0-clause-reads : goal.value-returns-then-depth-eq0-clause-reads
value-returns-then-depth-eq0-clause-reads g t c = λ known.
    rw (ty_variant c.args.of.now c.in-Variant.is) (deep_variant c.args.depth g.O.Endian.order c.args.short c.args.at c.args.bytes.now c.if-depth-eq0.true)

pub value-returns-else-depth-eq0-clause-reads : goal.value-returns-else-depth-eq0-clause-reads
value-returns-else-depth-eq0-clause-reads g t c =
    rw (ty_variant c.args.of.now c.in-Variant.is, value_variant c.args.depth g.O.Endian.order c.args.short c.args.at c.args.bytes.now (omega arith)) c.variant.ensures.reads

pub value-returns-then-depth-eq0-2-clause-reads : goal.value-returns-then-depth-eq0-2-clause-reads
value-returns-then-depth-eq0-2-clause-reads g t c = λ known.
    rw (ty_array c.args.of.now c.in-Array.element c.in-Array.is) (deep_array c.args.depth g.O.Endian.order c.args.short (ty_of c.in-Array.element.value) c.args.at c.args.bytes.now c.if-depth-eq0-2.true)

pub value-returns-else-depth-eq0-2-clause-reads : goal.value-returns-else-depth-eq0-2-clause-reads
value-returns-else-depth-eq0-2-clause-reads g t c =
    rw (ty_array c.args.of.now c.in-Array.element c.in-Array.is, value_array c.args.depth g.O.Endian.order c.args.short (ty_of c.in-Array.element.value) c.args.at c.args.bytes.now (omega arith), ← c.deref.ensures) c.array.ensures.reads

pub value-returns-then-depth-eq0-3-clause-reads : goal.value-returns-then-depth-eq0-3-clause-reads
value-returns-then-depth-eq0-3-clause-reads g t c = λ known.
    rw (ty_dictionary c.args.of.now c.in-Dictionary.key c.in-Dictionary.of c.in-Dictionary.is) (deep_array c.args.depth g.O.Endian.order c.args.short (entry c.in-Dictionary.key (ty_of c.in-Dictionary.of.value)) c.args.at c.args.bytes.now c.if-depth-eq0-3.true)

pub value-returns-else-depth-eq0-3-clause-reads : goal.value-returns-else-depth-eq0-3-clause-reads
value-returns-else-depth-eq0-3-clause-reads g t c =
    rw (ty_dictionary c.args.of.now c.in-Dictionary.key c.in-Dictionary.of c.in-Dictionary.is, value_array c.args.depth g.O.Endian.order c.args.short (entry c.in-Dictionary.key (ty_of c.in-Dictionary.of.value)) c.args.at c.args.bytes.now (omega arith), ← c.deref-in-Dictionary.ensures) c.dictionary.ensures.reads

pub value-returns-then-depth-eq0-4-clause-reads : goal.value-returns-then-depth-eq0-4-clause-reads
value-returns-then-depth-eq0-4-clause-reads g t c = λ known.
    rw (ty_struct c.args.of.now c.in-Struct.fields c.in-Struct.is) (deep_struct c.args.depth g.O.Endian.order c.args.short (types_of c.in-Struct.fields.items) c.args.at c.args.bytes.now c.if-depth-eq0-4.true)

pub value-returns-else-depth-eq0-4-clause-reads : goal.value-returns-else-depth-eq0-4-clause-reads
value-returns-else-depth-eq0-4-clause-reads g t c =
    rw (ty_struct c.args.of.now c.in-Struct.fields c.in-Struct.is, value_struct c.args.depth g.O.Endian.order c.args.short (types_of c.in-Struct.fields.items) c.args.at c.args.bytes.now (omega arith), ← c.deref-in-Struct.ensures.value) c.structure.ensures.reads
