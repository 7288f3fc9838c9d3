use Rattle.std.proofs.Common.{◌≡◌, ◌∙◌, ◌+◌, ◌-◌, ◌++◌, ◌∷◌, [], List, length, ap, sym, arith, append_assoc, append-nil, length-append, rules}
use Rattle.std.proofs.lemmas.List.{nil_from_length}
use Rattle.std.specs.Vec.Iter.{into_iter_items}
use Rattle.seq_bus_core.specs.Batches.{entries_of}
use Rattle.seq_bus_core.specs.Histories.{History}
use Rattle.seq_bus_core.specs.declared.change.Change.{Change}
use Rattle.seq_bus_core.specs.declared.entry.Entry.{Entry}
use Rattle.seq_bus.proofs.bus.add_entries.Goals as goal

-- the entry of a change, and those of the changes behind it
next_entry : (seen : History) (change : Change) (later : List Change) (e : Entry) → e ≡ record { seat = 1; number = length seen + 1; change = change; left = length later }
    → (seen ++ e ∷ []) ++ entries_of 1 (length (seen ++ e ∷ []) + 1) later ≡ seen ++ entries_of 1 (length seen + 1) (change ∷ later)
next_entry seen change later e is =
    let longer : length (seen ++ e ∷ []) + 1 ≡ length seen + 1 + 1 = omega (arith, length-append seen (e ∷ [])) in
    append_assoc seen (e ∷ []) (entries_of 1 (length (seen ++ e ∷ []) + 1) later)
    ∙ ap (λ n. seen ++ e ∷ entries_of 1 n later) longer ∙ ap (λ (x : Entry). seen ++ x ∷ entries_of 1 (length seen + 1 + 1) later) is

pub overflow_sub-left : goal.overflow_sub-left
overflow_sub-left c = omega (arith, c.loop-change.invariant.left, ap length c.in-Some.ensures.steps.0)

pub push_reserved-requires : goal.push_reserved-requires
push_reserved-requires c = omega (arith, c.loop-change.invariant.has_room, ap length c.in-Some.ensures.steps.0)

pub loop-change-preserved : goal.loop-change-preserved
loop-change-preserved c =
    let at = c.loop-change in
    let inv = at.invariant in
    let steps : into_iter_items at.change-iterator ≡ c.in-Some.change ∷ into_iter_items c.next.new.self = c.in-Some.ensures.steps.0 in
    let long = ap length steps in
    let later : List Change = into_iter_items c.next.new.self in
    let stored = c.push_reserved.ensures in
    let count : c.len.result + 1 ≡ length at.seen.items + 1 = ap (λ n. n + 1) (search rules) in
    let less : at.left - 1 ≡ length later = omega (arith, inv.left, long) in
    let e : Entry = record { seat = 1; number = c.len.result + 1; change = c.in-Some.change; left = at.left - 1 } in
    let longer = ap length stored.items ∙ length-append at.seen.items (e ∷ []) in
    record {
      left = less;
      has_room = omega (arith, inv.has_room, long, longer, stored.capacity);
      all = ap (λ (items : History). items ++ entries_of 1 (length items + 1) later) stored.items
          ∙ next_entry at.seen.items c.in-Some.change later e (λ i. record { seat = 1; number = count i; change = c.in-Some.change; left = less i })
          ∙ ap (λ (cs : List Change). at.seen.items ++ entries_of 1 (length at.seen.items + 1) cs) (sym steps) ∙ inv.all;
    }

pub returns : goal.returns
returns c =
    let at = c.loop-change in
    let none : length (into_iter_items at.change-iterator) ≡ 0 = sym at.change-iterator.rest.ok.0 ∙ c.in-None.ensures.steps.0 in
    let empty : into_iter_items at.change-iterator ≡ [] = nil_from_length _ none in
    sym (append-nil at.seen.items) ∙ sym (ap (λ (cs : List Change). at.seen.items ++ entries_of 1 (length at.seen.items + 1) cs) empty) ∙ at.invariant.all
    ∙ ap (λ (cs : List Change). c.args.seen.now.items ++ entries_of 1 (length c.args.seen.now.items + 1) cs) c.into_iter-change-iterator.ensures.into_iter_gives.0
