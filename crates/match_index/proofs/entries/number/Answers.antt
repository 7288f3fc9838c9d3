use Rattle.std.proofs.Common.{◌≡◌, ℕ, suc, ◌+◌, ◌≤◌, ◌++◌, ◌∷◌, Bool, true, false, [], if◌then◌else◌, List, length, take, add-one, sym, ap, ◌∙◌, arith}
use Rattle.match_index.specs.Entries.{new_places}
use Rattle.match_index.specs.declared.entries.Entry.{Entry}
use Rattle.match_index.proofs.EntryLemmas.{told, told_next, new_places_more, length_new_places, length_take_few}
use Rattle.match_index.proofs.Lists.{done_is}
use Rattle.match_index.proofs.entries.number.Goals.{then-not-entry, else-not-entry}
use Rattle.match_index.proofs.entries.number.Goals as goal

pub push_reserved-requires : goal.push_reserved-requires
push_reserved-requires c =
    let i = c.loop-entry.entry-index in
    let es : List Entry = c.args.entries.now in
    let so_many : length c.loop-entry.moves.items ≤ i = length_take_few i es c.loop-entry.moves.items (ap length c.loop-entry.invariant.done ∙ length_new_places 0 (take i es)) in
    omega (arith, so_many, c.loop-entry-test.true, c.loop-entry.invariant.room, c.loop-entry.moves.ok.0)

pub loop-entry-preserved : goal.loop-entry-preserved
loop-entry-preserved c =
    let i = c.loop-entry.entry-index in
    let es : List Entry = c.args.entries.now in
    let e : Entry = c.entry-item.result in
    let grown : take (i + 1) es ≡ take i es ++ e ∷ [] = done_is es i e c.loop-entry-test.true c.entry-item.is in
    let told_now : told 0 (take (i + 1) es) ≡ (if e.is_gone then told 0 (take i es) else suc (told 0 (take i es))) = ap (told 0) grown ∙ told_next 0 (take i es) e in
    let next_is : (b : Bool) → e.is_gone ≡ b → told 0 (take (i + 1) es) ≡ (if b then told 0 (take i es) else suc (told 0 (take i es))) = λ b is. told_now ∙ ap (λ g. if g then told 0 (take i es) else suc (told 0 (take i es))) is in
    record {
      done = c.push_reserved.ensures.items ∙ ap (λ (xs : List ℕ). xs ++ c.loop-entry.next_place ∷ []) c.loop-entry.invariant.done ∙ ap (λ n. new_places 0 (take i es) ++ n ∷ []) c.loop-entry.invariant.next
          ∙ sym (new_places_more 0 (take i es) e) ∙ ap (new_places 0) (sym grown);
      few = elim c.if-not-entry.branch [
        | then-not-entry w ↦ omega (arith, w.next_place-is, c.loop-entry.invariant.few)
        | else-not-entry w ↦ omega (arith, w.next_place-is, c.loop-entry.invariant.few)
      ];
      next = elim c.if-not-entry.branch [
        | then-not-entry w ↦ w.next_place-is ∙ add-one c.loop-entry.next_place ∙ ap suc c.loop-entry.invariant.next ∙ sym (next_is false w.if-not-entry.true)
        | else-not-entry w ↦ w.next_place-is ∙ c.loop-entry.invariant.next ∙ sym (next_is true w.if-not-entry.false)
      ];
      room = omega (arith, c.loop-entry.invariant.room, c.push_reserved.ensures.capacity);
      more = omega (arith, c.loop-entry.invariant.more, c.push_reserved.ensures.capacity);
    }
