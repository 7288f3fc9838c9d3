-- Changes that are made one after the other.
use Rattle.std.proofs.Common.{◌≡◌, ℕ, ◌+◌, List, [], ◌∷◌, ◌++◌, refl, ap, sym, ◌∙◌}
use Rattle.seq_bus_core.specs.BusState.{BusState}
use Rattle.seq_bus_core.specs.Steps.{Stepped, step}
use Rattle.seq_bus_core.specs.Batches.{entries_of}
use Rattle.seq_bus_core.specs.Tickets.{WholeBus, bus_step, bus_after}
use Rattle.seq_bus_core.specs.declared.change.Change.{Change}
use Rattle.seq_bus_core.proofs.ChangeLaws.{steps_see_no_more}
use Rattle.registry.specs.PreparedChanges.{PreparedChange, IsPreparedFor, ArePreparedFor, absorbed_along, prepared_along, prepared_on, state_along}

pub state_more : (s : BusState) (seat : ℕ) (changes : List Change) (change : Change) → state_along s seat (changes ++ change ∷ []) ≡ (step (state_along s seat changes) seat change).0
state_more s seat [] change = refl
state_more s seat (first ∷ changes) change = state_more (step s seat first).0 seat changes change

-- ## Changes that are prepared and made

pub prepared_more : (s : BusState) (seat : ℕ) (changes : List Change) (change : Change)
    → prepared_along s seat (changes ++ change ∷ []) ≡ prepared_along s seat changes ++ prepared_on (state_along s seat changes) seat change ∷ []
prepared_more s seat [] change = refl
prepared_more s seat (first ∷ changes) change = ap (λ rest. prepared_on s seat first ∷ rest) (prepared_more (step s seat first).0 seat changes change)

-- the state once one more is made, which was prepared where those before it were made
pub made_next : (s : BusState) (seat : ℕ) (changes : List Change) (change : Change) (before after : BusState) (p : PreparedChange) → before ≡ state_along s seat changes → p ≡ prepared_on before seat change
    → after ≡ (step before p.seat p.change).0 → after ≡ state_along s seat (changes ++ change ∷ [])
made_next s seat changes change before after p so_far prepared made =
    made ∙ ap (λ (q : PreparedChange). (step before q.seat q.change).0) prepared ∙ ap (λ (r : Stepped). r.0) (steps_see_no_more before seat change)
    ∙ ap (λ (t : BusState). (step t seat change).0) so_far ∙ sym (state_more s seat changes change)

-- ## Changes that are prepared for a batch

pub prepared_for_more : (seat : ℕ) (changes : List Change) (change : Change) (prepared : List PreparedChange) (p : PreparedChange) → ArePreparedFor seat changes prepared → IsPreparedFor seat change p
    → ArePreparedFor seat (changes ++ change ∷ []) (prepared ++ p ∷ [])
prepared_for_more seat [] change [] p all one = (one, tt)
prepared_for_more seat [] change (q ∷ prepared) p all one = absurd all
prepared_for_more seat (first ∷ changes) change [] p all one = absurd all
prepared_for_more seat (first ∷ changes) change (q ∷ prepared) p all one = (all.0, prepared_for_more seat changes change prepared p all.1 one)

-- the state after one more
pub absorbed_more : (s : BusState) (prepared : List PreparedChange) (p : PreparedChange) → absorbed_along s (prepared ++ p ∷ []) ≡ (step (absorbed_along s prepared) p.seat p.change).0
absorbed_more s [] p = refl
absorbed_more s (q ∷ prepared) p = absorbed_more (step s q.seat q.change).0 prepared p

-- what is prepared for a change does the step of the change
pub absorbed_one : (s : BusState) (seat : ℕ) (change : Change) (p : PreparedChange) → IsPreparedFor seat change p → (step s p.seat p.change).0 ≡ (step s seat change).0
absorbed_one s seat change p one =
    ap (λ k. (step s k p.change).0) one.seat_is ∙ ap (λ d. (step s seat d).0) one.change_is ∙ ap (λ (r : Stepped). r.0) (steps_see_no_more s seat change)

-- what is prepared for a batch does the steps of the batch
pub absorbed_is : (s : BusState) (seat : ℕ) (changes : List Change) (prepared : List PreparedChange) → ArePreparedFor seat changes prepared → absorbed_along s prepared ≡ state_along s seat changes
absorbed_is s seat [] [] all = refl
absorbed_is s seat [] (p ∷ prepared) all = absurd all
absorbed_is s seat (change ∷ changes) [] all = absurd all
absorbed_is s seat (change ∷ changes) (p ∷ prepared) all =
    ap (λ (t : BusState). absorbed_along t prepared) (absorbed_one s seat change p all.0) ∙ absorbed_is (step s seat change).0 seat changes prepared all.1

-- the state after the entries of a batch
pub entries_along : (b : WholeBus) (seat number : ℕ) (changes : List Change) → (bus_after b (entries_of seat number changes)).state ≡ state_along b.state seat changes
entries_along b seat number [] = refl
entries_along b seat number (change ∷ changes) = entries_along (bus_step b seat change).0 seat (number + 1) changes
