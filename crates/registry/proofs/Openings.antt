-- A change does not touch what a bus was opened with.
use Rattle.std.proofs.Common.{◌≡◌, ℕ, ◌≤◌, List, length, refl, ap, sym, subst}
use Rattle.names.specs.Texts.{Text}
use Rattle.seq_bus_core.specs.BusState.{BusState}
use Rattle.seq_bus_core.specs.Histories.{max_services, sorted}
use Rattle.seq_bus_core.specs.Steps.{step}
use Rattle.seq_bus_core.specs.declared.change.Change.{Change}
use Rattle.seq_bus_core.proofs.StepCases.{step_cases}
use Rattle.bus_view.proofs.OpeningLemmas.{as_many}
use Rattle.registry.specs.Openings.{as_opened}

pub opened_still : (s : BusState) (seat : ℕ) (change : Change) → as_opened (step s seat change).0 ≡ as_opened s
opened_still s seat change =
    step_cases s (λ t. as_opened t ≡ as_opened s)
    (record {
      same = refl;
      hello = λ _ _ _ _ _. refl;
      leave = λ _. refl;
      request = λ _ _ _ _ _ _. refl;
      release = λ _ _ _. refl;
      add_match = λ _ _ _ _. refl;
      remove_match = λ _. refl;
      monitor = λ _ _. refl;
      first_ticket = λ _ _ _ _. refl;
      later_ticket = λ _ _. refl;
      failed = λ _. refl;
    }) seat change

pub services_stay : (s : BusState) (seat : ℕ) (change : Change) → (step s seat change).0.services ≡ s.services
services_stay s seat change = ap (λ (t : BusState). t.services) (opened_still s seat change)

pub few_sorted : (services : List Text) → length services ≤ max_services → length (sorted services) ≤ max_services
few_sorted services few = subst (λ (n : ℕ). n ≤ max_services) (sym (as_many services)) few
