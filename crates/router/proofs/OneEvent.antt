-- One event over a bus of one thread.
use Rattle.std.proofs.Common.{◌≡◌, ℕ, Bool, true, List, Result, Ok, Err, IfOk, OnOk, OnErr, ap, subst}
use Rattle.seq_bus_core.specs.Histories.{History}
use Rattle.bus_view.specs.declared.view.BusView.{Ghosts as BusView}
use Rattle.bus_view.specs.Views.{Knowledge}
use Rattle.router_core.specs.declared.action.Action.{Action}
use Rattle.router_core.specs.declared.event.Event.{Event}
use Rattle.router_core.specs.declared.gate.Gate.{Ghosts as Gate}
use Rattle.router_core.specs.Acts.{State, Brings, IsGranted, IsServed, IsServedBy}
use Rattle.router_core.specs.Deeds.{GatedCall}
use Rattle.router_core.specs.Events.{occasion_of}
use Rattle.router_core.specs.OneThread.{IsEffect}
use Rattle.router_core.proofs.Alone.{AreReadBy, Readers, effect}
use Rattle.router_core.proofs.Asked.{answers_are_lawful}
use Rattle.router_core.proofs.Functions.{effect_is, one_thread_is_a_function}
use Rattle.router_core.proofs.Registries.{notes_are_own}
use Rattle.router.specs.NextKeys.{HasNextKey}
use Rattle.router.specs.OneEvent.{IsServedWell, rest_in}

-- a view and a gate of these relations
abbrev pub view_of : {N : Type 0} → (N → History) → (N → ℕ) → Bool → BusView Knowledge N (Unit {0})
view_of told registry_of alone = record { alone = alone; knows = λ knowledge. knowledge; told = told; registry_of = registry_of }

abbrev pub gate_of : {G : Type 0} → (G → GatedCall → G → Type 0) → Gate G
gate_of passes = record { passes = passes }

-- over the bus of one thread
served_alone : {N G : Type 0} (told : N → History) (passes : G → GatedCall → G → Type 0) (alone : Bool) (before after : State G) (event : Event N) (actions : List (Action N)) (h : IsServed told passes alone before event actions after) →
    alone ≡ true → IsServedBy true before.standing before.view (occasion_of told event) h.asked h.deeds after.standing after.view
served_alone told passes alone before after event actions h is =
    subst (λ (b : Bool). IsServedBy b before.standing before.view (occasion_of told event) h.asked h.deeds after.standing after.view) is h.served

-- where nothing was refused
effect_of : {N G : Type 0} (told : N → History) (passes : G → GatedCall → G → Type 0) (alone : Bool) (before after : State G) (event : Event N) (actions : List (Action N)) (h : IsServed told passes alone before event actions after) →
    alone ≡ true → IsGranted h.asked → IsEffect (rest_in before) (occasion_of told event) h.deeds (rest_in after)
effect_of told passes alone before after event actions h is granted =
    record {
      asked = h.asked;
      served = served_alone told passes alone before after event actions h is;
      granted = granted;
    }

-- by readers who read so
pub brought_so : {N G : Type 0} (told : N → History) (passes : G → GatedCall → G → Type 0) (alone : Bool) (before after : State G) (event : Event N) (actions : List (Action N)) (h : IsServed told passes alone before event actions after) →
    alone ≡ true → IsGranted h.asked → (readers : Readers) → AreReadBy readers h.asked →
    (h.deeds ≡ (effect readers (rest_in before) (occasion_of told event)).0) × (rest_in after ≡ (effect readers (rest_in before) (occasion_of told event)).1)
brought_so told passes alone before after event actions h is granted readers read =
    effect_is readers (rest_in before) (rest_in after) (occasion_of told event) h.asked h.deeds (served_alone told passes alone before after event actions h is) granted read

-- what a result that is Ok promises, by two of its promises
pub both : {T E : Type 0} (r : Result T E) {P Q : T → Type 0} {K : Type 0} → ((x : T) → P x → K → Q x) → IfOk r P → OnOk r K → IfOk r Q
both (Ok x) f p k = f x p k
both (Err e) f p k = tt

pub served_well : {N G : Type 0} (told : N → History) (registry_of : N → ℕ) (passes : G → GatedCall → G → Type 0) (alone : Bool) (before after : State G) (event : Event N) (actions : List (Action N)) →
    Brings told registry_of passes alone before event actions after → HasNextKey before event after → IsServedWell told passes alone before event actions after
served_well told registry_of passes alone before after event actions brings key =
    let h = answers_are_lawful (view_of told registry_of alone) (gate_of passes) before after event actions brings in
    record {
      served = h;
      key = key;
      one_thread = λ is granted deeds end other.
          one_thread_is_a_function (rest_in before) (rest_in after) end (occasion_of told event) h.deeds deeds (effect_of told passes alone before after event actions h is granted) other;
    }

-- the registry that the view is of stays, whether the event was served or refused
pub registry_stays : {N G T E : Type 0} (told : N → History) (registry_of : N → ℕ) (passes : G → GatedCall → G → Type 0) (alone : Bool) (before after : State G) (event : Event N) (actions_in : T → List (Action N)) (r : Result T E) →
    IfOk r (λ x. Brings told registry_of passes alone before event (actions_in x) after) → OnErr r (after ≡ before) → after.view.registry ≡ before.view.registry
registry_stays told registry_of passes alone before after event actions_in (Ok x) brings same = (notes_are_own (view_of told registry_of alone) (gate_of passes) before after event (actions_in x) brings).0
registry_stays {G = G} told registry_of passes alone before after event actions_in (Err e) brings same = ap (λ (s : State G). s.view.registry) same
