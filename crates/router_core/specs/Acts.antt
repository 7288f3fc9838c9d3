-- What an event brings, for some answers that the bus may give.
use Rattle.std.specs.Prelude.{◌≡◌, ℕ, Bool, true, false, Option, List, [], ◌∷◌, ◌++◌}
use Rattle.match_rules.specs.Facts.{Facts}
use Rattle.seq_bus_core.specs.Answers.{Answer}
use Rattle.seq_bus_core.specs.Histories.{History}
use Rattle.seq_bus_core.specs.declared.change.Change.{Change}
use Rattle.seq_bus_core.specs.declared.outcome.Outcome.{Outcome}
use Rattle.seq_bus_core.specs.declared.query.Query.{Query}
use Rattle.seq_bus_core.specs.declared.verdict.Verdict.{Verdict}
use Rattle.message_core.specs.Messages.{Message}
use Rattle.driver.specs.declared.call.Call.{Call}
use Rattle.driver.specs.Calls.{Reading, IsCall}
use Rattle.bus_view.specs.Views.{Knowledge, IsNoted}
use Rattle.bus_view.specs.declared.view.BusView.{Ghosts as BusView}
use Rattle.router_core.specs.declared.action.Action.{Action}
use Rattle.router_core.specs.declared.event.Event.{Event}
use Rattle.router_core.specs.declared.event.Event.TheVariants as event
use Rattle.router_core.specs.declared.gate.Gate.{Ghosts as Gate}
use Rattle.router_core.specs.Answers.{Heard, Refuses, HearsChange, HearsChanges, HearsAnswer, HearsVerdict, HearsPresent}
use Rattle.router_core.specs.Deeds.{Deed, GatedCall, PassesAll, puts_of_signals, AreDoneBy, IsOwnNote}
use Rattle.router_core.specs.Events.{Occasion, CanBeAsked, IsTurnOf, occasion_of, script}
use Rattle.router_core.specs.Incoming.{Incoming, IsIncoming}
use Rattle.router_core.specs.Scripts.{Script, Gives, Changing, ChangingAll, Asking, Routing, AskingPresence, Noting, Framing, Calling, Gating, Wanting, Requiring, Doing, Announcing, World, Comes}
use Rattle.router_core.specs.Standing.{Standing, IsFree}

-- ## What was asked and answered

pub data Exchange : Type 0 where
  Changed : Change → Heard Outcome → Exchange
  ChangedAll : List Change → Heard (List Outcome) → Exchange
  Asked : Query → Heard (Option Answer) → Exchange
  Routed : (from : ℕ) → Facts → Heard Verdict → Exchange
  AskedPresence : (number : ℕ) → Heard Bool → Exchange
  Noted : History → Exchange
  Framed : (bytes : List ℕ) → Incoming → Exchange
  Called : Message → Reading Call → Exchange
  Gated : (seen : History) → Call → Exchange
  Wanted : Bool → Exchange

-- The script asks this, is answered so, does these deeds, and comes to this result.
abbrev pub Goes : {X : Type 0} → Script X → List Exchange → List Deed → X → Type 0
Goes (Gives y) asked deeds x = (asked ≡ []) × (deeds ≡ []) × (x ≡ y)
Goes (Changing change goes_on) asked deeds x = (heard : Heard Outcome) × (later : List Exchange) × (asked ≡ Changed change heard ∷ later) × Goes (goes_on heard) later deeds x
Goes (ChangingAll changes goes_on) asked deeds x = (heard : Heard (List Outcome)) × (later : List Exchange) × (asked ≡ ChangedAll changes heard ∷ later) × Goes (goes_on heard) later deeds x
Goes (Asking query goes_on) asked deeds x = (heard : Heard (Option Answer)) × (later : List Exchange) × (asked ≡ Asked query heard ∷ later) × Goes (goes_on heard) later deeds x
Goes (Routing from facts goes_on) asked deeds x = (heard : Heard Verdict) × (later : List Exchange) × (asked ≡ Routed from facts heard ∷ later) × Goes (goes_on heard) later deeds x
Goes (AskingPresence number goes_on) asked deeds x = (heard : Heard Bool) × (later : List Exchange) × (asked ≡ AskedPresence number heard ∷ later) × Goes (goes_on heard) later deeds x
Goes (Noting told s) asked deeds x = (later : List Exchange) × (asked ≡ Noted told ∷ later) × Goes s later deeds x
Goes (Framing bytes goes_on) asked deeds x = (incoming : Incoming) × (later : List Exchange) × (asked ≡ Framed bytes incoming ∷ later) × Goes (goes_on incoming) later deeds x
Goes (Calling m goes_on) asked deeds x = (reading : Reading Call) × (later : List Exchange) × (asked ≡ Called m reading ∷ later) × Goes (goes_on reading) later deeds x
Goes (Gating call s) asked deeds x = (seen : History) × (later : List Exchange) × (asked ≡ Gated seen call ∷ later) × Goes s later deeds x
Goes (Wanting goes_on) asked deeds x = (granted : Bool) × (later : List Exchange) × (asked ≡ Wanted granted ∷ later) × Goes (goes_on granted) later deeds x
Goes (Requiring holds s) asked deeds x = (holds ≡ true) × Goes s asked deeds x
Goes (Doing deed s) asked deeds x = (later : List Deed) × (deeds ≡ deed ∷ later) × Goes s asked later x
Goes (Announcing signals s) asked deeds x = (later : List Deed) × (deeds ≡ puts_of_signals signals ++ later) × Goes s asked later x

-- The bus may answer so, one after the other, from what the view knew before to what it knows then.
abbrev pub IsLawful : Bool → Knowledge → List Exchange → Knowledge → Type 0
IsLawful alone before [] after = after ≡ before
IsLawful alone before (Changed change heard ∷ later) after = (k : Knowledge) × HearsChange alone change before heard k × IsLawful alone k later after
IsLawful alone before (ChangedAll changes heard ∷ later) after = (k : Knowledge) × HearsChanges alone changes before heard k × IsLawful alone k later after
IsLawful alone before (Asked query heard ∷ later) after = (k : Knowledge) × HearsAnswer alone query before heard k × IsLawful alone k later after
IsLawful alone before (Routed from facts heard ∷ later) after = (k : Knowledge) × HearsVerdict alone from facts before heard k × IsLawful alone k later after
IsLawful alone before (AskedPresence number heard ∷ later) after = (k : Knowledge) × HearsPresent alone number before heard k × IsLawful alone k later after
IsLawful alone before (Noted told ∷ later) after = (k : Knowledge) × IsNoted alone before told k × IsLawful alone k later after
IsLawful alone before (Framed bytes incoming ∷ later) after = IsIncoming bytes incoming × IsLawful alone before later after
IsLawful alone before (Called m reading ∷ later) after = IsCall m reading × IsLawful alone before later after
IsLawful alone before (Gated seen call ∷ later) after = (seen ≡ before.seen) × IsLawful alone before later after
IsLawful alone before (Wanted granted ∷ later) after = IsLawful alone before later after

-- the calls that the gate was shown, in order, by the seat that serves them, each with what that had seen of the bus then
abbrev pub gated_calls : ℕ → List Exchange → List GatedCall
gated_calls seat [] = []
gated_calls seat (Gated seen call ∷ later) = record { seat = seat; call = call; seen = seen } ∷ gated_calls seat later
gated_calls seat (other ∷ later) = gated_calls seat later

-- Nothing was refused.
abbrev pub IsGranted : List Exchange → Type 0
IsGranted [] = Unit {0}
IsGranted (Changed change (Refuses refusal) ∷ later) = ⊥
IsGranted (ChangedAll changes (Refuses refusal) ∷ later) = ⊥
IsGranted (Asked query (Refuses refusal) ∷ later) = ⊥
IsGranted (Routed from facts (Refuses refusal) ∷ later) = ⊥
IsGranted (AskedPresence number (Refuses refusal) ∷ later) = ⊥
IsGranted (Wanted false ∷ later) = ⊥
IsGranted (other ∷ later) = IsGranted later

-- ## Events

-- an engine between events: its connections, the key that it has for the next one, what its view knows, and its gate
pub record State (G : Type 0) : Type 0 where
  pub standing : Standing
  pub next_key : ℕ
  pub view : Knowledge
  pub gate : G

-- The next connection gets this key, which none has.
abbrev pub IsNextKey : {G : Type 0} → State G → ℕ → Type 0
IsNextKey s key = (key ≡ s.next_key) × IsFree s.standing key

abbrev pub CanHappen : {N G : Type 0} → (N → ℕ) → State G → Event N → Type 0
CanHappen registry_of s (event.Opened key challenge) = IsNextKey s key × CanBeAsked s.standing.login challenge
CanHappen registry_of s (event.Turn keys) = IsTurnOf keys.items
CanHappen registry_of s (event.Mail slot envelope) = IsOwnNote registry_of s.view.registry envelope.note
CanHappen registry_of s other = Unit {0}

-- at the beginning of an event nothing was done yet
abbrev pub world_of : {N G : Type 0} → State G → World N G
world_of s = record { view = s.view; gate = s.gate; actions = [] }

-- The event brings these actions, and leaves the engine so.
pub record Brings {N G : Type 0} (told : N → History) (registry_of : N → ℕ) (passes : G → GatedCall → G → Type 0) (alone : Bool) (before : State G) (event : Event N) (actions : List (Action N)) (after : State G) : Type 0 where
  pub ends : World N G
  pub comes : Comes told registry_of passes alone (script before.standing (occasion_of told event)) (world_of before) after.standing ends
  pub view : after.view ≡ ends.view
  pub gate : after.gate ≡ ends.gate
  pub done : actions ≡ ends.actions

-- the same by a view and a gate
abbrev pub BringsBy : {V N R G : Type 0} → BusView V N R → Gate G → State G → Event N → List (Action N) → State G → Type 0
BringsBy view gate before event actions after = Brings view.told view.registry_of gate.passes view.alone before event actions after

-- The occasion is served so: all that was asked and answered, and the deeds.
pub record IsServedBy (alone : Bool) (before : Standing) (knew : Knowledge) (occasion : Occasion) (asked : List Exchange) (deeds : List Deed) (after : Standing) (knows : Knowledge) : Type 0 where
  pub goes : Goes (script before occasion) asked deeds after
  pub lawful : IsLawful alone knew asked knows

-- The event is served by these actions, for some answers that the bus may give, and the gate was shown the calls among them.
pub record IsServed {N G : Type 0} (told : N → History) (passes : G → GatedCall → G → Type 0) (alone : Bool) (before : State G) (event : Event N) (actions : List (Action N)) (after : State G) : Type 0 where
  pub asked : List Exchange
  pub deeds : List Deed
  pub served : IsServedBy alone before.standing before.view (occasion_of told event) asked deeds after.standing after.view
  pub shown : PassesAll passes before.gate (gated_calls before.view.seat asked) after.gate
  pub done : AreDoneBy actions deeds
