-- The run of a list of events over a plain bus.
use Rattle.std.specs.Prelude.{◌≡◌, ◌≢◌, ℕ, true, Some, List, [], ◌∷◌, length, map, take, slice_get, Option}
use Rattle.std.specs.List.{range_with_len}
use Rattle.sasl.specs.Settings.{Login}
use Rattle.seq_bus.specs.PlainBus.{PlainBus}
use Rattle.seq_bus.specs.PlainViews.{knowledge_of}
use Rattle.router_core.specs.declared.event.Event.{Event}
use Rattle.router_core.specs.declared.event.Event.TheVariants as event
use Rattle.router.specs.NextKeys.{HasNextKey}
use Rattle.router.specs.OneEvent.{rest_in}
use Rattle.router_core.specs.Acts.{CanHappen, IsServedBy, State, gated_calls}
use Rattle.router_core.specs.Deeds.{GatedCall, PassesAll}
use Rattle.router_core.specs.Events.{Occasion, CanBeAsked, occasion_of, IsTurnOf}
use Rattle.router_core.specs.OneThread.{Rest}
use Rattle.router_core.specs.Standing.{IsFree, fresh}
use Rattle.router_laws.specs.declared.fault.EventFault.{EventFault}
use Rattle.router_laws.specs.declared.fault.EventFault.TheVariants.{WrongKey, NoLogin, NoTurn, NoMemory}
use Rattle.router_laws.specs.Turns.{AreServedBy, Turn, exchanges_of, keys_of, run_bytes}

-- an engine without its gate: its connections, the key that it has for the next one, and what its view knows
abbrev pub Ungated : Type 0
Ungated = State (Unit {0})

abbrev pub ungated : {G : Type 0} → State G → Ungated
ungated s = record { standing = s.standing; next_key = s.next_key; view = s.view; gate = tt }

-- no connection, over a plain bus; the first one gets the key 0
abbrev pub first_over : Option Login → PlainBus → Ungated
first_over login bus = record { standing = fresh login; next_key = 0; view = knowledge_of bus; gate = tt }

-- the same without the key
abbrev pub fresh_over : Option Login → PlainBus → Rest
fresh_over login bus = rest_in (first_over login bus)

-- a note over a plain bus tells nothing
abbrev pub happening : Event (Unit {0}) → Occasion
happening event = occasion_of (λ _. []) event

abbrev pub occasions_of : List (Event (Unit {0})) → List Occasion
occasions_of events = map happening events

-- the bytes of each connection that comes, by its opening
abbrev pub for_each : List Occasion → (ℕ → List ℕ) → List (List ℕ)
for_each occasions bytes = map bytes (range_with_len 1 (length (keys_of occasions [])))

-- The occasions come one after the other over a bus of one thread, and these bytes go to the connections, in the order in which they came.
pub record IsRunOf {G : Type 0} (passes : G → GatedCall → G → Type 0) (gate : G) (before : Rest) (occasions : List Occasion) (bytes : List (List ℕ)) : Type 0 where
  pub turns : List Turn
  pub after : Rest
  pub left : G
  pub served : AreServedBy true before occasions turns after
  pub shown : PassesAll passes gate (gated_calls before.view.seat (exchanges_of turns)) left
  pub written : bytes ≡ for_each occasions (λ opening. run_bytes opening [] occasions turns)

-- ## Why a run ends early

-- The events come one after the other, each can happen, and each is served so. Each leaves a key for the next connection, by which that can come:
-- behind a connection that came it is one that none has.
abbrev pub IsLead : Ungated → List (Event (Unit {0})) → List Turn → Ungated → Type 0
IsLead before [] [] after = after ≡ before
IsLead before (event ∷ events) (turn ∷ turns) after =
    (between : Ungated) × CanHappen (λ _. 0) before event ×
    IsServedBy true before.standing before.view (happening event) turn.asked turn.deeds between.standing between.view ×
    HasNextKey before event between × IsLead between events turns after
IsLead before events turns after = ⊥

-- All of the events can happen, where those before have come.
abbrev pub CanCome : Ungated → List (Event (Unit {0})) → Type 0
CanCome before events = (turns : List Turn) × (now : Ungated) × IsLead before events turns now

-- A connection comes with another key than that of the next one, which no connection has. Where the event before brought a connection, the lead
-- does not tell which that is.
abbrev pub LacksKey : Ungated → Event (Unit {0}) → Type 0
LacksKey s (event.Opened key challenge) = IsFree s.standing s.next_key × (key ≢ s.next_key)
LacksKey s other = ⊥

-- A connection comes that is to say who it is, and no one may log in.
abbrev pub LacksLogin : Ungated → Event (Unit {0}) → Type 0
LacksLogin s (event.Opened key challenge) = CanBeAsked s.standing.login challenge → ⊥
LacksLogin s other = ⊥

-- It is a turn of no keys, or of too many.
abbrev pub LacksTurn : Ungated → Event (Unit {0}) → Type 0
LacksTurn s (event.Turn keys) = IsTurnOf keys.items → ⊥
LacksTurn s other = ⊥

-- The events before that of this index come, and this one cannot happen then, since it lacks this.
pub record IsStopped (lacks : Ungated → Event (Unit {0}) → Type 0) (before : Ungated) (events : List (Event (Unit {0}))) (index : ℕ) : Type 0 where
  pub turns : List Turn
  pub now : Ungated
  pub led : IsLead before (take index events) turns now
  pub event : Event (Unit {0})
  pub reached : slice_get events index ≡ Some event
  pub impossible : lacks now event

-- why a run ends before its events do
abbrev pub IsFaultOf : Ungated → List (Event (Unit {0})) → EventFault → Type 0
IsFaultOf before events (WrongKey index) = IsStopped LacksKey before events index
IsFaultOf before events (NoLogin index) = IsStopped LacksLogin before events index
IsFaultOf before events (NoTurn index) = IsStopped LacksTurn before events index
IsFaultOf before events NoMemory = Unit {0}
