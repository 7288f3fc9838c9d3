-- What events bring over a bus of one thread where nothing is refused, as a function of them and of what is read.
use Rattle.std.specs.Prelude.{◌≡◌, ℕ, ◌+◌, true, is_some, List, [], ◌∷◌, ◌++◌, length}
use Rattle.seq_bus_core.specs.Answers.{answer}
use Rattle.seq_bus_core.specs.Batches.{entries_of, outcomes_of}
use Rattle.seq_bus_core.specs.BusState.{connection_of}
use Rattle.seq_bus_core.specs.Recipients.{recipients}
use Rattle.seq_bus_core.specs.Tickets.{bus_step}
use Rattle.message_core.specs.Messages.{Message}
use Rattle.driver.specs.declared.call.Call.{Call}
use Rattle.driver.specs.Calls.{Reading}
use Rattle.bus_view.specs.Views.{Knowledge, bus_seen, next_entry, having_made, having_changed}
use Rattle.router_core.specs.Acts.{Exchange, Framed, Called}
use Rattle.router_core.specs.Answers.{Says}
use Rattle.router_core.specs.Deeds.{Deed, puts_of_signals}
use Rattle.router_core.specs.Events.{Occasion, script}
use Rattle.router_core.specs.Incoming.{Incoming}
use Rattle.router_core.specs.OneThread.{Rest}
use Rattle.router_core.specs.Scripts.{Script, Gives, Changing, ChangingAll, Asking, Routing, AskingPresence, Noting, Framing, Calling, Gating, Wanting, Requiring, Doing, Announcing}
use Rattle.router_core.specs.Standing.{Standing}

-- what bytes and calls are read as
pub record Readers : Type 0 where
  pub incoming : List ℕ → Incoming
  pub call : Message → Reading Call

-- all that was read was read so
abbrev pub AreReadBy : Readers → List Exchange → Type 0
AreReadBy readers [] = Unit {0}
AreReadBy readers (Framed bytes incoming ∷ later) = (incoming ≡ readers.incoming bytes) × AreReadBy readers later
AreReadBy readers (Called m reading ∷ later) = (reading ≡ readers.call m) × AreReadBy readers later
AreReadBy readers (other ∷ later) = AreReadBy readers later

-- what the view knows, and what was done
pub record Course : Type 0 where
  pub view : Knowledge
  pub deeds : List Deed

abbrev pub learning : Course → Knowledge → Course
learning c k = record c { view = k }

abbrev pub doing : Course → List Deed → Course
doing c deeds = record c { deeds = c.deeds ++ deeds }

-- where each answer is that of the bus after all that was seen
abbrev pub alone : Readers → {X : Type 0} → Script X → Course → X × Course
alone readers (Gives x) c = (x, c)
alone readers (Changing change goes_on) c =
    alone readers (goes_on (Says (bus_step (bus_seen c.view) c.view.seat change).1)) (learning c (having_changed c.view (c.view.seen ++ next_entry c.view change ∷ [])))
alone readers (ChangingAll changes goes_on) c =
    alone readers (goes_on (Says (outcomes_of (bus_seen c.view) c.view.seat changes)))
    (learning c (having_made c.view (length changes) (c.view.seen ++ entries_of c.view.seat (c.view.made + 1) changes)))
alone readers (Asking query goes_on) c = alone readers (goes_on (Says (answer (bus_seen c.view).state query))) c
alone readers (Routing from facts goes_on) c = alone readers (goes_on (Says (recipients (bus_seen c.view).state from facts))) c
alone readers (AskingPresence number goes_on) c = alone readers (goes_on (Says (is_some (connection_of (bus_seen c.view).state number)))) c
alone readers (Noting told s) c = alone readers s c
alone readers (Framing bytes goes_on) c = alone readers (goes_on (readers.incoming bytes)) c
alone readers (Calling m goes_on) c = alone readers (goes_on (readers.call m)) c
alone readers (Gating call s) c = alone readers s c
alone readers (Wanting goes_on) c = alone readers (goes_on true) c
alone readers (Requiring holds s) c = alone readers s c
alone readers (Doing deed s) c = alone readers s (doing c (deed ∷ []))
alone readers (Announcing signals s) c = alone readers s (doing c (puts_of_signals signals))

abbrev pub rest_of : Standing × Course → Rest
rest_of end = record { standing = end.0; view = end.1.view }

-- what an event brings, and what it leaves
abbrev pub effect : Readers → Rest → Occasion → List Deed × Rest
effect readers r occasion = let end = alone readers (script r.standing occasion) (record { view = r.view; deeds = [] }) in (end.1.deeds, rest_of end)
