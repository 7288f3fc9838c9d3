-- What goes to the connections while events are served.
use Rattle.std.specs.Prelude.{◌≡◌, ℕ, ◌+◌, true, List, [], ◌∷◌, ◌++◌, length, slice_index_or}
use Rattle.router_core.specs.declared.action.Action.{Action}
use Rattle.router_core.specs.declared.action.Action.TheVariants.{Write}
use Rattle.router_core.specs.declared.event.Event.{Event}
use Rattle.router_core.specs.Acts.{CanHappen, IsServedBy, State, gated_calls}
use Rattle.router_core.specs.Deeds.{GatedCall, PassesAll}
use Rattle.router_core.specs.Events.{Occasion, Opened}
use Rattle.router_core.specs.OneThread.{bytes_if, opening_of, bytes_to}
use Rattle.router_laws.specs.declared.fault.EventFault.{EventFault}
use Rattle.router_laws.specs.declared.fault.EventFault.TheVariants.{WrongKey, NoLogin, NoTurn, NoMemory}
use Rattle.router_laws.specs.Runs.{IsLead, LacksKey, LacksLogin, LacksTurn, happening, occasions_of, ungated}
use Rattle.router.specs.NextKeys.{HasNextKey}
use Rattle.router.specs.OneEvent.{rest_in}
use Rattle.router_laws.specs.Turns.{AreServedBy, Turn, exchanges_of, keys_of, run_bytes}

-- the keys of the connections that came, the last first, and the bytes to each, the first first
pub record Output : Type 0 where
  pub keys : List ℕ
  pub written : List (List ℕ)

abbrev pub no_output : Output
no_output = record { keys = []; written = [] }

-- so many bytes more go to each connection, by its opening
pub record Adds (before : Output) (bytes : ℕ → List ℕ) (after : Output) : Type 0 where
  pub keys : after.keys ≡ before.keys
  pub count : length after.written ≡ length before.written
  pub each : (k : ℕ) → slice_index_or after.written k [] ≡ slice_index_or before.written k [] ++ bytes (k + 1)

-- what actions write to the connection of this opening
abbrev pub bytes_by : {N : Type 0} → ℕ → List ℕ → Action N → List ℕ
bytes_by opening keys (Write key bytes) = bytes_if opening (opening_of key keys) bytes
bytes_by opening keys other = []

abbrev pub bytes_by_all : {N : Type 0} → ℕ → List ℕ → List (Action N) → List ℕ
bytes_by_all opening keys [] = []
bytes_by_all opening keys (action ∷ actions) = bytes_by opening keys action ++ bytes_by_all opening keys actions

-- A connection that came has got nothing yet.
abbrev pub output_at : Occasion → Output → Output
output_at (Opened key challenge) out = record { keys = key ∷ out.keys; written = out.written ++ [] ∷ [] }
output_at other out = out

-- One event is served, and its bytes go to the connections.
pub record IsTurn {G : Type 0} (passes : G → GatedCall → G → Type 0) (before : State G) (sent : Output) (event : Event (Unit {0})) (after : State G) (sends : Output) : Type 0 where
  pub turn : Turn
  pub served : IsServedBy true before.standing before.view (happening event) turn.asked turn.deeds after.standing after.view
  pub shown : PassesAll passes before.gate (gated_calls before.view.seat turn.asked) after.gate
  pub happens : CanHappen (λ _. 0) before event
  pub key : HasNextKey before event after
  pub added : Adds (output_at (happening event) sent) (λ opening. bytes_to opening (output_at (happening event) sent).keys turn.deeds) sends

-- Events are served from the beginning on.
pub record IsCourse {G : Type 0} (passes : G → GatedCall → G → Type 0) (before : State G) (events : List (Event (Unit {0}))) (after : State G) (sent : Output) : Type 0 where
  pub turns : List Turn
  pub served : AreServedBy true (rest_in before) (occasions_of events) turns (rest_in after)
  pub led : IsLead (ungated before) events turns (ungated after)
  pub shown : PassesAll passes before.gate (gated_calls before.view.seat (exchanges_of turns)) after.gate
  pub keys : sent.keys ≡ keys_of (occasions_of events) []
  pub count : length sent.written ≡ length sent.keys
  pub each : (k : ℕ) → slice_index_or sent.written k [] ≡ run_bytes (k + 1) [] (occasions_of events) turns

-- why the event of this index is not served
abbrev pub IsRefused : {G : Type 0} → State G → ℕ → Event (Unit {0}) → EventFault → Type 0
IsRefused now index event (WrongKey at) = (at ≡ index) × LacksKey (ungated now) event
IsRefused now index event (NoLogin at) = (at ≡ index) × LacksLogin (ungated now) event
IsRefused now index event (NoTurn at) = (at ≡ index) × LacksTurn (ungated now) event
IsRefused now index event NoMemory = Unit {0}
