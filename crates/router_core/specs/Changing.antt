-- Which events may change the bus.
use Rattle.std.specs.Prelude.{◌≡◌, ℕ, Bool, true, false, Option, List}
use Rattle.seq_bus_core.specs.Answers.{Answer}
use Rattle.seq_bus_core.specs.declared.verdict.Verdict.{Verdict}
use Rattle.driver.specs.declared.call.Call.{Call}
use Rattle.driver.specs.Calls.{Reading}
use Rattle.bus_view.specs.declared.view.BusView.{Ghosts as BusView}
use Rattle.router_core.specs.declared.event.Event.{Event}
use Rattle.router_core.specs.declared.event.Event.TheVariants as event
use Rattle.router_core.specs.Answers.{Heard}
use Rattle.router_core.specs.Events.{occasion_of, script}
use Rattle.router_core.specs.Incoming.{Incoming}
use Rattle.router_core.specs.Scripts.{Script, Gives, Changing, ChangingAll, Asking, Routing, AskingPresence, Noting, Framing, Calling, Gating, Wanting, Requiring, Doing, Announcing}
use Rattle.router_core.specs.Standing.{Standing}

-- Who comes, bytes and mail change nothing.
abbrev pub may_change : {N : Type 0} → Event N → Bool
may_change (event.Opened key challenge) = false
may_change (event.Bytes key piece) = false
may_change (event.Mail slot envelope) = false
may_change other = true

-- The script asks for no change, whatever it is answered.
abbrev pub AsksForNoChange : {X : Type 0} → Script X → Type 0
AsksForNoChange (Gives x) = Unit {0}
AsksForNoChange (Changing change goes_on) = ⊥
AsksForNoChange (ChangingAll changes goes_on) = ⊥
AsksForNoChange (Asking query goes_on) = (heard : Heard (Option Answer)) → AsksForNoChange (goes_on heard)
AsksForNoChange (Routing from facts goes_on) = (heard : Heard Verdict) → AsksForNoChange (goes_on heard)
AsksForNoChange (AskingPresence number goes_on) = (heard : Heard Bool) → AsksForNoChange (goes_on heard)
AsksForNoChange (Noting told s) = AsksForNoChange s
AsksForNoChange (Framing bytes goes_on) = (incoming : Incoming) → AsksForNoChange (goes_on incoming)
AsksForNoChange (Calling m goes_on) = (reading : Reading Call) → AsksForNoChange (goes_on reading)
AsksForNoChange (Gating call s) = AsksForNoChange s
AsksForNoChange (Wanting goes_on) = (granted : Bool) → AsksForNoChange (goes_on granted)
AsksForNoChange (Requiring holds s) = AsksForNoChange s
AsksForNoChange (Doing deed s) = AsksForNoChange s
AsksForNoChange (Announcing signals s) = AsksForNoChange s

-- All other events ask for no change.
abbrev pub OthersChangeNothing : {V N R : Type 0} → BusView V N R → Type 0
OthersChangeNothing {N = N} view = (s : Standing) (e : Event N) → may_change e ≡ false → AsksForNoChange (script s (occasion_of view.told e))
