-- Changes by what their steps look at.
use Rattle.std.specs.Prelude.{◌≡◌, ℕ, []}
use Rattle.seq_bus_core.specs.BusState.{BusState}
use Rattle.seq_bus_core.specs.Steps.{step}
use Rattle.seq_bus_core.specs.declared.change.CallHead.{CallHead}
use Rattle.seq_bus_core.specs.declared.change.Change.{Change}
use Rattle.seq_bus_core.specs.declared.change.Change.TheVariants.{Hello, Leave, Request, Release, AddMatch, RemoveMatch, BecomeMonitor, Start, Hold, ChildEnded, StartTimedOut}

-- what a ticket carries is not looked at
abbrev pub no_call : CallHead
no_call = record { serial = 0; flags = 0 }

-- the change by what its step looks at: not what a ticket carries
abbrev pub as_seen : Change → Change
as_seen (Hello privileged) = Hello privileged
as_seen (Leave number) = Leave number
as_seen (Request number name flags) = Request number name flags
as_seen (Release number name) = Release number name
as_seen (AddMatch number rule) = AddMatch number rule
as_seen (RemoveMatch number rule) = RemoveMatch number rule
as_seen (BecomeMonitor number rules) = BecomeMonitor number rules
as_seen (Start number name call) = Start number name no_call
as_seen (Hold number name call message) = Hold number name no_call []
as_seen (ChildEnded name number how) = ChildEnded name number how
as_seen (StartTimedOut name number) = StartTimedOut name number

-- A step does not look at what a ticket carries.
abbrev pub StepsSeeNoMore : Type 0
StepsSeeNoMore = (s : BusState) (seat : ℕ) (change : Change) → step s seat (as_seen change) ≡ step s seat change
