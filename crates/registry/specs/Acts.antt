-- How a prepared change is kept.
use Rattle.std.specs.Prelude.{[]}
use Rattle.seq_bus_core.specs.Changes.{no_call}
use Rattle.seq_bus_core.specs.declared.change.Change.{Change}
use Rattle.seq_bus_core.specs.declared.change.Change.TheVariants.{Hello as SaysHello, Leave as Leaves, Request as Requests, Release as Releases, AddMatch as AddsMatch, RemoveMatch as RemovesMatch, BecomeMonitor as BecomesMonitor, Start as Starts, Hold as Holds, ChildEnded as EndsChild, StartTimedOut as TimesOut}
use Rattle.registry.specs.declared.prepared.Act.{Act}
use Rattle.registry.specs.declared.prepared.Act.TheVariants.{Hello, Leave, Request, Release, AddMatch, RemoveMatch, BecomeMonitor, Start, Hold, ChildEnded, StartTimedOut}

abbrev pub change_of : Act → Change
change_of (Hello privileged) = SaysHello privileged
change_of (Leave connection) = Leaves connection
change_of (Request connection name flags) = Requests connection name.value flags
change_of (Release connection name) = Releases connection name.value
change_of (AddMatch connection rule) = AddsMatch connection rule.value
change_of (RemoveMatch connection rule) = RemovesMatch connection rule.value
change_of (BecomeMonitor connection rules) = BecomesMonitor connection rules
change_of (Start connection name) = Starts connection name.value no_call
change_of (Hold connection name) = Holds connection name.value no_call []
change_of (ChildEnded name start how) = EndsChild name.value start how
change_of (StartTimedOut name start) = TimesOut name.value start
