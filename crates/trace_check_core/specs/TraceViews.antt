-- How contracts see a trace.
use Rattle.std.specs.Prelude.{◌≡◌, ◌+◌, Option, Some, None, Bool, true, false, length}
use Rattle.std.specs.List.{AllByRecursion as Each}
use Rattle.seq_bus_core.specs.Histories.{CanOpen}
use Rattle.trace_check_core.specs.KeptLines.{IsSeated}
use Rattle.trace_check_core.specs.Traces.{Trace}
use Rattle.trace_check_core.specs.declared.trace.Trace.TheInside.{Inside}

abbrev pub trace_said : Inside → Trace
trace_said t = record { profile = t.profile; routers = t.routers; services = t.services.items; lines = t.lines.items }

-- A bus can be opened as the head says, and every line has a number.
pub record IsHeld (t : Inside) : Type 0 where
  pub opened : CanOpen t.routers t.services.items
  pub lines_seated : Each (IsSeated t.routers) t.lines.items
  pub counted : t.count ≡ length t.services.items + length t.lines.items + 2

-- the trace once it has taken a line, if it has
abbrev pub taken : Bool → Trace → Option Trace
taken false t = None
taken true t = Some t
