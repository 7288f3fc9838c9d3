-- The state of a bus as it was opened.
use Rattle.std.specs.Prelude.{[]}
use Rattle.seq_bus_core.specs.BusState.{BusState}

-- with its profile, its routers and its services, and nothing else
abbrev pub as_opened : BusState → BusState
as_opened s = record s { connections = []; names = []; rules = []; starts = []; next_number = 1; next_ticket = 1; next_start = 1 }
