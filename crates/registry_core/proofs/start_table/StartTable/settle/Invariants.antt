use Rattle.std.proofs.Common.{◌≡◌, ◌++◌, take}
use Rattle.registry_core.specs.StartTables.{numbers_of}
use Rattle.registry_core.proofs.start_table.StartTable.settle.Given as goal

-- the tickets of the name were added, of so many of all
abbrev pub invariant-loop-ticket : goal.invariant-loop-ticket
invariant-loop-ticket l = l.numbers ≡ l.fn.numbers ++ numbers_of l.fate l.name (take l.ticket-index l.ticket-items)
