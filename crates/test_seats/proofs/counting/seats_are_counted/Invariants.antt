use Rattle.std.proofs.Common.{[]}
use Rattle.owner_queues.specs.declared.request.Profile.TheVariants.{Two}
use Rattle.seq_bus_core.specs.Tickets.{opening_bus}
use Rattle.test_seats.proofs.counting.seats_are_counted.Given as goal

-- the registry that is just opened
abbrev pub ghosts-count-J-Ledger : goal.ghosts-count-J-Ledger
ghosts-count-J-Ledger g a = record { name = a.opened.ledger; parts = a.opened.parts }

abbrev pub ghosts-count-J-Naming : goal.ghosts-count-J-Naming
ghosts-count-J-Naming g a = record { book = a.opened.book; opening = opening_bus Two 2 [] }
