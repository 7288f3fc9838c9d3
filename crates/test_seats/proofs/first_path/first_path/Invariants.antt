use Rattle.std.proofs.Common.{[]}
use Rattle.owner_queues.specs.declared.request.Profile.TheVariants.{Two}
use Rattle.seq_bus_core.specs.Tickets.{opening_bus}
use Rattle.test_seats.proofs.first_path.first_path.Given as goal

-- the registry that is just opened
abbrev pub ghosts-serve_once-J-Ledger : goal.ghosts-serve_once-J-Ledger
ghosts-serve_once-J-Ledger g a = record { name = a.opened.ledger; parts = a.opened.parts }

abbrev pub ghosts-serve_once-J-Naming : goal.ghosts-serve_once-J-Naming
ghosts-serve_once-J-Naming g a = record { book = a.opened.book; opening = opening_bus Two 1 [] }
