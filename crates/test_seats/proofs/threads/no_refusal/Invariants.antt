use Rattle.std.proofs.Common.{[]}
use Rattle.owner_queues.specs.declared.request.Profile.TheVariants.{Two}
use Rattle.seq_bus_core.specs.Tickets.{opening_bus}
use Rattle.test_seats.proofs.threads.no_refusal.Given as goal

-- the registry that is just opened
abbrev pub ghosts-two_routers-J-Ledger : goal.ghosts-two_routers-J-Ledger
ghosts-two_routers-J-Ledger g a = record { name = a.opened.ledger; parts = a.opened.parts }

abbrev pub ghosts-two_routers-J-Naming : goal.ghosts-two_routers-J-Naming
ghosts-two_routers-J-Naming g a = record { book = a.opened.book; opening = opening_bus Two 2 [] }
