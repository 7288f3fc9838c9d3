use Rattle.std.proofs.Common.{[]}
use Rattle.owner_queues.specs.declared.request.Profile.TheVariants.{Two}
use Rattle.seq_bus_core.specs.Tickets.{opening_bus}
use Rattle.busd.proofs.stream.run_stream.Given as goal

-- the registry that is just opened
abbrev pub ghosts-run_over_registry-J-Ledger : goal.ghosts-run_over_registry-J-Ledger
ghosts-run_over_registry-J-Ledger g a = record { name = a.opened.ledger; parts = a.opened.parts }

abbrev pub ghosts-run_over_registry-J-Naming : goal.ghosts-run_over_registry-J-Naming
ghosts-run_over_registry-J-Naming g a = record { book = a.opened.book; opening = opening_bus Two 1 [] }
