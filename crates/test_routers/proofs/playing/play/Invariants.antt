use Rattle.std.proofs.Common.{[]}
use Rattle.owner_queues.specs.declared.request.Profile.TheVariants.{Two}
use Rattle.seq_bus_core.specs.Tickets.{opening_bus}
use Rattle.test_routers.proofs.playing.play.Given as goal

-- the registry that is just opened
abbrev pub ghosts-open-J-Ledger : goal.ghosts-open-J-Ledger
ghosts-open-J-Ledger g a = record { name = a.opened.ledger; parts = a.opened.parts }

abbrev pub ghosts-open-J-Naming : goal.ghosts-open-J-Naming
ghosts-open-J-Naming g a = record { book = a.opened.book; opening = opening_bus Two a.routers [] }
