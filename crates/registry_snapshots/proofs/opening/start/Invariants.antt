use Rattle.owner_queues.specs.declared.request.Profile.TheVariants.{Two}
use Rattle.seq_bus_core.specs.Tickets.{opening_bus}
use Rattle.registry_snapshots.proofs.opening.start.Given as goal

-- the registry that is just opened
abbrev pub ghosts-begin-J-Ledger : goal.ghosts-begin-J-Ledger
ghosts-begin-J-Ledger g a = record { name = a.opened.ledger; parts = a.opened.parts }

abbrev pub ghosts-begin-J-Naming : goal.ghosts-begin-J-Naming
ghosts-begin-J-Naming g a = record { book = a.opened.book; opening = opening_bus Two a.routers a.services.now }
