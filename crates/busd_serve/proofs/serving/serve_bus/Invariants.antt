use Rattle.owner_queues.specs.declared.request.Profile.TheVariants.{Two}
use Rattle.seq_bus_core.specs.Tickets.{opening_bus}
use Rattle.busd_serve.proofs.serving.serve_bus.Given as goal

-- the registry that is just opened
abbrev pub ghosts-serve_over_registry-J-Ledger : goal.ghosts-serve_over_registry-J-Ledger
ghosts-serve_over_registry-J-Ledger g a = record { name = a.opened.ledger; parts = a.opened.parts }

abbrev pub ghosts-serve_over_registry-J-Naming : goal.ghosts-serve_over_registry-J-Naming
ghosts-serve_over_registry-J-Naming g a = record { book = a.opened.book; opening = opening_bus Two a.bus.now.options.routers a.listening.names.items }
