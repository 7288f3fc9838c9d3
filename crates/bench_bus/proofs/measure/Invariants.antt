use Rattle.std.proofs.Common.{[], ◌∷◌}
use Rattle.owner_queues.specs.declared.request.Profile.TheVariants.{Two}
use Rattle.seq_bus_core.specs.Tickets.{opening_bus}
use Rattle.bench_bus.specs.declared.samples.TheConstants.{ROUTERS}
use Rattle.bench_bus.proofs.measure.Given as goal

-- the registry that is just opened
abbrev pub ghosts-measure_opened-J-Ledger : goal.ghosts-measure_opened-J-Ledger
ghosts-measure_opened-J-Ledger g a = record { name = a.opened.ledger; parts = a.opened.parts }

abbrev pub ghosts-measure_opened-J-Naming : goal.ghosts-measure_opened-J-Naming
ghosts-measure_opened-J-Naming g a = record { book = a.opened.book; opening = opening_bus Two ROUTERS (a.service ∷ []) }
