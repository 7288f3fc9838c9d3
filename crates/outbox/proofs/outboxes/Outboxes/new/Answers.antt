use Rattle.std.proofs.Common.{arith}
use Rattle.std.proofs.Math.Nat.{mul-div-le}
use Rattle.seq_bus_core.specs.declared.limits.TheConstants.{MAX_CONNECTIONS}
use Rattle.outbox.proofs.outboxes.Outboxes.new.Goals as goal

pub open_lanes-requires-clause-slots : goal.open_lanes-requires-clause-slots
open_lanes-requires-clause-slots g c = omega (arith, mul-div-le MAX_CONNECTIONS c.routers.result)
