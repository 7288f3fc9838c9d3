use Rattle.std.proofs.Common.{◌≡◌, take}
use Rattle.std.specs.Prelude.{string_bytes}
use Rattle.busd_core.specs.Heads.{head_text}
use Rattle.busd_core.proofs.trace.head.Given as goal

abbrev pub invariant-loop-service : goal.invariant-loop-service
invariant-loop-service l = string_bytes l.head ≡ head_text l.fn.routers (take l.service-index l.services)
