use Rattle.std.proofs.Common.{refl}
use Rattle.trace_check_core.proofs.HeldTraces.{held_headed}
use Rattle.trace_check_core.proofs.trace.Trace.headed.Goals as goal

pub invariant_of-result : goal.invariant_of-result
invariant_of-result c = held_headed _ c.requires c.new.ensures.items c.new-2.ensures.items refl
