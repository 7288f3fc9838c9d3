use Rattle.std.proofs.Common.{refl}
use Rattle.router_host_core.proofs.line.Line.pull.Goals as goal

pub returns-in_default : goal.returns-in_default
returns-in_default g c =
    (c.end_by.ensures c.args.self.now.left, rw (← c.self.view_is, c.in-Err.ensures.err, c.read.ensures.unwritten) refl)
