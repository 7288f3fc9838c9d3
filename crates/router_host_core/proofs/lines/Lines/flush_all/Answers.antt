use Rattle.router_host_core.specs.Sockets.{IsFlushedAt}
use Rattle.router_host_core.proofs.Steps.{runs_more}
use Rattle.router_host_core.proofs.lines.Lines.flush_all.Goals as goal
use Rattle.router_host_core.proofs.lines.Lines.flush_all.Goals.{in-Some, in_default}

pub loop-preserved : goal.loop-preserved
loop-preserved g c = elim c.match-next_dirty.branch [
  | in-Some w ↦ rw w.self-is (runs_more IsFlushedAt w.in-Some.key c.args.self.now c.loop.self w.flush.new.self
      c.loop.invariant (rw c.next_dirty.ensures at w.flush.ensures))
  | in_default w ↦ rw (w.self-is, c.next_dirty.ensures) c.loop.invariant
]
