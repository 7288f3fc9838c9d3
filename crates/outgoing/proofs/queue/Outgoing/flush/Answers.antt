use Rattle.outgoing.proofs.Flushings.{kept, more}
use Rattle.std.proofs.Common.{◌∙◌}
use Rattle.outgoing.proofs.queue.Outgoing.flush.Goals as goal
use Rattle.outgoing.proofs.queue.Outgoing.flush.Goals.{in-Ok, in-Err+in-Interrupted}

pub loop-preserved : goal.loop-preserved
loop-preserved g c = elim c.match-write_some.branch [
  | in-Ok w ↦ (
    more _ c.loop.self _ _ _ _ w.in-Ok.count c.loop.invariant.0 w.in-Ok.ensures.bytes (w.self-is ∙ w.forget.ensures),
    c.write_some.ensures.unread ∙ c.loop.invariant.1,
  )
  | in-Err+in-Interrupted w ↦ (
    rw w.self-is (kept _ c.loop.self _ _ _ c.loop.invariant.0 w.in-Err.ensures.bytes),
    c.write_some.ensures.unread ∙ c.loop.invariant.1,
  )
]
