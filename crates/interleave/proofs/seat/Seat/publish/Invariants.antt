use Rattle.std.proofs.Common.{take}
use Rattle.interleave.proofs.RunLemmas.{IsPublishing}
use Rattle.interleave.proofs.seat.Seat.publish.Given as goal

-- the first of the changes were published
abbrev pub invariant-loop-change : goal.invariant-loop-change
invariant-loop-change l = IsPublishing l.fn.self.bus l.seat l.fn.published.items l.fn.log.items (take l.change-index l.changes) l.self.bus l.published.items l.log.items
