use Rattle.std.proofs.Common.{ℕ, List, drop, ap, ◌∙◌}
use Rattle.outgoing.proofs.PartLemmas.{view-longer}
use Rattle.outgoing.proofs.queue.Outgoing.copy.Goals as goal

pub returns-then-bytes-saturating_sub-clause-pushed : goal.returns-then-bytes-saturating_sub-clause-pushed
returns-then-bytes-saturating_sub-clause-pushed g c = view-longer g.C.Chunk.bytes c.extend_from_slice.result c.self.inside.written c.self.inside.parts.items c.self.inside.last.items _ c.args.bytes.now _
    c.extend_from_slice.ensures.items c.self.invariant.0 c.self.view_is

pub returns-clause-pushed : goal.returns-clause-pushed
returns-clause-pushed g c = view-longer g.C.Chunk.bytes c.extend_from_slice-2.result c.self.inside.written c.end_last.new.parts.items c.end_last.new.last.items _ c.args.bytes.now _
    c.extend_from_slice-2.ensures.items
    (c.end_last.ensures.within c.self.inside.written c.self.invariant.0)
    (ap (λ (t : List ℕ). drop c.self.inside.written t) c.end_last.ensures.bytes ∙ c.self.view_is)
