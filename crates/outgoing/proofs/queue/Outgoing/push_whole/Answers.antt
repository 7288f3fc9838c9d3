use Rattle.std.proofs.Common.{ℕ, List, drop, length, ap, ◌∙◌, arith}
use Rattle.outgoing.proofs.PartLemmas.{within-more, view-more}
use Rattle.outgoing.proofs.queue.Outgoing.push_whole.Goals as goal

pub invariant_of-self-2 : goal.invariant_of-self-2
invariant_of-self-2 g c = let none = ap length c.in-Ok.ensures.ended in (
  within-more g.C.Chunk.bytes c.self.inside.written c.end_last.new.parts.items _ _ _ c.end_last.new.last.items _
      c.push_back_reserved.ensures.items
      c.reserve.ensures.items
      c.in-Ok.ensures.ended
      (omega (arith, none))
      c.requires
      (c.end_last.ensures.within c.self.inside.written c.self.invariant.0),
  c.end_last.ensures.spare,
)

pub returns-clause-pushed : goal.returns-clause-pushed
returns-clause-pushed g c = view-more g.C.Chunk.bytes c.self.inside.written c.end_last.new.parts.items _ _ _ c.end_last.new.last.items _
    c.push_back_reserved.ensures.items
    c.reserve.ensures.items
    c.in-Ok.ensures.ended
    (c.end_last.ensures.within c.self.inside.written c.self.invariant.0)
    (ap (λ (t : List ℕ). drop c.self.inside.written t) c.end_last.ensures.bytes ∙ c.self.view_is)
