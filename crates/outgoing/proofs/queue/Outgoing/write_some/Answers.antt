use Rattle.std.proofs.Common.{ℕ, List, drop, ap, ◌∙◌}
use Rattle.std.proofs.lemmas.List.{take_rest}
use Rattle.outgoing.specs.Parts.{part_at}
use Rattle.outgoing.proofs.PartLemmas.{lends}
use Rattle.outgoing.proofs.Flushings.{writes-front, bound-front}
use Rattle.outgoing.proofs.queue.Outgoing.write_some.Goals as goal

pub returns-clause-bound : goal.returns-clause-bound
returns-clause-bound g c = let f = g.C.Chunk.bytes in let items = c.self.inside.parts.items in let written = c.self.inside.written in
    let r = lends f written items c.self.inside.last.items c.new.result.0.now c.new-2.result.0.now c.new-3.result.0.now c.new-4.result.0.now c.args.self.now
    (c.new.ensures ∙ take_rest c.part_at.result.now written ∙ ap (λ (t : List ℕ). drop written t) (c.part_at.ensures ∙ ap (λ (l : List ℕ). part_at f items l 0) c.as_slice-last.ensures.value))
    (c.new-2.ensures ∙ c.part_at-second.ensures ∙ ap (λ (l : List ℕ). part_at f items l 1) c.as_slice-last.ensures.value)
    (c.new-3.ensures ∙ c.part_at-third.ensures ∙ ap (λ (l : List ℕ). part_at f items l 2) c.as_slice-last.ensures.value)
    (c.new-4.ensures ∙ c.part_at-fourth.ensures ∙ ap (λ (l : List ℕ). part_at f items l 3) c.as_slice-last.ensures.value)
    c.self.invariant.0 c.self.view_is in
    bound-front c.write_parts.result _ r.0 c.args.self.now r.1 c.write_parts.ensures.bound

pub returns-clause-bytes : goal.returns-clause-bytes
returns-clause-bytes g c = let f = g.C.Chunk.bytes in let items = c.self.inside.parts.items in let written = c.self.inside.written in
    let r = lends f written items c.self.inside.last.items c.new.result.0.now c.new-2.result.0.now c.new-3.result.0.now c.new-4.result.0.now c.args.self.now
    (c.new.ensures ∙ take_rest c.part_at.result.now written ∙ ap (λ (t : List ℕ). drop written t) (c.part_at.ensures ∙ ap (λ (l : List ℕ). part_at f items l 0) c.as_slice-last.ensures.value))
    (c.new-2.ensures ∙ c.part_at-second.ensures ∙ ap (λ (l : List ℕ). part_at f items l 1) c.as_slice-last.ensures.value)
    (c.new-3.ensures ∙ c.part_at-third.ensures ∙ ap (λ (l : List ℕ). part_at f items l 2) c.as_slice-last.ensures.value)
    (c.new-4.ensures ∙ c.part_at-fourth.ensures ∙ ap (λ (l : List ℕ). part_at f items l 3) c.as_slice-last.ensures.value)
    c.self.invariant.0 c.self.view_is in
    writes-front c.write_parts.result _ _ _ r.0 c.args.self.now r.1 c.write_parts.ensures.bound c.write_parts.ensures.bytes
