use Rattle.std.proofs.Common.{◌≡◌, ◌<◌, ◌≤◌, length, refl, ap, ◌∙◌, ⊎_elim, arith}
use Rattle.std.proofs.Math.Nat.{eq-or-lt_of_le}
use Rattle.std.proofs.lemmas.Bool.{cases_lt, false≢true}
use Rattle.outgoing.specs.Parts.{part_at}
use Rattle.outgoing.proofs.PartLemmas.{found, found_last, found_none}
use Rattle.outgoing.proofs.parts.part_at.Goals as goal

pub returns-in-Some : goal.returns-in-Some
returns-in-Some g c = let items = c.args.parts.now.items in
    c.as_slice.ensures ∙ found g.C.Chunk.bytes items c.args.last.now c.args.place c.in-Some.part.now (omega (arith, c.in-Some.ensures.variant.0 refl)) c.in-Some.ensures.lookup

pub returns-in-None : goal.returns-in-None
returns-in-None g c = let items = c.args.parts.now.items in let last = c.args.last.now in
    let is : length items ≡ c.args.place = omega (arith, c.if-place-len.true, c.len.ensures) in
    found_last g.C.Chunk.bytes items last ∙ ap (λ n. part_at g.C.Chunk.bytes items last n) is

pub returns-in-None-2 : goal.returns-in-None-2
returns-in-None-2 g c = let items = c.args.parts.now.items in
    found_none g.C.Chunk.bytes items c.args.last.now c.args.place
    (⊎_elim
    (λ (less : c.args.place < length items). absurd (false≢true (c.in-None-2.ensures.variant.1 (omega (arith, less)))))
    (λ (past : length items ≤ c.args.place). ⊎_elim (λ (is : length items ≡ c.args.place). absurd (c.if-place-len.false (omega (arith, is, c.len.ensures)))) (λ (less : length items < c.args.place). less) (eq-or-lt_of_le past))
    (cases_lt c.args.place (length items)))
