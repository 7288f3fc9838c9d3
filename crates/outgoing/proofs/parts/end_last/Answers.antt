use Rattle.std.proofs.Common.{◌≡◌, ◌≢◌, ◌<◌, false, eqb, length, ap, sym, ◌∙◌, arith}
use borrow.Author.Tests.{eqb-false}
use Rattle.std.specs.Prelude.{Vec}
use Rattle.outgoing.proofs.PartLemmas.{bytes-more, within-more}
use Rattle.outgoing.proofs.parts.end_last.Goals as goal

pub returns-clause-bytes : goal.returns-clause-bytes
returns-clause-bytes g c = bytes-more g.C.Chunk.bytes _ _ _ _ _ _
    c.push_back_reserved.ensures.items
    c.reserve.ensures.items
    (ap (λ (v : Vec _ _). v.items) (c.replace-ended.ensures.value ∙ c.swap.ensures.y_after))
    (ap (λ (v : Vec _ _). v.items) c.swap.ensures.x_after ∙ c.requires)

pub returns-clause-within : goal.returns-clause-within
returns-clause-within g c written h =
    let same : c.replace-ended.result.items ≡ c.args.last.now.items = ap (λ (v : Vec _ _). v.items) (c.replace-ended.ensures.value ∙ c.swap.ensures.y_after) in
    let long = ap length same in
    let test : eqb c.args.last.now.len 0 ≡ false = sym c.is_empty.ensures ∙ c.if-is_empty.false in
    let apart : c.args.last.now.len ≢ 0 = eqb-false c.args.last.now.len 0 test in
    let some : 0 < length c.args.last.now.items = omega (arith, apart, c.args.last.now.ok.0) in
    within-more g.C.Chunk.bytes written _ _ _ _ c.args.last.now.items _
    c.push_back_reserved.ensures.items
    c.reserve.ensures.items
    (ap (λ (v : Vec _ _). v.items) c.swap.ensures.x_after ∙ c.requires)
    (omega (arith, long))
    (omega (arith, long, some))
    h
