use Rattle.std.proofs.Common.{◌≡◌, length, ◌∷◌, arith, ◌∙◌, ap}
use Rattle.std.proofs.lemmas.List.{nil_from_length}
use Rattle.marshal_core.specs.Reading.{zeros_at}
use Rattle.marshal.proofs.Steps.{zeros_next, zeros_short}
use Rattle.marshal.proofs.fixed.zeros.Goals as goal

pub returns-in_default-clause-reads : goal.returns-in_default-clause-reads
returns-in_default-clause-reads c = zeros_short c.args.count c.loop.counter c.args.short c.loop.rest.now (zeros_at c.args.count c.args.short c.args.bytes.now) c.loop-test.true (nil_from_length c.loop.rest.now c.in_default.ensures.cases) c.loop.invariant.reads

pub loop-preserved : goal.loop-preserved
loop-preserved c =
    let h : c.loop.rest.now ≡ 0 ∷ c.in-Some.after.now = c.in-Some.ensures.cases.0 ∙ ap (λ b. b ∷ c.in-Some.after.now) c.if-first-ne0.false in
    record { reads = zeros_next c.args.count c.loop.counter c.args.short c.loop.rest.now c.in-Some.after.now (zeros_at c.args.count c.args.short c.args.bytes.now) c.loop-test.true h c.loop.invariant.reads; place = omega (arith, ap length h) }
