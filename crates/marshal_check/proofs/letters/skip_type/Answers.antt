use Rattle.std.proofs.Common.{sym, ◌∙◌, arith}
use Rattle.marshal_check.proofs.TypeTexts.{follows, past_a, past_open, past_last, past_close, past_one, past_inner, past_none}
use Rattle.marshal_check.proofs.letters.skip_type.Goals as goal

pub each-preserved-then-first-eq97 : goal.each-preserved-then-first-eq97
each-preserved-then-first-eq97 c = record {
  rest = sym (past_a c.each.open c.in-Some.first.now c.each.rest.now c.in-Some.behind.now c.in-Some.ensures.cases.0 c.if-first-eq97.true) ∙ c.each.invariant.rest;
  within = omega (arith, c.in-Some.ensures.cases.1, c.each.invariant.within);
}

pub each-preserved-then-opens : goal.each-preserved-then-opens
each-preserved-then-opens c = record {
  rest = sym (past_open c.each.open c.in-Some.first.now c.each.rest.now c.in-Some.behind.now c.in-Some.ensures.cases.0 (sym c.opens.ensures ∙ c.if-opens.true) c.if-first-eq97.false) ∙ c.each.invariant.rest;
  within = omega (arith, c.in-Some.ensures.cases.1, c.each.invariant.within);
}

pub returns-then-open-le1-clause-rest : goal.returns-then-open-le1-clause-rest
returns-then-open-le1-clause-rest c = λ t tail e.
    sym (past_last c.each.open c.in-Some.first.now c.each.rest.now c.in-Some.behind.now c.in-Some.ensures.cases.0 c.if-first-eq97.false (sym c.opens.ensures ∙ c.if-opens.false) (sym c.closes.ensures ∙ c.if-closes.true) c.if-open-le1.true)
    ∙ c.each.invariant.rest ∙ follows c.args.of.now t tail e

pub each-preserved-then-closes : goal.each-preserved-then-closes
each-preserved-then-closes c = record {
  rest = sym (past_close c.each.open c.in-Some.first.now c.each.rest.now c.in-Some.behind.now c.in-Some.ensures.cases.0 c.if-first-eq97.false (sym c.opens.ensures ∙ c.if-opens.false) (sym c.closes.ensures ∙ c.if-closes.true) c.if-open-le1.false) ∙ c.each.invariant.rest;
  within = omega (arith, c.in-Some.ensures.cases.1, c.each.invariant.within);
}

pub returns-then-open-eq0-clause-rest : goal.returns-then-open-eq0-clause-rest
returns-then-open-eq0-clause-rest c = λ t tail e.
    sym (past_one c.each.open c.in-Some.first.now c.each.rest.now c.in-Some.behind.now c.in-Some.ensures.cases.0 c.if-first-eq97.false (sym c.opens.ensures ∙ c.if-opens.false) (sym c.closes.ensures ∙ c.if-closes.false) c.if-open-eq0.true)
    ∙ c.each.invariant.rest ∙ follows c.args.of.now t tail e

pub each-preserved : goal.each-preserved
each-preserved c = record {
  rest = sym (past_inner c.each.open c.in-Some.first.now c.each.rest.now c.in-Some.behind.now c.in-Some.ensures.cases.0 c.if-first-eq97.false (sym c.opens.ensures ∙ c.if-opens.false) (sym c.closes.ensures ∙ c.if-closes.false) (omega arith)) ∙ c.each.invariant.rest;
  within = omega (arith, c.in-Some.ensures.cases.1, c.each.invariant.within);
}

pub returns-clause-rest : goal.returns-clause-rest
returns-clause-rest c = λ t tail e. sym (past_none c.each.open c.each.rest.now c.in_default.ensures.cases) ∙ c.each.invariant.rest ∙ follows c.args.of.now t tail e
