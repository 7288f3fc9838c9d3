use Rattle.std.proofs.Common.{◌∙◌, arith}
use Rattle.match_rules.proofs.DecimalLemmas.{nothing_written, other_last, one_digit, more_digits}
use Rattle.match_rules.proofs.fitting.+is_decimal.Goals as goal

pub returns-in_default : goal.returns-in_default
returns-in_default t c = nothing_written c.args.digits.now c.args.number (omega arith) c.in_default.ensures.cases

pub returns-then-last-number : goal.returns-then-last-number
returns-then-last-number t c = other_last c.args.digits.now c.in-Some.front.now c.in-Some.last.now c.args.number (omega arith) c.in-Some.ensures.cases.0 c.if-last-number.true

pub returns-then-number-lt10 : goal.returns-then-number-lt10
returns-then-number-lt10 t c = c.is_empty.ensures ∙ one_digit c.args.digits.now c.in-Some.front.now c.in-Some.last.now c.args.number c.if-number-lt10.true c.in-Some.ensures.cases.0 c.if-last-number.false

pub returns : goal.returns
returns t c = c.is_decimal.ensures ∙ more_digits c.args.digits.now c.in-Some.front.now c.in-Some.last.now c.args.number c.if-number-lt10.false (omega arith) c.in-Some.ensures.cases.0 c.if-last-number.false
