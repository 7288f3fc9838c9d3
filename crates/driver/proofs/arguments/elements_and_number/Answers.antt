use Rattle.std.proofs.Common.{sym, ◌∙◌}
use Rattle.driver.proofs.TooMany.{no_elements_and_number_of_more}
use Rattle.driver.proofs.arguments.elements_and_number.Goals as goal

pub returns-then-not-is_empty : goal.returns-then-not-is_empty
returns-then-not-is_empty c = rw (c.in_ok-first.ensures.cases.0, c.in_ok-second.ensures.cases.0) (no_elements_and_number_of_more _ _ _ (sym c.is_empty.ensures ∙ c.if-not-is_empty.true))
