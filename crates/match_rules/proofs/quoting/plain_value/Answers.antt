use Rattle.std.proofs.Common.{sym, ◌∙◌}
use Rattle.match_rules.proofs.Quotes.{plain_value_read}
use Rattle.match_rules.proofs.quoting.plain_value.Goals as goal

pub returns-else-contains-clause-value : goal.returns-else-contains-clause-value
returns-else-contains-clause-value c =
    plain_value_read c.args.text.now c.in_ok-strip_prefix.field-0.now c.in_ok-value.value.now c.in_ok-strip_prefix.ensures.cases.0 c.in_ok-strip_prefix.ensures.cases.1 c.in_ok-value.ensures.cases.0 c.in_ok-value.ensures.cases.1 (sym c.contains.ensures.value ∙ c.if-contains.false)
