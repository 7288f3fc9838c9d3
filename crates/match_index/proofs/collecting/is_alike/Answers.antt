use Rattle.std.proofs.Common.{sym, ◌∙◌}
use Rattle.match_index.proofs.CollectLemmas.{one_rule}
use Rattle.match_index.proofs.collecting.is_alike.Goals as goal

pub returns-then-eq-clause-rule : goal.returns-then-eq-clause-rule
returns-then-eq-clause-rule c = λ h. one_rule c.args.a.now.rule c.args.b.now.rule c.rules_are_read_again.ensures c.rules_are_read_again-then-eq.ensures (sym c.eq.ensures ∙ c.if-eq.true)
