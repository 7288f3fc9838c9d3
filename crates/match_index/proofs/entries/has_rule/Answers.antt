use Rattle.std.proofs.Common.{length, sym, ap, ◌∙◌}
use Rattle.std.proofs.lemmas.Bool.{ltb-true}
use Rattle.match_rules.specs.Rules.{same_rule}
use Rattle.match_index.specs.declared.entries.Entry.{Entry}
use Rattle.match_index.proofs.EntryLemmas.{has_rule_at, has_rule_none}
use Rattle.match_index.proofs.entries.has_rule.Goals as goal

pub returns-in-Some : goal.returns-in-Some
returns-in-Some c =
    let look = c.in-Some.ensures.lookup in
    c.eq.ensures ∙ ap (λ (e : Entry). same_rule e.rule c.args.rule.now) look.1 ∙ sym (has_rule_at c.args.rule.now c.args.entries.now c.args.place c.in-Some.entry.now (ltb-true c.args.place (length c.args.entries.now) (sym look.0)))

pub returns-in-None : goal.returns-in-None
returns-in-None c = sym (has_rule_none c.args.rule.now c.args.entries.now c.args.place c.in-None.ensures.lookup.3)
