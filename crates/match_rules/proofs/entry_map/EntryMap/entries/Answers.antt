use Rattle.std.proofs.Common.{◌≡◌, true, subst}
use Rattle.std.proofs.Math.Logic.{∥∥₁_elim}
use Rattle.std.proofs.lemmas.Grind.{merely}
use Rattle.std.proofs.Props.{props}
use Rattle.match_rules.specs.Rules.{IsRising}
use Rattle.match_rules.specs.EntryView.{all_taken}
use Rattle.match_rules.specs.RuleBytes.{rule_in}
use Rattle.match_rules.proofs.EntryLemmas.{entries_taken}
use Rattle.match_rules.proofs.entry_map.EntryMap.entries.Goals as goal

pub returns-clause-rising : goal.returns-clause-rising
returns-clause-rising c =
    let rising : ∥ IsRising (rule_in c.self.inside.bytes) ∥₁ = ∥∥₁_elim c.self.invariant.0 (hlevel props) (λ h. merely h.0) in
    subst (λ rule. ∥ IsRising rule ∥₁) c.self.view_is rising

pub returns-clause-taken : goal.returns-clause-taken
returns-clause-taken c =
    let taken : all_taken (rule_in c.self.inside.bytes) ≡ true = ∥∥₁_elim c.self.invariant.0 (hlevel props) (λ h. entries_taken (rule_in c.self.inside.bytes) h.1) in
    subst (λ rule. all_taken rule ≡ true) c.self.view_is taken
