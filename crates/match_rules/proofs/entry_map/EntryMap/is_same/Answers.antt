use Rattle.std.proofs.Common.{◌≡◌, ap, ◌∙◌}
use Rattle.std.proofs.Math.Logic.{∥∥₁_elim}
use Rattle.std.proofs.Props.{props}
use Rattle.std.specs.Str.{bytes_eq}
use Rattle.match_rules.specs.Rules.{same_rule}
use Rattle.match_rules.specs.RuleBytes.{rule_in}
use Rattle.match_rules.proofs.RuleLemmas.{bytes_compare}
use Rattle.match_rules.proofs.entry_map.EntryMap.is_same.Goals as goal

pub returns : goal.returns
returns c =
    let x = c.self.inside.bytes in
    let y = c.other.inside.bytes in
    let compared : bytes_eq x y ≡ same_rule (rule_in x) (rule_in y) =
    ∥∥₁_elim c.self.invariant.0 (hlevel props) (λ hx. ∥∥₁_elim c.other.invariant.0 (hlevel props) (λ hy. bytes_compare x y hx c.self.invariant.1 hy c.other.invariant.1))
    in c.eq.ensures ∙ ap (λ a. bytes_eq a c.as_slice-2.result.now) c.as_slice.ensures.value ∙ ap (λ b. bytes_eq x b) c.as_slice-2.ensures.value ∙ compared ∙ ap (λ a. same_rule a (rule_in y)) c.self.view_is ∙ ap (λ b. same_rule c.args.self.now b) c.other.view_is
