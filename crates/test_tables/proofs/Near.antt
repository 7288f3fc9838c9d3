-- How many rules are near a message, where one more is added.
use Rattle.std.proofs.Common.{◌≡◌, ◌+◌, cond, List, [], ◌∷◌, ◌++◌}
use Rattle.std.proofs.lemmas.List.Sums.{sum_by_push}
use Rattle.match_rules.specs.Facts.{Facts}
use Rattle.match_rules.specs.OwnedRules.{OwnedRule}
use Rattle.match_index.specs.Near.{is_near, near_rules}

pub counted : (facts : Facts) (rules : List OwnedRule) (r : OwnedRule) → near_rules facts (rules ++ r ∷ []) ≡ near_rules facts rules + cond (is_near facts r.rule) 1 0
counted facts rules r = sum_by_push (λ (o : OwnedRule). cond (is_near facts o.rule) 1 0) rules r
