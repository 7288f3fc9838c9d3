-- Rules of connections with low numbers.
use Rattle.std.proofs.Common.{ℕ, suc, ◌+◌, ◌<◌, ◌≤◌, Bool, true, false, cond, not, List, [], ◌∷◌, ◌++◌, length, arith, if◌then◌else◌}
use Rattle.std.specs.List.{AllByRecursion as Each}
use Rattle.match_rules.specs.OwnedRules.{OwnedRule, rules_without, without_first}
use Rattle.match_index.specs.Collecting.{connections_of}
use Rattle.match_index.specs.Sets.{AreRising}
use Rattle.match_index.proofs.CollectLemmas.{rising_connections}
use Rattle.match_index.proofs.SetLemmas.{each_with}

abbrev pub AreLow : List OwnedRule → Type 0
AreLow rules = Each (λ r. r.connection < 256) rules

pub low_added : (rules : List OwnedRule) (r : OwnedRule) → AreLow rules → r.connection < 256 → AreLow (rules ++ r ∷ [])
low_added [] r h lt = (lt, tt)
low_added (x ∷ rules) r h lt = (h.0, low_added rules r h.1 lt)

pub low_without_first : (test : OwnedRule → Bool) (rules : List OwnedRule) → AreLow rules → AreLow (without_first test rules)
low_without_first test [] h = tt
low_without_first test (r ∷ rules) h = by_test (test r) (low_without_first test rules h.1)
  where
    by_test : (b : Bool) → AreLow (without_first test rules) → AreLow (if b then rules else r ∷ without_first test rules)
    by_test true rest = h.1
    by_test false rest = (h.0, rest)

pub low_without : (c : ℕ) (rules : List OwnedRule) → AreLow rules → AreLow (rules_without c rules)
low_without c [] h = tt
low_without c (r ∷ rules) h = by_test (Rattle.std.proofs.Common.nat_eq r.connection c) (low_without c rules h.1)
  where
    by_test : (b : Bool) → AreLow (rules_without c rules) → AreLow (cond (not b) (r ∷ rules_without c rules) (rules_without c rules))
    by_test true rest = rest
    by_test false rest = (h.0, rest)

low_numbers : (rules : List OwnedRule) → AreLow rules → Each (λ n. n < 256) (connections_of rules)
low_numbers [] h = tt
low_numbers (r ∷ rules) h = each_with (λ n. n < 256) r.connection (connections_of rules) h.0 (low_numbers rules h.1)

between : (xs : List ℕ) (least most : ℕ) → AreRising xs → Each (λ n. least ≤ n) xs → Each (λ n. n < most) xs → least ≤ most → length xs + least ≤ most
between [] least most rising low high le = omega (arith, le)
between (x ∷ xs) least most rising low high le = let rest = between xs (suc x) most rising.1 (above x xs rising.0) high.1 (omega (arith, high.0)) in omega (arith, rest, low.0)
  where
    above : (y : ℕ) (ys : List ℕ) → Each (λ n. y < n) ys → Each (λ n. suc y ≤ n) ys
    above y [] h = tt
    above y (z ∷ ys) h = (omega (arith, h.0), above y ys h.1)

all_zero : (xs : List ℕ) → Each (λ n. 0 ≤ n) xs
all_zero [] = tt
all_zero (x ∷ xs) = (omega arith, all_zero xs)

pub low_are_few : (rules : List OwnedRule) → AreLow rules → length (connections_of rules) ≤ 256
low_are_few rules h = let few = between (connections_of rules) 0 256 (rising_connections rules) (all_zero (connections_of rules)) (low_numbers rules h) (omega arith) in omega (arith, few)
