-- What AddMatch and RemoveMatch do.
use Rattle.std.proofs.Common.{◌≡◌, ℕ, ◌+◌, ◌<◌, nat_lt, nat_le, ◌==◌, Bool, true, false, cond, not, ◌&&◌, ◌||◌, Option, Some, None, is_some, List, [], ◌∷◌, ◌++◌, length, refl, ap, ◌∙◌, arith, if◌then◌else◌}
use Rattle.std.specs.List.{list_any, find}
use Rattle.std.proofs.lemmas.Bool.Decides.{nat_tests}
use Rattle.std.proofs.lemmas.List.{length_push}
use Rattle.std.proofs.lemmas.List.Sums.{sum_by-append}
use Rattle.match_rules.specs.Rules.{Rule}
use Rattle.match_rules.specs.OwnedRules.{OwnedRule, count_of, is_rule_of, without_first}
use Rattle.seq_bus_core.specs.BusState.{BusState, Connection, is_client, is_monitor, client_of, max_rules, max_rules_of_one}
use Rattle.seq_bus_core.specs.Steps.{Stepped, add_match, announced, for_client, is_within_rules, remove_match, replied, step, unchanged, with_rule}
use Rattle.seq_bus_core.specs.declared.change.Change.TheVariants.{AddMatch, RemoveMatch}
use Rattle.seq_bus_core.specs.declared.outcome.Reply.TheVariants.{Gone, LimitsExceeded, Done, RuleNotFound}
use Rattle.registry.specs.Matches.{reply_to_add, reply_to_remove}

pub some_found : {X : Type 0} (test : X → Bool) (xs : List X) → is_some (find test xs) ≡ list_any test xs
some_found test [] = refl
some_found test (x ∷ xs) = by_test (test x) (some_found test xs)
  where
    by_test : (b : Bool) → is_some (find test xs) ≡ list_any test xs → is_some (cond b (Some x) (find test xs)) ≡ (b || list_any test xs)
    by_test true others = refl
    by_test false others = others

-- a change of a client, whoever it is
pub of_client : (s : BusState) (number : ℕ) (does : Stepped) → for_client s (client_of s number) (λ c. does) ≡ (if not (is_client s.connections number) then unchanged s Gone else does)
of_client s number does = by_found (client_of s number) ∙ ap (λ b. if not b then unchanged s Gone else does) (some_found (λ c. (c.number == number) && not (is_monitor c)) s.connections)
  where
    by_found : (o : Option Connection) → for_client s o (λ c. does) ≡ (if not (is_some o) then unchanged s Gone else does)
    by_found None = refl
    by_found (Some c) = refl

-- ## AddMatch

one_more : (n : ℕ) (rules : List OwnedRule) (rule : Rule) → count_of n (rules ++ record { connection = n; rule = rule } ∷ []) ≡ count_of n rules + 1
one_more n rules rule =
    let same : (n == n) ≡ true = grind (arith, nat_tests) in
    sum_by-append (λ r. cond (r.connection == n) 1 0) rules (record { connection = n; rule = rule } ∷ []) ∙ rw same refl

within : (s : BusState) (number : ℕ) (rule : Rule) → is_within_rules (with_rule s number rule) number ≡ (nat_lt (length s.rules) max_rules && nat_lt (count_of number s.rules) max_rules_of_one)
within s number rule =
    ap (λ n. nat_le n max_rules && nat_le (count_of number (with_rule s number rule).rules) max_rules_of_one) (length_push s.rules (record { connection = number; rule = rule }))
    ∙ ap (λ n. nat_le (length s.rules + 1) max_rules && nat_le n max_rules_of_one) (one_more number s.rules rule)
    ∙ ap (λ b. b && nat_le (count_of number s.rules + 1) max_rules_of_one) (below (length s.rules) max_rules) ∙ ap (λ b. nat_lt (length s.rules) max_rules && b) (below (count_of number s.rules) max_rules_of_one)
  where
    below : (n limit : ℕ) → nat_le (n + 1) limit ≡ nat_lt n limit
    below n limit = by_test (nat_lt n limit) refl
      where
        by_test : (b : Bool) → nat_lt n limit ≡ b → nat_le (n + 1) limit ≡ nat_lt n limit
        by_test true e = grind (arith, nat_tests)
        by_test false e = grind (arith, nat_tests)

add_by : (s : BusState) (seat number : ℕ) (rule : Rule) →
    step s seat (AddMatch number rule)
    ≡ (if not (is_client s.connections number) then unchanged s Gone
    else if nat_lt (length s.rules) max_rules && nat_lt (count_of number s.rules) max_rules_of_one then announced (with_rule s number rule) Done []
    else unchanged s LimitsExceeded)
add_by s seat number rule =
    of_client s number (add_match s number rule)
    ∙ ap (λ b. if not (is_client s.connections number) then unchanged s Gone else if b then announced (with_rule s number rule) Done [] else unchanged s LimitsExceeded) (within s number rule)

pub add_told : (s : BusState) (seat number : ℕ) (rule : Rule) → (step s seat (AddMatch number rule)).1 ≡ replied (reply_to_add s number)
add_told s seat number rule = ap (λ r. r.1) (add_by s seat number rule) ∙ by_tests (is_client s.connections number) (nat_lt (length s.rules) max_rules && nat_lt (count_of number s.rules) max_rules_of_one)
  where
    by_tests : (client room : Bool) →
        (if not client then unchanged s Gone else if room then announced (with_rule s number rule) Done [] else unchanged s LimitsExceeded).1
        ≡ replied (if not client then Gone else if room then Done else LimitsExceeded)
    by_tests false room = refl
    by_tests true true = refl
    by_tests true false = refl

pub add_made : (s : BusState) (seat number : ℕ) (rule : Rule) → reply_to_add s number ≡ Done → ((step s seat (AddMatch number rule)).0 ≡ with_rule s number rule) × (length s.rules < max_rules)
add_made s seat number rule e = by_tests (is_client s.connections number) (nat_lt (length s.rules) max_rules) (nat_lt (count_of number s.rules) max_rules_of_one) refl (ap (λ r. r.0) (add_by s seat number rule)) e
  where
    by_tests : (client room few : Bool) → nat_lt (length s.rules) max_rules ≡ room →
        (step s seat (AddMatch number rule)).0 ≡ (if not client then unchanged s Gone else if room && few then announced (with_rule s number rule) Done [] else unchanged s LimitsExceeded).0 →
        (if not client then Gone else if room && few then Done else LimitsExceeded) ≡ Done →
        ((step s seat (AddMatch number rule)).0 ≡ with_rule s number rule) × (length s.rules < max_rules)
    by_tests false room few t is k = cc
    by_tests true true true t is k = (is, grind (arith, nat_tests))
    by_tests true true false t is k = cc
    by_tests true false few t is k = cc

pub add_not_made : (s : BusState) (seat number : ℕ) (rule : Rule) → (reply_to_add s number ≡ Done → ⊥) → (step s seat (AddMatch number rule)).0 ≡ s
add_not_made s seat number rule other =
    ap (λ r. r.0) (add_by s seat number rule) ∙ by_tests (is_client s.connections number) (nat_lt (length s.rules) max_rules && nat_lt (count_of number s.rules) max_rules_of_one) other
  where
    by_tests : (client room : Bool) → ((if not client then Gone else if room then Done else LimitsExceeded) ≡ Done → ⊥) →
        (if not client then unchanged s Gone else if room then announced (with_rule s number rule) Done [] else unchanged s LimitsExceeded).0 ≡ s
    by_tests false room k = refl
    by_tests true true k = absurd (k refl)
    by_tests true false k = refl

-- ## RemoveMatch

pub remove_told : (s : BusState) (seat number : ℕ) (rule : Rule) → (step s seat (RemoveMatch number rule)).1 ≡ replied (reply_to_remove s number rule)
remove_told s seat number rule = ap (λ r. r.1) (of_client s number (remove_match s number rule)) ∙ by_tests (is_client s.connections number) (list_any (is_rule_of number rule) s.rules)
  where
    by_tests : (client there : Bool) →
        (if not client then unchanged s Gone else if there then announced (record s { rules = without_first (is_rule_of number rule) s.rules }) Done [] else unchanged s RuleNotFound).1
        ≡ replied (if not client then Gone else if there then Done else RuleNotFound)
    by_tests false there = refl
    by_tests true true = refl
    by_tests true false = refl

pub remove_made : (s : BusState) (seat number : ℕ) (rule : Rule) → reply_to_remove s number rule ≡ Done →
    (step s seat (RemoveMatch number rule)).0 ≡ record s { rules = without_first (is_rule_of number rule) s.rules }
remove_made s seat number rule e =
    ap (λ r. r.0) (of_client s number (remove_match s number rule)) ∙ by_tests (is_client s.connections number) (list_any (is_rule_of number rule) s.rules) e
  where
    by_tests : (client there : Bool) → (if not client then Gone else if there then Done else RuleNotFound) ≡ Done →
        (if not client then unchanged s Gone else if there then announced (record s { rules = without_first (is_rule_of number rule) s.rules }) Done [] else unchanged s RuleNotFound).0
        ≡ record s { rules = without_first (is_rule_of number rule) s.rules }
    by_tests false there k = cc
    by_tests true true k = refl
    by_tests true false k = cc

pub remove_not_made : (s : BusState) (seat number : ℕ) (rule : Rule) → (reply_to_remove s number rule ≡ Done → ⊥) → (step s seat (RemoveMatch number rule)).0 ≡ s
remove_not_made s seat number rule other =
    ap (λ r. r.0) (of_client s number (remove_match s number rule)) ∙ by_tests (is_client s.connections number) (list_any (is_rule_of number rule) s.rules) other
  where
    by_tests : (client there : Bool) → ((if not client then Gone else if there then Done else RuleNotFound) ≡ Done → ⊥) →
        (if not client then unchanged s Gone else if there then announced (record s { rules = without_first (is_rule_of number rule) s.rules }) Done [] else unchanged s RuleNotFound).0 ≡ s
    by_tests false there k = refl
    by_tests true true k = absurd (k refl)
    by_tests true false k = refl
