-- The rules of a monitor, as they are read one after the other.
use Rattle.std.proofs.Common.{◌≡◌, inl, inr, ℕ, ◌+◌, ◌<◌, ◌≤◌, Bool, true, false, List, [], ◌∷◌, ◌++◌, length, take, drop, get_or, Option, Some, None, Err, refl, sym, ap, ◌∙◌, subst, append_assoc, arith, append-nil}
use Rattle.std.specs.Prelude.{◌⊎◌, ◌||◌, is_some, option_to_list}
use Rattle.std.proofs.lemmas.List.{take_more, take-append-drop}
use Rattle.std.proofs.lemmas.Bool.{lt-ltb, le-ltb}
use Rattle.std.proofs.lemmas.List.Folds.{list_any-append}
use Rattle.names.specs.Texts.{Text}
use Rattle.marshal_core.specs.declared.value.Value.{Value}
use Rattle.marshal_core.specs.Values.{Vals, val_of, values_of}
use Rattle.match_rules.specs.Rules.{Rule}
use Rattle.match_rules.specs.RuleTexts.{IsRuleText}
use Rattle.match_rules.specs.RuleFaults.{rule_fault}
use Rattle.driver.specs.declared.fault.DriverFault.{DriverFault}
use Rattle.driver.specs.declared.fault.DriverFault.TheVariants.{MatchRuleInvalid, LimitsExceeded, NoMemory}
use Rattle.driver.specs.Arguments.{text_of, texts_of, count_of}
use Rattle.driver.specs.Calls.{AreRuleTexts, has_rule_fault, AreRulesOfTexts, AreRulesUnless, AreMonitorRulesOf, max_monitor_rules, monitor_fault, Reading}

pub texts_behind : (xs ys : List Value) → texts_of (values_of (xs ++ ys)) ≡ texts_of (values_of xs) ++ texts_of (values_of ys)
texts_behind [] ys = refl
texts_behind (x ∷ xs) ys =
    ap (λ (l : List Text). option_to_list (text_of (val_of x)) ++ l) (texts_behind xs ys)
    ∙ sym (append_assoc (option_to_list (text_of (val_of x))) (texts_of (values_of xs)) (texts_of (values_of ys)))

pub texts_of_one : (x : Value) → texts_of (values_of (x ∷ [])) ≡ option_to_list (text_of (val_of x))
texts_of_one x = append-nil (option_to_list (text_of (val_of x)))

pub texts_more : (xs : List Value) (i : ℕ) (x : Value) → i < length xs → x ≡ get_or xs i x →
    texts_of (values_of (take (i + 1) xs)) ≡ texts_of (values_of (take i xs)) ++ option_to_list (text_of (val_of x))
texts_more xs i x within is =
    ap (λ (l : List Value). texts_of (values_of l)) (take_more xs i x within) ∙ texts_behind (take i xs) (get_or xs i x ∷ [])
    ∙ ap (λ (y : Value). texts_of (values_of (take i xs)) ++ texts_of (values_of (y ∷ []))) (sym is)
    ∙ ap (λ (l : List Text). texts_of (values_of (take i xs)) ++ l) (texts_of_one x)

pub rules_more : (ts : List Text) (rs : List Rule) (t : Text) (r : Rule) → AreRuleTexts ts rs → IsRuleText t r → AreRuleTexts (ts ++ t ∷ []) (rs ++ r ∷ [])
rules_more [] [] t r h is = (is, tt)
rules_more [] (s ∷ rs) t r h is = absurd h
rules_more (u ∷ ts) [] t r h is = absurd h
rules_more (u ∷ ts) (s ∷ rs) t r h is = (h.0, rules_more ts rs t r h.1 is)

-- one rule more
pub reads_rule : (xs : List Value) (i : ℕ) (x : Value) (text : Text) (rules after : List Rule) (rule : Rule) → i < length xs → x ≡ get_or xs i x → option_to_list (text_of (val_of x)) ≡ text ∷ []
    → IsRuleText text rule → AreRuleTexts (texts_of (values_of (take i xs))) rules → after ≡ rules ++ rule ∷ [] → AreRuleTexts (texts_of (values_of (take (i + 1) xs))) after
reads_rule xs i x text rules after rule within is here reads h grown =
    rw grown (subst (λ (ts : List Text). AreRuleTexts ts (rules ++ rule ∷ [])) (sym (texts_more xs i x within is ∙ ap (λ (l : List Text). texts_of (values_of (take i xs)) ++ l) here))
    (rules_more (texts_of (values_of (take i xs))) rules text rule h reads))

pub reads_none : (xs : List Value) (i : ℕ) (x : Value) (rules : List Rule) → i < length xs → x ≡ get_or xs i x → option_to_list (text_of (val_of x)) ≡ []
    → AreRuleTexts (texts_of (values_of (take i xs))) rules → AreRuleTexts (texts_of (values_of (take (i + 1) xs))) rules
reads_none xs i x rules within is here h =
    subst (λ (ts : List Text). AreRuleTexts ts rules) (sym (texts_more xs i x within is ∙ ap (λ (l : List Text). texts_of (values_of (take i xs)) ++ l) here ∙ append-nil _)) h

or_true : (a b : Bool) → a ≡ true → (a || b) ≡ true
or_true true b e = refl
or_true false b e = cc

or_true_right : (a b : Bool) → b ≡ true → (a || b) ≡ true
or_true_right true b e = refl
or_true_right false b e = e

fault_among : (before : List Text) (text : Text) → is_some (rule_fault text) ≡ true → has_rule_fault (before ++ text ∷ []) ≡ true
fault_among before text h =
    list_any-append (λ t. is_some (rule_fault t)) before (text ∷ []) ∙ or_true_right (has_rule_fault before) (is_some (rule_fault text) || false) (or_true (is_some (rule_fault text)) false h)

fault_before : (front back : List Text) → has_rule_fault front ≡ true → has_rule_fault (front ++ back) ≡ true
fault_before front back h = list_any-append (λ t. is_some (rule_fault t)) front back ∙ or_true (has_rule_fault front) (has_rule_fault back) h

-- a text that is none of a rule
pub meets_fault : (xs : List Value) (i : ℕ) (x : Value) (text : Text) (fault : DriverFault) → i < length xs → x ≡ get_or xs i x → option_to_list (text_of (val_of x)) ≡ text ∷ []
    → (is_some (rule_fault text) ≡ true) × (fault ≡ MatchRuleInvalid) → AreRulesOfTexts (texts_of (values_of xs)) (Err fault)
meets_fault xs i x text fault within is here (some, invalid) =
    let front : List Text = texts_of (values_of (take i xs)) in
    let found : has_rule_fault (texts_of (values_of (take (i + 1) xs))) ≡ true =
    ap has_rule_fault (texts_more xs i x within is ∙ ap (λ (l : List Text). front ++ l) here) ∙ fault_among front text some in
    let whole : texts_of (values_of xs) ≡ texts_of (values_of (take (i + 1) xs)) ++ texts_of (values_of (drop (i + 1) xs)) =
    ap (λ (l : List Value). texts_of (values_of l)) (sym (take-append-drop (i + 1) xs)) ∙ texts_behind (take (i + 1) xs) (drop (i + 1) xs) in
    (ap has_rule_fault whole ∙ fault_before (texts_of (values_of (take (i + 1) xs))) (texts_of (values_of (drop (i + 1) xs))) found, invalid)

pub all_counted : (xs : List Value) → count_of (values_of xs) ≡ length xs
all_counted [] = refl
all_counted (x ∷ xs) = omega (arith, all_counted xs)

-- more elements than a monitor has rules
pub too_many : (xs : List Value) (flags : ℕ) → flags ≡ 0 → max_monitor_rules < length xs → monitor_fault (values_of xs) flags ≡ Some LimitsExceeded
too_many xs flags none many = rw (none, all_counted xs, lt-ltb max_monitor_rules (length xs) many) refl

pub few_enough : (xs : List Value) (flags : ℕ) → flags ≡ 0 → length xs ≤ max_monitor_rules → monitor_fault (values_of xs) flags ≡ None
few_enough xs flags none few = rw (none, all_counted xs, le-ltb max_monitor_rules (length xs) few) refl

pub refused_by : (arguments : Option (Vals × ℕ)) (elements : Vals) (flags : ℕ) (fault : DriverFault) → Some (elements, flags) ≡ arguments → monitor_fault elements flags ≡ Some fault → AreMonitorRulesOf arguments (Err fault)
refused_by arguments elements flags fault e is =
    subst (λ (a : Option (Vals × ℕ)). AreMonitorRulesOf a (Err fault)) e (subst (λ (f : Option DriverFault). AreRulesUnless f (texts_of elements) (Err fault)) (sym is) refl)

pub allowed_by : (arguments : Option (Vals × ℕ)) (elements : Vals) (flags : ℕ) (result : Reading (List Rule)) → Some (elements, flags) ≡ arguments → monitor_fault elements flags ≡ None
    → AreRulesOfTexts (texts_of elements) result → AreMonitorRulesOf arguments result
allowed_by arguments elements flags result e is h =
    subst (λ (a : Option (Vals × ℕ)). AreMonitorRulesOf a result) e (subst (λ (f : Option DriverFault). AreRulesUnless f (texts_of elements) result) (sym is) h)

pub allowed_or : (arguments : Option (Vals × ℕ)) (elements : Vals) (flags : ℕ) (result : Reading (List Rule)) → Some (elements, flags) ≡ arguments → monitor_fault elements flags ≡ None
    → AreRulesOfTexts (texts_of elements) result ⊎ (result ≡ Err NoMemory) → AreMonitorRulesOf arguments result ⊎ (result ≡ Err NoMemory)
allowed_or arguments elements flags result e is (inl h) = inl (allowed_by arguments elements flags result e is h)
allowed_or arguments elements flags result e is (inr h) = inr h
