-- Calls to the bus are read in one way.
use Rattle.std.proofs.Common.{◌≡◌, ℕ, Bool, true, false, Option, Some, None, Ok, Err, List, [], ◌∷◌, refl, sym, ap, ◌∙◌}
use Rattle.std.specs.Prelude.{is_some}
use Rattle.names.specs.Texts.{Text}
use Rattle.marshal_core.specs.Values.{Vals}
use Rattle.match_rules.specs.declared.fault.RuleFault.{RuleFault}
use Rattle.match_rules.specs.Rules.{Rule}
use Rattle.match_rules.specs.RuleFaults.{rule_fault}
use Rattle.match_rules.proofs.RuleTextLaws.{text_has_no_fault, no_fault_is_text, texts_have_one_rule}
use Rattle.driver.specs.declared.call.Call.{Call}
use Rattle.driver.specs.declared.call.Call.TheVariants as call
use Rattle.driver.specs.declared.fault.DriverFault.{DriverFault}
use Rattle.driver.specs.declared.fault.DriverFault.TheVariants.{InvalidArgs, MatchRuleInvalid}
use Rattle.driver.specs.declared.method.Method.{Method}
use Rattle.driver.specs.declared.method.Method.TheVariants.{Hello, RequestName, ReleaseName, GetNameOwner, NameHasOwner, ListNames, ListActivatableNames, ListQueuedOwners, AddMatch, RemoveMatch, StartServiceByName, BecomeMonitor}
use Rattle.driver.specs.Arguments.{only_text, elements_and_number, texts_of}
use Rattle.driver.specs.Methods.{method_of}
use Rattle.driver.specs.Calls.{Reading, IsRuleOf, AreRuleTexts, has_rule_fault, AreRulesOfTexts, monitor_fault, AreRulesUnless, AreMonitorRulesOf, calling, IsOfRule, IsOfMonitor, IsReadBy, IsReadAs}
use Rattle.router_core.specs.Readings.{CallsAreOne, CallsAreRead}

-- ## One reading

no_fault : (o : Option RuleFault) → o ≡ None → is_some o ≡ true → ⊥
no_fault None e so = cc
no_fault (Some f) e so = cc

true_false : (b : Bool) → b ≡ true → b ≡ false → ⊥
true_false b h k = let e : true ≡ false = sym h ∙ k in cc

one_rule : (text : Option Text) (reading other : Reading Rule) → IsRuleOf text reading → IsRuleOf text other → reading ≡ other
one_rule None reading other h k = h ∙ sym k
one_rule (Some text) (Ok a) (Ok b) h k = ap (λ (rule : Rule). Ok rule) (texts_have_one_rule text a b h k)
one_rule (Some text) (Ok a) (Err f) h k = absurd (no_fault (rule_fault text) (text_has_no_fault text a h) k.0)
one_rule (Some text) (Err f) (Ok b) h k = absurd (no_fault (rule_fault text) (text_has_no_fault text b k) h.0)
one_rule (Some text) (Err f) (Err g) h k = ap (λ (x : DriverFault). Err x) (h.1 ∙ sym k.1)

one_list : (texts : List Text) (rules others : List Rule) → AreRuleTexts texts rules → AreRuleTexts texts others → rules ≡ others
one_list [] [] [] h k = refl
one_list (text ∷ texts) (rule ∷ rules) (other ∷ others) h k =
    ap (λ (r : Rule). r ∷ rules) (texts_have_one_rule text rule other h.0 k.0) ∙ ap (λ (rs : List Rule). other ∷ rs) (one_list texts rules others h.1 k.1)
one_list [] [] (other ∷ others) h k = absurd k
one_list [] (rule ∷ rules) others h k = absurd h
one_list (text ∷ texts) [] others h k = absurd h
one_list (text ∷ texts) (rule ∷ rules) [] h k = absurd k

-- texts of rules have no fault
no_faults : (texts : List Text) (rules : List Rule) → AreRuleTexts texts rules → has_rule_fault texts ≡ false
no_faults [] [] h = refl
no_faults (text ∷ texts) (rule ∷ rules) h = rw (text_has_no_fault text rule h.0) (no_faults texts rules h.1)
no_faults [] (rule ∷ rules) h = absurd h
no_faults (text ∷ texts) [] h = absurd h

one_of_texts : (texts : List Text) (reading other : Reading (List Rule)) → AreRulesOfTexts texts reading → AreRulesOfTexts texts other → reading ≡ other
one_of_texts texts (Ok a) (Ok b) h k = ap (λ (rules : List Rule). Ok rules) (one_list texts a b h k)
one_of_texts texts (Ok a) (Err f) h k = absurd (true_false (has_rule_fault texts) k.0 (no_faults texts a h))
one_of_texts texts (Err f) (Ok b) h k = absurd (true_false (has_rule_fault texts) h.0 (no_faults texts b k))
one_of_texts texts (Err f) (Err g) h k = ap (λ (x : DriverFault). Err x) (h.1 ∙ sym k.1)

one_unless : (fault : Option DriverFault) (texts : List Text) (reading other : Reading (List Rule)) → AreRulesUnless fault texts reading → AreRulesUnless fault texts other → reading ≡ other
one_unless (Some fault) texts reading other h k = h ∙ sym k
one_unless None texts reading other h k = one_of_texts texts reading other h k

one_monitor : (arguments : Option (Vals × ℕ)) (reading other : Reading (List Rule)) → AreMonitorRulesOf arguments reading → AreMonitorRulesOf arguments other → reading ≡ other
one_monitor None reading other h k = h ∙ sym k
one_monitor (Some (elements, flags)) reading other h k = one_unless (monitor_fault elements flags) (texts_of elements) reading other h k

of_rule : (make : Rule → Call) (text : Option Text) (reading other : Reading Call) → IsOfRule make text reading → IsOfRule make text other → reading ≡ other
of_rule make text reading other h k = h.2 ∙ ap (λ (rule : Reading Rule). calling make rule) (one_rule text h.0 k.0 h.1 k.1) ∙ sym k.2

of_monitor : (arguments : Option (Vals × ℕ)) (reading other : Reading Call) → IsOfMonitor arguments reading → IsOfMonitor arguments other → reading ≡ other
of_monitor arguments reading other h k =
    h.2 ∙ ap (λ (rules : Reading (List Rule)). calling call.BecomeMonitor rules) (one_monitor arguments h.0 k.0 h.1 k.1) ∙ sym k.2

one_by : (method : Method) (arguments : Vals) (reading other : Reading Call) → IsReadBy method arguments reading → IsReadBy method arguments other → reading ≡ other
one_by Hello arguments reading other h k = h ∙ sym k
one_by RequestName arguments reading other h k = h ∙ sym k
one_by ReleaseName arguments reading other h k = h ∙ sym k
one_by GetNameOwner arguments reading other h k = h ∙ sym k
one_by NameHasOwner arguments reading other h k = h ∙ sym k
one_by ListNames arguments reading other h k = h ∙ sym k
one_by ListActivatableNames arguments reading other h k = h ∙ sym k
one_by ListQueuedOwners arguments reading other h k = h ∙ sym k
one_by AddMatch arguments reading other h k = of_rule call.AddMatch (only_text arguments) reading other h k
one_by RemoveMatch arguments reading other h k = of_rule call.RemoveMatch (only_text arguments) reading other h k
one_by StartServiceByName arguments reading other h k = h ∙ sym k
one_by BecomeMonitor arguments reading other h k = of_monitor (elements_and_number arguments) reading other h k

one_as : (method : Reading Method) (arguments : Vals) (reading other : Reading Call) → IsReadAs method arguments reading → IsReadAs method arguments other → reading ≡ other
one_as (Err fault) arguments reading other h k = h ∙ sym k
one_as (Ok method) arguments reading other h k = one_by method arguments reading other h k

pub calls_are_one : CallsAreOne
calls_are_one m reading other h k = one_as (method_of m) m.body reading other h k

-- ## There is one

rule_in : (text : Option Text) → (reading : Reading Rule) × IsRuleOf text reading
rule_in None = (Err InvalidArgs, refl)
rule_in (Some text) = by_fault (rule_fault text) refl
  where
    by_fault : (o : Option RuleFault) → rule_fault text ≡ o → (reading : Reading Rule) × IsRuleOf (Some text) reading
    by_fault None none = let found = no_fault_is_text text none in (Ok found.0, found.1)
    by_fault (Some fault) there = (Err MatchRuleInvalid, (ap (λ (o : Option RuleFault). is_some o) there, refl))

rules_in : (texts : List Text) → (reading : Reading (List Rule)) × AreRulesOfTexts texts reading
rules_in [] = (Ok [], tt)
rules_in (text ∷ texts) = by_fault (rule_fault text) refl (rules_in texts)
  where
    by_fault : (o : Option RuleFault) → rule_fault text ≡ o → (reading : Reading (List Rule)) × AreRulesOfTexts texts reading → (reading : Reading (List Rule)) × AreRulesOfTexts (text ∷ texts) reading
    by_fault (Some fault) there others = (Err MatchRuleInvalid, (rw there refl, refl))
    by_fault None none (Ok rules, h) = let found = no_fault_is_text text none in (Ok (found.0 ∷ rules), (found.1, h))
    by_fault None none (Err fault, h) = (Err MatchRuleInvalid, (rw none h.0, refl))

rules_unless : (fault : Option DriverFault) (texts : List Text) → (reading : Reading (List Rule)) × AreRulesUnless fault texts reading
rules_unless (Some fault) texts = (Err fault, refl)
rules_unless None texts = rules_in texts

monitor_in : (arguments : Option (Vals × ℕ)) → (reading : Reading (List Rule)) × AreMonitorRulesOf arguments reading
monitor_in None = (Err InvalidArgs, refl)
monitor_in (Some (elements, flags)) = rules_unless (monitor_fault elements flags) (texts_of elements)

read_by : (method : Method) (arguments : Vals) → (reading : Reading Call) × IsReadBy method arguments reading
read_by Hello arguments = (_, refl)
read_by RequestName arguments = (_, refl)
read_by ReleaseName arguments = (_, refl)
read_by GetNameOwner arguments = (_, refl)
read_by NameHasOwner arguments = (_, refl)
read_by ListNames arguments = (_, refl)
read_by ListActivatableNames arguments = (_, refl)
read_by ListQueuedOwners arguments = (_, refl)
read_by AddMatch arguments = let rule = rule_in (only_text arguments) in (calling call.AddMatch rule.0, (rule.0, rule.1, refl))
read_by RemoveMatch arguments = let rule = rule_in (only_text arguments) in (calling call.RemoveMatch rule.0, (rule.0, rule.1, refl))
read_by StartServiceByName arguments = (_, refl)
read_by BecomeMonitor arguments = let rules = monitor_in (elements_and_number arguments) in (calling call.BecomeMonitor rules.0, (rules.0, rules.1, refl))

read_as : (method : Reading Method) (arguments : Vals) → (reading : Reading Call) × IsReadAs method arguments reading
read_as (Err fault) arguments = (Err fault, refl)
read_as (Ok method) arguments = read_by method arguments

pub calls_are_read : CallsAreRead
calls_are_read m = read_as (method_of m) m.body
