-- The reading of a text, item by item.
use Rattle.std.proofs.Common.{◌≡◌, inl, inr, ℕ, suc, option_to_list, ◌+◌, ◌<◌, ◌≤◌, Bool, true, false, ◌||◌, cond, Option, Some, None, List, [], ◌∷◌, ◌++◌, map, length, take, drop, refl, sym, ap, subst, ◌∙◌, arith, append-nil}
use Rattle.std.specs.List.{AllByRecursion}
use Rattle.std.specs.List.Sorted.{IsPermutation}
use Rattle.std.specs.Option.{option_or}
use Rattle.std.proofs.lemmas.Bool.{cases_Bool, cases_lt, le-ltb, lt-ltb}
use Rattle.std.proofs.lemmas.List.Sorted.{IsPermutation-refl, IsPermutation-trans, IsPermutation-cons, IsPermutation-append_comm, IsPermutation-append_right}
use Rattle.std.proofs.Math.Seq.{take-length}
use Rattle.names.specs.Texts.{Text}
use Rattle.match_rules.specs.declared.fault.RuleFault.{RuleFault}
use Rattle.match_rules.specs.declared.fault.RuleFault.TheVariants.{Twice, Both, Quote, TooLong}
use Rattle.match_rules.specs.declared.key.Key.{Key}
use Rattle.match_rules.specs.declared.key.Key.TheVariants.{«Type» as MessageType, Sender, Interface, Member, Path, PathNamespace, Destination, Argument, ArgumentPath, Argument0Namespace, Eavesdrop}
use Rattle.match_rules.specs.declared.room.TheConstants.{MAX_RULE_LENGTH}
use Rattle.match_rules.specs.Keys.{same_key}
use Rattle.match_rules.specs.Rules.{Rule, IsRising}
use Rattle.match_rules.specs.RuleTexts.{AreParts, Item, item_text, entry_of, joined, IsRuleText}
use Rattle.match_rules.specs.RuleFaults.{Quoting, Outside, next, ends_item, items_from, item_key, item_value, is_among, is_excluded, value_fault, item_fault, items_fault, rule_fault}
use Rattle.match_rules.specs.Reading.{item_length, keys_of, put, with_entry, with_item, with_items}
use Rattle.match_rules.proofs.RuleOrder.{put_moves, put_rises, one_order}
use Rattle.match_rules.proofs.Items.{IsGood, AreApart, joined_is_read, item_key_read, item_value_read}
use Rattle.match_rules.proofs.Putting.{among-put, new_differs}
use Rattle.match_rules.proofs.RuleTextLaws.{no_fault_is_text, written_good, written_apart}

-- The first item of a text, and what stands behind it.
pub item_length-within : (q : Quoting) (text : Text) → item_length q text ≤ length text
item_length-within q [] = omega arith
item_length-within q (b ∷ text) =
    let rest = item_length-within (next q b) text in
    elim (cases_Bool (ends_item q b)) [ inl ends ↦ rw ends (omega arith) | inr goes ↦ rw goes (omega (arith, rest)) ]

pub items_last : (q : Quoting) (text : Text) → item_length q text ≡ length text → items_from q text ≡ text ∷ []
items_last q [] h = refl
items_last q (b ∷ text) h =
    elim (cases_Bool (ends_item q b)) [
      | inl ends ↦ let e : 0 ≡ length (b ∷ text) = subst (λ t. cond t 0 (1 + item_length (next q b) text) ≡ length (b ∷ text)) ends h in absurd (omega (arith, e))
      | inr goes ↦
          let e : 1 + item_length (next q b) text ≡ length (b ∷ text) = subst (λ t. cond t 0 (1 + item_length (next q b) text) ≡ length (b ∷ text)) goes h in
          rw (goes, items_last (next q b) text (omega (arith, e))) refl
    ]

pub items_more : (q : Quoting) (text : Text) (n : ℕ) → n ≡ item_length q text → n < length text → items_from q text ≡ take n text ∷ items_from Outside (drop (n + 1) text)
items_more q [] n e h = absurd (omega (arith, h))
items_more q (b ∷ text) n e h =
    elim (cases_Bool (ends_item q b)) [
      | inl ends ↦ let none : n ≡ 0 = e ∙ rw ends refl in rw (ends, none) refl
      | inr goes ↦
          let some : n ≡ suc (item_length (next q b) text) = e ∙ rw goes (omega arith) in
          let rest = items_more (next q b) text (item_length (next q b) text) refl (omega (arith, h, some)) in
          let more : suc (item_length (next q b) text) + 1 ≡ suc (item_length (next q b) text + 1) = omega arith in
          rw (goes, some, rest, more) refl
    ]

-- The fault of what is left depends on what keys there are, and not on their order.
excluded-same : (key : Key) (before after : List Key) → ((k : Key) → is_among k before ≡ is_among k after) → is_excluded key before ≡ is_excluded key after
excluded-same MessageType before after same = refl
excluded-same Sender before after same = refl
excluded-same Interface before after same = refl
excluded-same Member before after same = refl
excluded-same Path before after same = same PathNamespace
excluded-same PathNamespace before after same = same Path
excluded-same Destination before after same = refl
excluded-same (Argument n) before after same = refl
excluded-same (ArgumentPath n) before after same = refl
excluded-same Argument0Namespace before after same = refl
excluded-same Eavesdrop before after same = refl

items_fault-same : (before after : List Key) (items : List Text) → ((k : Key) → is_among k before ≡ is_among k after) → items_fault before items ≡ items_fault after items
items_fault-same before after [] same = refl
items_fault-same before after (item ∷ items) same = by (λ key. items_fault-same (key ∷ before) (key ∷ after) items (λ k. ap (λ b. same_key key k || b) (same k))) (item_key item)
  where
    by :
        ((key : Key) → items_fault (key ∷ before) items ≡ items_fault (key ∷ after) items) → (o : Option Key) →
        option_or (item_fault before item o) (items_fault (option_to_list o ++ before) items) ≡ option_or (item_fault after item o) (items_fault (option_to_list o ++ after) items)
    by later None = refl
    by later (Some key) = rw (same key, excluded-same key before after same, later key) refl

none_or : (fault : Option RuleFault) (later : Option RuleFault) → fault ≡ None → option_or fault later ≡ later
none_or fault later h = rw h refl

pub fault_here : (before : List Key) (item : Text) (items : List Text) (fault : RuleFault) → item_fault before item (item_key item) ≡ Some fault → items_fault before (item ∷ items) ≡ Some fault
fault_here before item items fault h = rw h refl

pub fault_later :
    (rule : Rule) (item : Text) (items : List Text) → item_fault (keys_of rule) item (item_key item) ≡ None → items_fault (keys_of rule) (item ∷ items) ≡ items_fault (keys_of (with_item rule item)) items
fault_later rule item items h =
    none_or (item_fault (keys_of rule) item (item_key item)) (items_fault (option_to_list (item_key item) ++ keys_of rule) items) h ∙ by (item_key item) (item_value item) refl h
  where
    by :
        (o : Option Key) (v : Option Text) → item_value item ≡ v → item_fault (keys_of rule) item o ≡ None →
        items_fault (option_to_list o ++ keys_of rule) items ≡ items_fault (keys_of (with_entry rule o v)) items
    by None v e none = refl
    by (Some key) None e none = absurd (quoted (is_among key (keys_of rule)) (is_excluded key (keys_of rule)) (subst (λ w. cond (is_among key (keys_of rule)) (Some Twice) (cond (is_excluded key (keys_of rule)) (Some Both) (value_fault key w)) ≡ None) e none))
      where
        quoted : (a b : Bool) → cond a (Some Twice) (cond b (Some Both) (Some Quote)) ≡ None → ⊥
        quoted true b h = cc
        quoted false true h = cc
        quoted false false h = cc
    by (Some key) (Some value) e none = items_fault-same (key ∷ keys_of rule) (keys_of (put (key, value) rule)) items (λ k. sym (among-put k (key, value) rule))

-- The entries of a text without a fault, one after the other.
moves_and_rises :
    (before : List Key) (rule : Rule) (items : List Item) → AllByRecursion IsGood items → AreApart before items → ((k : Key) → is_among k before ≡ is_among k (keys_of rule)) → IsRising rule →
    IsRising (with_items rule (map item_text items)) × IsPermutation (map entry_of items ++ rule) (with_items rule (map item_text items))
moves_and_rises before rule [] good apart same rising = (rising, IsPermutation-refl rule)
moves_and_rises before rule (item ∷ items) good apart same rising =
    let here : with_item rule (item_text item) ≡ put (entry_of item) rule = rw (item_key_read item good.0.0, item_value_read item good.0.0 good.0.1) refl in
    let new = new_differs item.key (keys_of rule) (sym (same item.key) ∙ apart.0) in
    let rest = moves_and_rises (item.key ∷ before) (put (entry_of item) rule) items good.1 apart.2 (λ k. ap (λ b. same_key item.key k || b) (same k) ∙ sym (among-put k (entry_of item) rule)) (put_rises (entry_of item) rule rising new) in
    let all = map entry_of items in
    let moved : IsPermutation (entry_of item ∷ all ++ rule) (all ++ put (entry_of item) rule) =
    IsPermutation-trans _ _ _ (IsPermutation-append_comm (entry_of item ∷ all) rule)
    (IsPermutation-trans _ _ _ (IsPermutation-append_comm rule (entry_of item ∷ all))
    (IsPermutation-trans _ _ _ (IsPermutation-cons (entry_of item) (all ++ rule) (rule ++ all) (IsPermutation-append_comm all rule))
    (IsPermutation-trans _ _ _ (IsPermutation-append_comm (entry_of item ∷ rule) all) (IsPermutation-append_right all (entry_of item ∷ rule) (put (entry_of item) rule) (put_moves (entry_of item) rule)))))
    in
    subst (λ r. IsRising (with_items r (map item_text items)) × IsPermutation (entry_of item ∷ all ++ rule) (with_items r (map item_text items))) (sym here)
    (rest.0, IsPermutation-trans _ _ _ moved rest.1)

pub whole_fault : (text : Text) → 0 < length text → length text ≤ MAX_RULE_LENGTH → rule_fault text ≡ items_fault [] (items_from Outside text)
whole_fault [] some fits = absurd (omega (arith, some))
whole_fault (b ∷ bytes) some fits = rw (le-ltb MAX_RULE_LENGTH (length (b ∷ bytes)) fits) refl

pub long_fault : (text : Text) → MAX_RULE_LENGTH < length text → rule_fault text ≡ Some TooLong
long_fault [] long = absurd (omega (arith, long))
long_fault (b ∷ bytes) long = rw (lt-ltb MAX_RULE_LENGTH (length (b ∷ bytes)) long) refl

pub read_is_text : (text : Text) → 0 < length text → length text ≤ MAX_RULE_LENGTH → items_fault [] (items_from Outside text) ≡ None → IsRuleText text (with_items [] (items_from Outside text))
read_is_text text some fits h =
    let found = no_fault_is_text text (whole_fault text some fits ∙ h) in
    by found.0 found.1 found.1.2.0 (found.1.2.1, found.1.2.2, found.1.2.3)
  where
    by :
        (rule : Rule) → IsRuleText text rule → (items : List Item) → AllByRecursion (λ item. AreParts item.parts) items × IsPermutation (map entry_of items) rule × (text ≡ joined items) →
        IsRuleText text (with_items [] (items_from Outside text))
    by rule is [] w = let e = ap (λ t. length t) w.2 in absurd (omega (arith, some, e))
    by rule is (item ∷ items) w =
        let good : AllByRecursion IsGood (item ∷ items) = written_good text rule (item ∷ items) is.0 w in
        let apart : AreApart [] (item ∷ items) = written_apart text rule (item ∷ items) is.0 w in
        let texts : items_from Outside text ≡ map item_text (item ∷ items) = ap (λ t. items_from Outside t) w.2 ∙ joined_is_read item items good in
        let read = moves_and_rises [] [] (item ∷ items) good apart (λ k. refl) tt in
        let moves : IsPermutation (map entry_of (item ∷ items)) (with_items [] (map item_text (item ∷ items))) = subst (λ es. IsPermutation es (with_items [] (map item_text (item ∷ items)))) (append-nil (map entry_of (item ∷ items))) read.1 in
        let one : with_items [] (map item_text (item ∷ items)) ≡ rule = one_order (map entry_of (item ∷ items)) (with_items [] (map item_text (item ∷ items))) rule moves w.1 read.0 is.0.0 in
        subst (λ r. IsRuleText text r) (sym (ap (λ ts. with_items [] ts) texts ∙ one)) is

take_all : (text : Text) (n : ℕ) → n ≡ length text → take n text ≡ text
take_all text n e = ap (λ k. take k text) e ∙ take-length text

items_first : (text : Text) (n : ℕ) → n ≡ item_length Outside text → (more : List Text) × (items_from Outside text ≡ take n text ∷ more)
items_first text n e =
    elim (cases_lt n (length text)) [
      | inl less ↦ (items_from Outside (drop (n + 1) text), items_more Outside text n e less)
      | inr past ↦
          let all : n ≡ length text = omega (arith, past, e, item_length-within Outside text) in
          ([], items_last Outside text (sym e ∙ all) ∙ ap (λ t. t ∷ []) (sym (take_all text n all)))
    ]

-- What the reading keeps true from one item to the next.
pub record IsReadTo (text rest : Text) (rule : Rule) : Type 0 where
  pub fault : items_fault (keys_of rule) (items_from Outside rest) ≡ items_fault [] (items_from Outside text)
  pub read : with_items rule (items_from Outside rest) ≡ with_items [] (items_from Outside text)

pub reads_fault :
    (text rest : Text) (rule : Rule) (n : ℕ) (fault : RuleFault) → 0 < length text → length text ≤ MAX_RULE_LENGTH → IsReadTo text rest rule → n ≡ item_length Outside rest →
    item_fault (keys_of rule) (take n rest) (item_key (take n rest)) ≡ Some fault → rule_fault text ≡ Some fault
reads_fault text rest rule n fault some fits h e here =
    let first = items_first rest n e in
    whole_fault text some fits ∙ sym h.fault ∙ ap (λ items. items_fault (keys_of rule) items) first.1 ∙ fault_here (keys_of rule) (take n rest) first.0 fault here

pub reads_last :
    (text rest : Text) (rule new : Rule) (n : ℕ) → 0 < length text → length text ≤ MAX_RULE_LENGTH → IsReadTo text rest rule → n ≡ item_length Outside rest → n ≡ length rest →
    item_fault (keys_of rule) (take n rest) (item_key (take n rest)) ≡ None → new ≡ with_item rule (take n rest) → IsRuleText text new
reads_last text rest rule new n some fits h e all good is =
    let items : items_from Outside rest ≡ take n rest ∷ [] = items_last Outside rest (sym e ∙ all) ∙ ap (λ t. t ∷ []) (sym (take_all rest n all)) in
    let none : items_fault [] (items_from Outside text) ≡ None = sym h.fault ∙ ap (λ xs. items_fault (keys_of rule) xs) items ∙ fault_later rule (take n rest) [] good in
    let one : new ≡ with_items [] (items_from Outside text) = is ∙ sym (ap (λ xs. with_items rule xs) items) ∙ h.read in
    subst (λ r. IsRuleText text r) (sym one) (read_is_text text some fits none)

pub reads_on :
    (text rest : Text) (rule new : Rule) (n : ℕ) → IsReadTo text rest rule → n ≡ item_length Outside rest → n < length rest →
    item_fault (keys_of rule) (take n rest) (item_key (take n rest)) ≡ None → new ≡ with_item rule (take n rest) → IsReadTo text (drop (n + 1) rest) new
reads_on text rest rule new n h e less good is =
    let items = items_more Outside rest n e less in record {
      fault =
          ap (λ r. items_fault (keys_of r) (items_from Outside (drop (n + 1) rest))) is
          ∙ sym (fault_later rule (take n rest) (items_from Outside (drop (n + 1) rest)) good)
          ∙ sym (ap (λ xs. items_fault (keys_of rule) xs) items) ∙ h.fault;
      read = ap (λ r. with_items r (items_from Outside (drop (n + 1) rest))) is ∙ sym (ap (λ xs. with_items rule xs) items) ∙ h.read;
    }
