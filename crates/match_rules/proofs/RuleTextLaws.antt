-- A text has no fault exactly where it is the text of a rule, and of one rule only.
use Rattle.std.proofs.Common.{◌≡◌, ◌⊎◌, inl, inr, ◌<◌, ◌≤◌, true, false, cond, nat_lt, Option, Some, None, List, [], ◌∷◌, ◌++◌, map, length, refl, sym, ap, subst, ◌∙◌, arith}
use Rattle.std.specs.List.{AllByRecursion, flat_map}
use Rattle.std.specs.List.Sorted.{IsPermutation}
use Rattle.std.proofs.lemmas.Bool.{cases_Bool, true≢false, or_from, or_parts, or_left, or_right, eqb-true, le-ltb, ltb-false}
use Rattle.std.proofs.lemmas.List.{length-append}
use Rattle.std.proofs.lemmas.List.Sorted.{IsPermutation-refl, IsPermutation-sym, IsPermutation-map}
use Rattle.names.specs.Texts.{Text}
use Rattle.match_rules.specs.declared.fault.RuleFault.{RuleFault}
use Rattle.match_rules.specs.declared.fault.RuleFault.TheVariants.{TooLong}
use Rattle.match_rules.specs.declared.key.Key.{Key}
use Rattle.match_rules.specs.declared.key.Key.TheVariants.{«Type» as MessageType, Sender, Interface, Member, Path, PathNamespace, Destination, Argument, ArgumentPath, Argument0Namespace, Eavesdrop}
use Rattle.match_rules.specs.declared.room.TheConstants.{MAX_RULE_LENGTH}
use Rattle.match_rules.specs.Keys.{IsKey, key_place, same_key}
use Rattle.match_rules.specs.Rules.{Rule, IsRule, IsEntry, value_at}
use Rattle.match_rules.specs.Reading.{keys_of}
use Rattle.match_rules.specs.RuleTexts.{comma, AreParts, Item, item_text, entry_of, joined, IsRuleText}
use Rattle.match_rules.specs.RuleFaults.{Outside, items_from, item_key, item_value, is_among, is_excluded, items_fault, rule_fault}
use Rattle.match_rules.specs.Laws.{FaultsAreExact, TextsHaveOneRule}
use Rattle.match_rules.proofs.Quotes.{split_items}
use Rattle.match_rules.proofs.KeyTexts.{takes_tested, tested_takes}
use Rattle.match_rules.proofs.KeyLemmas.{key_by_place}
use Rattle.match_rules.proofs.RuleLemmas.{length-item}
use Rattle.match_rules.proofs.RuleOrder.{AreDistinct, all_move, distinct_move, rising_distinct, in_order, in_order_moves, in_order_rises, one_order}
use Rattle.match_rules.proofs.Items.{IsGood, value_of, joined_is_read, item_key_read, item_value_read, AreApart, good_items, texts_read}

abbrev item_keys : List Item → List Key
item_keys items = keys_of (map entry_of items)

-- Keys that stand apart.
abbrev Lacks : Key → List Key → Type 0
Lacks key keys = AllByRecursion (λ k. same_key k key ≡ false) keys

abbrev AreNew : List Key → List Key → Type 0
AreNew before keys = AllByRecursion (λ k. is_among k before ≡ false) keys

abbrev HaveOnePath : List Key → List Key → Type 0
HaveOnePath before keys = ((is_among Path before ≡ false) × Lacks Path keys) ⊎ ((is_among PathNamespace before ≡ false) × Lacks PathNamespace keys)

new_behind : (key : Key) (before keys : List Key) → AllByRecursion (λ k. same_key key k ≡ false) keys → AreNew before keys → AreNew (key ∷ before) keys
new_behind key before [] differ new = tt
new_behind key before (k ∷ keys) differ new = (or_from (same_key key k) (is_among k before) differ.0 new.0, new_behind key before keys differ.1 new.1)

not_excluded : (key : Key) (before keys : List Key) → HaveOnePath before (key ∷ keys) → is_excluded key before ≡ false
not_excluded MessageType before keys h = refl
not_excluded Sender before keys h = refl
not_excluded Interface before keys h = refl
not_excluded Member before keys h = refl
not_excluded Path before keys (inl h) = absurd (true≢false h.1.0)
not_excluded Path before keys (inr h) = h.0
not_excluded PathNamespace before keys (inl h) = h.0
not_excluded PathNamespace before keys (inr h) = absurd (true≢false h.1.0)
not_excluded Destination before keys h = refl
not_excluded (Argument n) before keys h = refl
not_excluded (ArgumentPath n) before keys h = refl
not_excluded Argument0Namespace before keys h = refl
not_excluded Eavesdrop before keys h = refl

one_path_behind : (key : Key) (before keys : List Key) → HaveOnePath before (key ∷ keys) → HaveOnePath (key ∷ before) keys
one_path_behind key before keys (inl h) = inl (or_from (same_key key Path) (is_among Path before) h.1.0 h.0, h.1.1)
one_path_behind key before keys (inr h) = inr (or_from (same_key key PathNamespace) (is_among PathNamespace before) h.1.0 h.0, h.1.1)

to_apart : (before : List Key) (items : List Item) → AreDistinct (item_keys items) → AreNew before (item_keys items) → HaveOnePath before (item_keys items) → AreApart before items
to_apart before [] distinct new path = tt
to_apart before (item ∷ items) distinct new path = (
  new.0,
  not_excluded item.key before (item_keys items) path,
  to_apart (item.key ∷ before) items distinct.1 (new_behind item.key before (item_keys items) distinct.0 new.1) (one_path_behind item.key before (item_keys items) path),
)

from_apart : (before : List Key) (items : List Item) → AreApart before items → AreNew before (item_keys items) × AreDistinct (item_keys items)
from_apart before [] apart = (tt, tt)
from_apart before (item ∷ items) apart =
    let rest = from_apart (item.key ∷ before) items apart.2 in
    let parts = split (item_keys items) rest.0 in
    ((apart.0, parts.1), (parts.0, rest.1))
  where
    split : (keys : List Key) → AreNew (item.key ∷ before) keys → AllByRecursion (λ k. same_key item.key k ≡ false) keys × AreNew before keys
    split [] h = (tt, tt)
    split (k ∷ keys) h =
        let first = or_parts (same_key item.key k) (is_among k before) h.0 in
        let others = split keys h.1 in
        ((first.0, others.0), (first.1, others.1))

-- The keys `path` and `path_namespace` exclude each other.
is_key : (key other : Key) → IsKey key → IsKey other → same_key key other ≡ true → key ≡ other
is_key key other hk ho h = key_by_place key other hk ho (eqb-true (key_place key) (key_place other) h)

path_there : (before : List Key) (items : List Item) → AllByRecursion IsGood items → AreApart before items → is_among Path before ≡ true → Lacks PathNamespace (item_keys items)
path_there before [] good apart there = tt
path_there before (item ∷ items) good apart there = (
  elim (cases_Bool (same_key item.key PathNamespace)) [
    | inl same ↦ absurd (true≢false (sym there ∙ subst (λ k. is_excluded k before ≡ false) (is_key item.key PathNamespace good.0.0 tt same) apart.1))
    | inr other ↦ other
  ],
  path_there (item.key ∷ before) items good.1 apart.2 (or_right (same_key item.key Path) (is_among Path before) there),
)

namespace_there : (before : List Key) (items : List Item) → AllByRecursion IsGood items → AreApart before items → is_among PathNamespace before ≡ true → Lacks Path (item_keys items)
namespace_there before [] good apart there = tt
namespace_there before (item ∷ items) good apart there = (
  elim (cases_Bool (same_key item.key Path)) [
    | inl same ↦ absurd (true≢false (sym there ∙ subst (λ k. is_excluded k before ≡ false) (is_key item.key Path good.0.0 tt same) apart.1))
    | inr other ↦ other
  ],
  namespace_there (item.key ∷ before) items good.1 apart.2 (or_right (same_key item.key PathNamespace) (is_among PathNamespace before) there),
)

one_path : (before : List Key) (items : List Item) → AllByRecursion IsGood items → AreApart before items → Lacks Path (item_keys items) ⊎ Lacks PathNamespace (item_keys items)
one_path before [] good apart = inl tt
one_path before (item ∷ items) good apart =
    elim (cases_Bool (same_key item.key Path)) [
      | inl same ↦
          inr (
            subst (λ k. same_key k PathNamespace ≡ false) (sym (is_key item.key Path good.0.0 tt same)) refl,
            path_there (item.key ∷ before) items good.1 apart.2 (or_left (same_key item.key Path) (is_among Path before) same),
          )
      | inr no_path ↦ elim (cases_Bool (same_key item.key PathNamespace)) [
        | inl same ↦ inl (no_path, namespace_there (item.key ∷ before) items good.1 apart.2 (or_left (same_key item.key PathNamespace) (is_among PathNamespace before) same))
        | inr no_namespace ↦ elim (one_path (item.key ∷ before) items good.1 apart.2) [ inl h ↦ inl (no_path, h) | inr h ↦ inr (no_namespace, h) ]
      ]
    ]

lacks_where_none : (key : Key) (rule : Rule) → value_at key rule ≡ None → Lacks key (keys_of rule)
lacks_where_none key [] h = tt
lacks_where_none key (entry ∷ rule) h =
    elim (cases_Bool (same_key entry.0 key)) [
      | inl same ↦ absurd (some_is_not_none (subst (λ b. cond b (Some entry.1) (value_at key rule) ≡ None) same h))
      | inr other ↦ (other, lacks_where_none key rule (subst (λ b. cond b (Some entry.1) (value_at key rule) ≡ None) other h))
    ]
  where
    some_is_not_none : {x : Text} → Some x ≡ None → ⊥
    some_is_not_none {x} e = cc

none_where_lacks : (key : Key) (rule : Rule) → Lacks key (keys_of rule) → value_at key rule ≡ None
none_where_lacks key [] h = refl
none_where_lacks key (entry ∷ rule) h = rw h.0 (none_where_lacks key rule h.1)

-- The text of a rule has no fault.
good_from_rule : (items : List Item) → AllByRecursion (λ item. AreParts item.parts) items → AllByRecursion IsEntry (map entry_of items) → AllByRecursion IsGood items
good_from_rule [] parts entries = tt
good_from_rule (item ∷ items) parts entries = ((entries.0.0, parts.0, takes_tested item.key (value_of item) entries.0.1), good_from_rule items parts.1 entries.1)

abbrev IsWritten : Text → Rule → List Item → Type 0
IsWritten text rule items = AllByRecursion (λ item. AreParts item.parts) items × IsPermutation (map entry_of items) rule × (text ≡ joined items)

pub written_good : (text : Text) (rule : Rule) (items : List Item) → IsRule rule → IsWritten text rule items → AllByRecursion IsGood items
written_good text rule items h w = good_from_rule items w.0 (all_move IsEntry rule (map entry_of items) (IsPermutation-sym (map entry_of items) rule w.1) h.1)

all_new : (keys : List Key) → AreNew [] keys
all_new [] = tt
all_new (key ∷ keys) = (refl, all_new keys)

pub written_apart : (text : Text) (rule : Rule) (items : List Item) → IsRule rule → IsWritten text rule items → AreApart [] items
written_apart text rule items h w =
    let back : IsPermutation rule (map entry_of items) = IsPermutation-sym (map entry_of items) rule w.1 in
    to_apart [] items (distinct_move rule (map entry_of items) back (rising_distinct rule h.0)) (all_new (item_keys items))
    (elim h.2 [ inl none ↦ inl (refl, moved Path back none) | inr none ↦ inr (refl, moved PathNamespace back none) ])
  where
    moved : (key : Key) → IsPermutation rule (map entry_of items) → value_at key rule ≡ None → Lacks key (item_keys items)
    moved key back none = all_move (λ k. same_key k key ≡ false) (keys_of rule) (item_keys items) (IsPermutation-map (λ e. e.0) rule (map entry_of items) back) (lacks_where_none key rule none)

some_length : (item : Item) (items : List Item) → 0 < length (joined (item ∷ items))
some_length item items = omega (arith, length-append (item_text item) (flat_map (λ i. comma ∷ item_text i) items), length-item item)

fault_from_items : (text : Text) → 0 < length text → length text ≤ MAX_RULE_LENGTH → items_fault [] (items_from Outside text) ≡ None → rule_fault text ≡ None
fault_from_items [] some fits h = absurd (omega (arith, some))
fault_from_items (b ∷ bytes) some fits h = rw (le-ltb MAX_RULE_LENGTH (length (b ∷ bytes)) fits) h

pub text_has_no_fault : (text : Text) (rule : Rule) → IsRuleText text rule → rule_fault text ≡ None
text_has_no_fault text rule h = by h.2.0 (h.2.1, h.2.2, h.2.3)
  where
    by : (items : List Item) → IsWritten text rule items → rule_fault text ≡ None
    by [] w = rw w.2 refl
    by (item ∷ items) w =
        let good : AllByRecursion IsGood (item ∷ items) = written_good text rule (item ∷ items) h.0 w in
        fault_from_items text (subst (λ t. 0 < length t) (sym w.2) (some_length item items)) h.1
        (ap (λ t. items_fault [] (items_from Outside t)) w.2
        ∙ ap (λ texts. items_fault [] texts) (joined_is_read item items good)
        ∙ good_items [] (item ∷ items) good (written_apart text rule (item ∷ items) h.0 w))

-- A text without a fault is the text of a rule.
entries_from_good : (items : List Item) → AllByRecursion IsGood items → AllByRecursion IsEntry (map entry_of items)
entries_from_good [] good = tt
entries_from_good (item ∷ items) good = ((good.0.0, tested_takes item.key (value_of item) good.0.2), entries_from_good items good.1)

parts_from_good : (items : List Item) → AllByRecursion IsGood items → AllByRecursion (λ item. AreParts item.parts) items
parts_from_good [] good = tt
parts_from_good (item ∷ items) good = (good.0.1, parts_from_good items good.1)

rule_from_items : (items : List Item) → AllByRecursion IsGood items → AreApart [] items → IsRule (in_order (map entry_of items))
rule_from_items items good apart =
    let moves : IsPermutation (map entry_of items) (in_order (map entry_of items)) = in_order_moves (map entry_of items) in (
      in_order_rises (map entry_of items) (from_apart [] items apart).1,
      all_move IsEntry (map entry_of items) (in_order (map entry_of items)) moves (entries_from_good items good),
      elim (one_path [] items good apart) [ inl h ↦ inl (moved Path moves h) | inr h ↦ inr (moved PathNamespace moves h) ],
    )
  where
    moved : (key : Key) → IsPermutation (map entry_of items) (in_order (map entry_of items)) → Lacks key (item_keys items) → value_at key (in_order (map entry_of items)) ≡ None
    moved key moves lacks =
        none_where_lacks key (in_order (map entry_of items))
        (all_move (λ k. same_key k key ≡ false) (item_keys items) (keys_of (in_order (map entry_of items)))
        (IsPermutation-map (λ e. e.0) (map entry_of items) (in_order (map entry_of items)) moves) lacks)

commas_before : (items : List Item) → flat_map (λ text. comma ∷ text) (map item_text items) ≡ flat_map (λ item. comma ∷ item_text item) items
commas_before [] = refl
commas_before (item ∷ items) = ap (λ rest. (comma ∷ item_text item) ++ rest) (commas_before items)

joined_texts : (first : Text) (others : List Text) (items : List Item) → first ∷ others ≡ map item_text items → first ++ flat_map (λ text. comma ∷ text) others ≡ joined items
joined_texts first others [] h = absurd cc
joined_texts first others (item ∷ items) h =
    let heads : first ≡ item_text item = cc in
    let tails : others ≡ map item_text items = cc in
    ap (λ t. t ++ flat_map (λ text. comma ∷ text) others) heads ∙ ap (λ ts. item_text item ++ flat_map (λ text. comma ∷ text) ts) tails
    ∙ ap (λ rest. item_text item ++ rest) (commas_before items)

within_limit : (text : Text) (later : Option RuleFault) → cond (nat_lt MAX_RULE_LENGTH (length text)) (Some TooLong) later ≡ None → (length text ≤ MAX_RULE_LENGTH) × (later ≡ None)
within_limit text later h =
    elim (cases_Bool (nat_lt MAX_RULE_LENGTH (length text))) [
      | inl long ↦ absurd (some_is_not_none (subst (λ b. cond b (Some TooLong) later ≡ None) long h))
      | inr fits ↦ (ltb-false MAX_RULE_LENGTH (length text) fits, subst (λ b. cond b (Some TooLong) later ≡ None) fits h)
    ]
  where
    some_is_not_none : Some TooLong ≡ None → ⊥
    some_is_not_none e = cc

pub no_fault_is_text : (text : Text) → rule_fault text ≡ None → (rule : Rule) × IsRuleText text rule
no_fault_is_text [] h = ([], ((tt, tt, inl refl), omega arith, ([], tt, IsPermutation-refl [], refl)))
no_fault_is_text (b ∷ bytes) h =
    let limits = within_limit (b ∷ bytes) (items_fault [] (items_from Outside (b ∷ bytes))) h in
    let s = split_items Outside (b ∷ bytes) in
    let items = texts_read [] (s.0 ∷ s.1) (s.3, s.4) (subst (λ texts. items_fault [] texts ≡ None) s.2 limits.1) in (
      in_order (map entry_of items.0),
      (
        rule_from_items items.0 items.2 items.3,
        limits.0,
        (items.0, parts_from_good items.0 items.2, in_order_moves (map entry_of items.0), s.5 ∙ joined_texts s.0 s.1 items.0 items.1),
      ),
    )

pub faults_are_exact : FaultsAreExact
faults_are_exact text = (λ h. no_fault_is_text text h, λ h. text_has_no_fault text h.0 h.1)

-- One text, one rule.
same_entries_read : (xs ys : List Item) → AllByRecursion IsGood xs → AllByRecursion IsGood ys → map item_text xs ≡ map item_text ys → map entry_of xs ≡ map entry_of ys
same_entries_read [] [] gx gy h = refl
same_entries_read [] (y ∷ ys) gx gy h = absurd cc
same_entries_read (x ∷ xs) [] gx gy h = absurd cc
same_entries_read (x ∷ xs) (y ∷ ys) gx gy h =
    let heads : item_text x ≡ item_text y = cc in
    let tails : map item_text xs ≡ map item_text ys = cc in
    let keys : x.key ≡ y.key = some_same (sym (item_key_read x gx.0.0) ∙ ap (λ t. item_key t) heads ∙ item_key_read y gy.0.0) in
    let values : value_of x ≡ value_of y = some_same (sym (item_value_read x gx.0.0 gx.0.1) ∙ ap (λ t. item_value t) heads ∙ item_value_read y gy.0.0 gy.0.1) in
    let first : entry_of x ≡ entry_of y = ap (λ k. (k, value_of x)) keys ∙ ap (λ v. (y.key, v)) values in
    ap (λ e. e ∷ map entry_of xs) first ∙ ap (λ es. entry_of y ∷ es) (same_entries_read xs ys gx.1 gy.1 tails)
  where
    some_same : {X : Type 0} {v w : X} → Some v ≡ Some w → v ≡ w
    some_same {X} {v} {w} e = cc

same_texts : (xs ys : List Item) → AllByRecursion IsGood xs → AllByRecursion IsGood ys → joined xs ≡ joined ys → map item_text xs ≡ map item_text ys
same_texts [] [] gx gy h = refl
same_texts [] (y ∷ ys) gx gy h = absurd (omega (arith, some_length y ys, ap (λ t. length t) h))
same_texts (x ∷ xs) [] gx gy h = absurd (omega (arith, some_length x xs, ap (λ t. length t) h))
same_texts (x ∷ xs) (y ∷ ys) gx gy h = sym (joined_is_read x xs gx) ∙ ap (λ t. items_from Outside t) h ∙ joined_is_read y ys gy

pub texts_have_one_rule : TextsHaveOneRule
texts_have_one_rule text a b ha hb =
    let xs : List Item = ha.2.0 in
    let ys : List Item = hb.2.0 in
    let gx : AllByRecursion IsGood xs = written_good text a xs ha.0 (ha.2.1, ha.2.2, ha.2.3) in
    let gy : AllByRecursion IsGood ys = written_good text b ys hb.0 (hb.2.1, hb.2.2, hb.2.3) in
    let entries : map entry_of xs ≡ map entry_of ys = same_entries_read xs ys gx gy (same_texts xs ys gx gy (sym ha.2.3 ∙ hb.2.3)) in
    one_order (map entry_of ys) a b (subst (λ es. IsPermutation es a) entries ha.2.2) hb.2.2 ha.0.0 hb.0.0
