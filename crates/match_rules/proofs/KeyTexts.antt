-- Keys by their texts, and the values that they take.
use Rattle.std.proofs.Common.{◌≡◌, inl, inr, ℕ, zero, suc, ◌+◌, ◌<◌, ◌≤◌, Bool, true, false, ◌||◌, ◌==◌, cond, Option, Some, None, is_none, List, [], ◌∷◌, ◌++◌, map, find, refl, sym, ap, subst, ◌∙◌, arith, codes, decimal, length}
use Rattle.std.specs.List.{AllByRecursion, list_all, range_with_len}
use Rattle.std.specs.Fmt.{digits}
use Rattle.std.proofs.lemmas.Bool.{cases_Bool, true≢false, eqb-true, ne_eqb, cond_both, or_cases, and_from, agree_below_at}
use Rattle.std.proofs.lemmas.List.Folds.{list_all-append}
use Rattle.names.specs.Texts.{Text, text_eq}
use Rattle.names.specs.Elements.{colon, dot, IsElement, is_element_byte, joined}
use Rattle.names.specs.BusName.{IsBusName, bus_name_fault, is_unique}
use Rattle.names.specs.UniqueName.{IsUniqueName, unique_name_fault}
use Rattle.names.specs.WellKnown.{IsWellKnownName, well_known_fault, well_known_style}
use Rattle.names.specs.declared.fault.NameFault.{NameFault}
use Rattle.names.proofs.Faults.{interface_none, none_interface, well_known_none, none_well_known, namespace_none, none_namespace, member_none, none_member, unique_name_none, none_unique_name, object_path_none, none_object_path}
use Rattle.match_rules.specs.declared.kind.MessageKind.{MessageKind}
use Rattle.match_rules.specs.declared.kind.MessageKind.TheVariants.{MethodCall, MethodReturn, Error, Signal, Unknown}
use Rattle.match_rules.specs.declared.key.Key.{Key}
use Rattle.match_rules.specs.declared.key.Key.TheVariants.{«Type» as MessageType, Sender, Interface, Member, Path, PathNamespace, Destination, Argument, ArgumentPath, Argument0Namespace, Eavesdrop}
use Rattle.match_rules.specs.Keys.{IsKey, key_text, key_place, all_keys, max_arguments, Takes}
use Rattle.match_rules.specs.Kinds.{kind_word}
use Rattle.match_rules.specs.RuleFaults.{takes}
use Rattle.match_rules.proofs.KeyLemmas.{key_by_place}
use Rattle.match_rules.proofs.RuleLemmas.{text_eq-true}
use Rattle.match_rules.proofs.Quotes.{is_key_byte}

-- The key that is found by a text.
abbrev pub found : Text → Option Key
found text = find (λ key. text_eq (key_text key) text) all_keys

abbrev pub place_of : Option Key → ℕ
place_of None = 999
place_of (Some key) = key_place key

abbrev pub IsFoundKey : Option Key → Type 0
IsFoundKey None = Unit {0}
IsFoundKey (Some key) = IsKey key

find_is_key : (test : Key → Bool) (keys : List Key) → AllByRecursion IsKey keys → IsFoundKey (find test keys)
find_is_key test [] h = tt
find_is_key test (key ∷ keys) h = cond_both (test key) (Some key) (find test keys) (λ o. IsFoundKey o) (λ _. h.0) (λ _. find_is_key test keys h.1)

find_passes : (test : Key → Bool) (keys : List Key) (key : Key) → find test keys ≡ Some key → test key ≡ true
find_passes test [] key h = absurd cc
find_passes test (k ∷ keys) key h =
    elim (cases_Bool (test k)) [
      | inl yes' ↦ let e : k ≡ key = found_same (subst (λ b. cond b (Some k) (find test keys) ≡ Some key) yes' h) in subst (λ x. test x ≡ true) e yes'
      | inr other ↦ find_passes test keys key (subst (λ b. cond b (Some k) (find test keys) ≡ Some key) other h)
    ]
  where
    found_same : {a b : Key} → Some a ≡ Some b → a ≡ b
    found_same {a} {b} e = cc

each_argument : (first count : ℕ) → first + count ≤ max_arguments → AllByRecursion IsKey (map Argument (range_with_len first count)) × AllByRecursion IsKey (map ArgumentPath (range_with_len first count))
each_argument first zero h = (tt, tt)
each_argument first (suc count) h = let rest = each_argument (first + 1) count (omega (arith, h)) in ((omega (arith, h), rest.0), (omega (arith, h), rest.1))

all_append : (xs ys : List Key) → AllByRecursion IsKey xs → AllByRecursion IsKey ys → AllByRecursion IsKey (xs ++ ys)
all_append [] ys hx hy = hy
all_append (x ∷ xs) ys hx hy = (hx.0, all_append xs ys hx.1 hy)

pub all_are_keys : AllByRecursion IsKey all_keys
all_are_keys =
    let a = each_argument 0 max_arguments (omega arith) in
    all_append (MessageType ∷ Member ∷ Interface ∷ Path ∷ PathNamespace ∷ Sender ∷ Destination ∷ [] ++ map Argument (range_with_len 0 max_arguments) ++ map ArgumentPath (range_with_len 0 max_arguments))
    (Argument0Namespace ∷ Eavesdrop ∷ [])
    (all_append (MessageType ∷ Member ∷ Interface ∷ Path ∷ PathNamespace ∷ Sender ∷ Destination ∷ [] ++ map Argument (range_with_len 0 max_arguments)) (map ArgumentPath (range_with_len 0 max_arguments))
    (all_append (MessageType ∷ Member ∷ Interface ∷ Path ∷ PathNamespace ∷ Sender ∷ Destination ∷ []) (map Argument (range_with_len 0 max_arguments)) (tt, (tt, (tt, (tt, (tt, (tt, (tt, tt))))))) a.0) a.1)
    (tt, (tt, tt))

arguments_found : (n : ℕ) → n < max_arguments → (place_of (found (key_text (Argument n))) == 7 + n) ≡ true
unfolding digits
arguments_found n h = agree_below_at (λ n. place_of (found (key_text (Argument n))) == 7 + n) (λ n. true) max_arguments n refl h

paths_found : (n : ℕ) → n < max_arguments → (place_of (found (key_text (ArgumentPath n))) == 7 + max_arguments + n) ≡ true
unfolding digits
paths_found n h = agree_below_at (λ n. place_of (found (key_text (ArgumentPath n))) == 7 + max_arguments + n) (λ n. true) max_arguments n refl h

pub found_by_place : (o : Option Key) (key : Key) → IsFoundKey o → IsKey key → place_of o ≡ key_place key → key_place key < 999 → o ≡ Some key
found_by_place None key ho hk same small = absurd (omega (arith, same, small))
found_by_place (Some other) key ho hk same small = ap (λ k. Some k) (key_by_place other key ho hk same)

pub small_place : (key : Key) → IsKey key → key_place key < 999
small_place MessageType h = omega arith
small_place Sender h = omega arith
small_place Interface h = omega arith
small_place Member h = omega arith
small_place Path h = omega arith
small_place PathNamespace h = omega arith
small_place Destination h = omega arith
small_place (Argument n) h = omega (arith, h)
small_place (ArgumentPath n) h = omega (arith, h)
small_place Argument0Namespace h = omega arith
small_place Eavesdrop h = omega arith

found_place : (key : Key) → IsKey key → place_of (found (key_text key)) ≡ key_place key
unfolding digits
found_place MessageType h = refl
found_place Sender h = refl
found_place Interface h = refl
found_place Member h = refl
found_place Path h = refl
found_place PathNamespace h = refl
found_place Destination h = refl
found_place (Argument n) h = eqb-true (place_of (found (key_text (Argument n)))) (7 + n) (arguments_found n h)
found_place (ArgumentPath n) h = eqb-true (place_of (found (key_text (ArgumentPath n)))) (7 + max_arguments + n) (paths_found n h)
found_place Argument0Namespace h = refl
found_place Eavesdrop h = refl

-- A key is found by its text,
pub found_key : (key : Key) → IsKey key → found (key_text key) ≡ Some key
found_key key h = found_by_place (found (key_text key)) key (find_is_key (λ k. text_eq (key_text k) (key_text key)) all_keys all_are_keys) h (found_place key h) (small_place key h)

-- and by no other.
pub key_found : (text : Text) (key : Key) → found text ≡ Some key → (key_text key ≡ text) × IsKey key
key_found text key h = (
  text_eq-true (key_text key) text (find_passes (λ k. text_eq (key_text k) text) all_keys key h),
  subst (λ o. IsFoundKey o) h (find_is_key (λ k. text_eq (key_text k) text) all_keys all_are_keys),
)

decimals_part_nothing : (n : ℕ) → n < max_arguments → list_all is_key_byte (decimal n) ≡ true
unfolding digits
decimals_part_nothing n h = agree_below_at (λ n. list_all is_key_byte (decimal n)) (λ n. true) max_arguments n refl h

-- What stands in a key parts neither items nor a key from its value.
pub keys_part_nothing : (key : Key) → IsKey key → list_all is_key_byte (key_text key) ≡ true
keys_part_nothing MessageType h = refl
keys_part_nothing Sender h = refl
keys_part_nothing Interface h = refl
keys_part_nothing Member h = refl
keys_part_nothing Path h = refl
keys_part_nothing PathNamespace h = refl
keys_part_nothing Destination h = refl
keys_part_nothing (Argument n) h =
    list_all-append is_key_byte (codes "arg") (decimal n) ∙ and_from (list_all is_key_byte (codes "arg")) (list_all is_key_byte (decimal n)) refl (decimals_part_nothing n h)
keys_part_nothing (ArgumentPath n) h =
    list_all-append is_key_byte (codes "arg" ++ decimal n) (codes "path")
    ∙ and_from (list_all is_key_byte (codes "arg" ++ decimal n)) (list_all is_key_byte (codes "path"))
    (list_all-append is_key_byte (codes "arg") (decimal n) ∙ and_from (list_all is_key_byte (codes "arg")) (list_all is_key_byte (decimal n)) refl (decimals_part_nothing n h))
    refl
keys_part_nothing Argument0Namespace h = refl
keys_part_nothing Eavesdrop h = refl

-- The values that a key takes, and their test.
no_fault : (o : Option NameFault) → is_none o ≡ true → o ≡ None
no_fault None h = refl
no_fault (Some fault) h = absurd (true≢false (sym h))

tested : (o : Option NameFault) → o ≡ None → is_none o ≡ true
tested o h = rw h refl

unique_is_unique : (text : Text) → IsUniqueName text → is_unique text ≡ true
unique_is_unique text h = rw h.1.1 refl

well_known_is_not : (text : Text) → IsWellKnownName text → is_unique text ≡ false
well_known_is_not text h = subst (λ t. is_unique t ≡ false) (sym h.1.3) (first_byte h.1.0 h.1.1 h.1.2)
  where
    not_colon : (b : ℕ) → is_element_byte well_known_style b ≡ true → (b == colon) ≡ false
    not_colon b e = ne_eqb b colon (λ same. absurd (true≢false (sym e ∙ ap (λ x. is_element_byte well_known_style x) same)))

    first_byte : (elements : List Text) → 1 < length elements → AllByRecursion (IsElement well_known_style) elements → is_unique (joined dot elements) ≡ false
    first_byte [] some each = refl
    first_byte ([] ∷ others) some each = absurd each.0
    first_byte ((b ∷ bytes) ∷ others) some each = not_colon b each.0.0

bus_name_none : (text : Text) → IsBusName text → bus_name_fault text ≡ None
bus_name_none text (inl h) = rw (unique_is_unique text h) (unique_name_none text h)
bus_name_none text (inr h) = rw (well_known_is_not text h) (well_known_none text h)

none_bus_name : (text : Text) → bus_name_fault text ≡ None → IsBusName text
none_bus_name text h =
    elim (cases_Bool (is_unique text)) [
      | inl unique ↦ inl (none_unique_name text (subst (λ b. cond b (unique_name_fault text) (well_known_fault text) ≡ None) unique h))
      | inr other ↦ inr (none_well_known text (subst (λ b. cond b (unique_name_fault text) (well_known_fault text) ≡ None) other h))
    ]

kind_takes : (kind : MessageKind) (value : Text) → kind_word kind ≡ Some value → takes MessageType value ≡ true
kind_takes MethodCall value h = let e : codes "method_call" ≡ value = cc in subst (λ v. takes MessageType v ≡ true) e refl
kind_takes MethodReturn value h = let e : codes "method_return" ≡ value = cc in subst (λ v. takes MessageType v ≡ true) e refl
kind_takes Error value h = let e : codes "error" ≡ value = cc in subst (λ v. takes MessageType v ≡ true) e refl
kind_takes Signal value h = let e : codes "signal" ≡ value = cc in subst (λ v. takes MessageType v ≡ true) e refl
kind_takes (Unknown n) value h = absurd cc

pub takes_tested : (key : Key) (value : Text) → Takes key value → takes key value ≡ true
takes_tested MessageType value h = kind_takes h.0 value h.1
takes_tested Sender value h = tested (bus_name_fault value) (bus_name_none value h)
takes_tested Interface value h = tested _ (interface_none value h)
takes_tested Member value h = tested _ (member_none value h)
takes_tested Path value h = tested _ (object_path_none value h)
takes_tested PathNamespace value h = tested _ (object_path_none value h)
takes_tested Destination value h = tested _ (unique_name_none value h)
takes_tested (Argument n) value h = refl
takes_tested (ArgumentPath n) value h = refl
takes_tested Argument0Namespace value h = tested _ (namespace_none value h)
takes_tested Eavesdrop value (inl h) = rw h refl
takes_tested Eavesdrop value (inr h) = rw h refl

pub tested_takes : (key : Key) (value : Text) → takes key value ≡ true → Takes key value
tested_takes MessageType value h =
    elim (or_cases (text_eq value (codes "signal") || text_eq value (codes "method_call") || text_eq value (codes "method_return")) (text_eq value (codes "error")) h) [
      | inl three ↦ elim (or_cases (text_eq value (codes "signal") || text_eq value (codes "method_call")) (text_eq value (codes "method_return")) three) [
        | inl two ↦ elim (or_cases (text_eq value (codes "signal")) (text_eq value (codes "method_call")) two) [
          | inl e ↦ (Signal, ap (λ v. Some v) (sym (text_eq-true value (codes "signal") e)))
          | inr e ↦ (MethodCall, ap (λ v. Some v) (sym (text_eq-true value (codes "method_call") e)))
        ]
        | inr e ↦ (MethodReturn, ap (λ v. Some v) (sym (text_eq-true value (codes "method_return") e)))
      ]
      | inr e ↦ (Error, ap (λ v. Some v) (sym (text_eq-true value (codes "error") e)))
    ]
tested_takes Sender value h = none_bus_name value (no_fault (bus_name_fault value) h)
tested_takes Interface value h = none_interface value (no_fault _ h)
tested_takes Member value h = none_member value (no_fault _ h)
tested_takes Path value h = none_object_path value (no_fault _ h)
tested_takes PathNamespace value h = none_object_path value (no_fault _ h)
tested_takes Destination value h = none_unique_name value (no_fault _ h)
tested_takes (Argument n) value h = tt
tested_takes (ArgumentPath n) value h = tt
tested_takes Argument0Namespace value h = none_namespace value (no_fault _ h)
tested_takes Eavesdrop value h =
    elim (or_cases (text_eq value (codes "true")) (text_eq value (codes "false")) h) [
      | inl e ↦ inl (text_eq-true value (codes "true") e)
      | inr e ↦ inr (text_eq-true value (codes "false") e)
    ]
