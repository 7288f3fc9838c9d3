-- Where the key of an item ends.
use Rattle.std.proofs.Common.{◌≡◌, inl, inr, ℕ, suc, ◌+◌, ◌-◌, ◌<◌, ◌≤◌, Bool, true, false, ◌==◌, nat_lt, cond, position, Some, None, [], ◌∷◌, length, take, drop, refl, sym, ap, ◌∙◌, arith}
use Rattle.std.specs.List.{list_any, before_first, position_or_len}
use Rattle.std.proofs.lemmas.Bool.{cases_Bool, ltb-true, lt-ltb}
use Rattle.std.proofs.lemmas.Bool.Decides.{nat_tests}
use Rattle.std.proofs.lemmas.List.{length-take}
use Rattle.names.specs.Texts.{Text}
use Rattle.match_rules.specs.declared.key.Key.{Key}
use Rattle.match_rules.specs.Keys.{IsKey}
use Rattle.match_rules.specs.RuleTexts.{equals}
use Rattle.match_rules.specs.RuleFaults.{Outside, is_equals, item_key, item_value, value_from}
use Rattle.match_rules.specs.Reading.{key_named}
use Rattle.match_rules.proofs.RuleLemmas.{length-key_text}
use Rattle.match_rules.proofs.KeyTexts.{found, key_found}
use Rattle.match_rules.proofs.KeyNames.{named_is, named_found}
use Rattle.match_rules.proofs.Items.{key_none}

lt_more : (a b : ℕ) → nat_lt a b ≡ nat_lt (1 + a) (suc b)
lt_more a b = grind (arith, nat_tests)

any_placed : (item : Text) → list_any is_equals item ≡ nat_lt (position_or_len is_equals item) (length item)
any_placed [] = refl
any_placed (b ∷ item) =
    elim (cases_Bool (b == equals)) [
      | inl same ↦ rw same (sym (lt-ltb 0 (length (b ∷ item)) (omega arith)))
      | inr other ↦ rw other (any_placed item ∙ lt_more (position_or_len is_equals item) (length item))
    ]

placed : (b : Bool) (n at : ℕ) → Some at ≡ cond b (Some n) None → (b ≡ true) × (at ≡ n)
placed true n at h = (refl, cc)
placed false n at h = absurd cc

placed_nowhere : (b : Bool) (n : ℕ) → None ≡ cond b (Some n) None → b ≡ false
placed_nowhere true n h = absurd cc
placed_nowhere false n h = refl

key_at : (item : Text) (at : ℕ) → Some at ≡ position is_equals item → (item_key item ≡ key_named (take at item)) × (at ≡ position_or_len is_equals item) × (at < length item)
key_at item at h =
    let p = placed (nat_lt (position_or_len is_equals item) (length item)) (position_or_len is_equals item) at h in (
      rw (any_placed item, p.0) (ap (λ n. found (take n item)) (sym p.1) ∙ sym (named_found (take at item))),
      p.1,
      omega (arith, p.1, ltb-true (position_or_len is_equals item) (length item) p.0),
    )

pub key_read :
    (item : Text) (at : ℕ) (key : Key) → Some at ≡ position is_equals item → Some key ≡ key_named (take at item) →
    (item_key item ≡ Some key) × (item_value item ≡ value_from Outside (drop (at + 1) item)) × (at < length item) × (1 < at)
key_read item at key h named =
    let k = key_at item at h in
    let is = named_is (take at item) key (sym named) in
    let size = ap (λ t. length t) is.0 in
    (k.0 ∙ sym named, ap (λ n. value_from Outside (drop (n + 1) item)) (sym k.1), k.2, omega (arith, size, length-key_text key, length-take at item))

pub key_unknown : (item : Text) (at : ℕ) → Some at ≡ position is_equals item → None ≡ key_named (take at item) → item_key item ≡ None
key_unknown item at h named = (key_at item at h).0 ∙ sym named

pub key_nowhere : (item : Text) → None ≡ position is_equals item → item_key item ≡ None
key_nowhere item h = rw (any_placed item, placed_nowhere (nat_lt (position_or_len is_equals item) (length item)) (position_or_len is_equals item) h) refl

pub item_key_is_key : (item : Text) (key : Key) → item_key item ≡ Some key → IsKey key
item_key_is_key item key h = (key_found (before_first is_equals item) key (key_none item key h).1).1

pub length-rest : (n : ℕ) (item : Text) → length (take (length item - n) (drop n item)) ≤ length item - n
length-rest n item = omega (arith, length-take (length item - n) (drop n item))
