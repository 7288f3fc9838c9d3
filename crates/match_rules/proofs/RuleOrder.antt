-- Entries in the order of their keys.
use Rattle.std.proofs.Common.{◌≡◌, ◌⊎◌, inl, inr, ℕ, zero, suc, ◌<◌, ◌≤◌, false, nat_lt, List, [], ◌∷◌, length, get_or, refl, sym, ap, subst, ◌∙◌, arith}
use Rattle.std.specs.List.{AllByRecursion, IsDistinct, Contains}
use Rattle.std.specs.List.Sorted.{IsPermutation}
use Rattle.std.proofs.lemmas.Bool.{cases_Bool, eqb-true, eqb-false, eq-eqb, ne_eqb, cond_both, ltb-true, ltb-false}
use Rattle.std.proofs.lemmas.List.Elements.{All-from_recursion, recursion_from_All, All-contains_itself, All-weaker}
use Rattle.std.proofs.lemmas.List.Sorted.{IsPermutation-refl, IsPermutation-sym, IsPermutation-trans, IsPermutation-cons, IsPermutation-insert, IsPermutation-map, All-permutation, Contains-permutation}
use Rattle.std.proofs.lemmas.Map.Keys.{IsDistinct-IsPermutation}
use Rattle.names.specs.Texts.{Text}
use Rattle.match_rules.specs.declared.key.Key.{Key}
use Rattle.match_rules.specs.Keys.{key_place, same_key}
use Rattle.match_rules.specs.Rules.{Rule, IsRising}
use Rattle.match_rules.specs.Reading.{keys_of, put}

pub all_move : {X : Type 0} (P : X → Type 0) (xs ys : List X) → IsPermutation xs ys → AllByRecursion P xs → AllByRecursion P ys
all_move P xs ys moves h = recursion_from_All P ys (All-permutation P xs ys moves (All-from_recursion P xs h))

pub same_key_swapped : (a b : Key) → same_key a b ≡ same_key b a
same_key_swapped a b =
    elim (cases_Bool (same_key a b)) [
      | inl same ↦ same ∙ sym (eq-eqb (key_place b) (key_place a) (sym (eqb-true (key_place a) (key_place b) same)))
      | inr other ↦ other ∙ sym (ne_eqb (key_place b) (key_place a) (λ e. eqb-false (key_place a) (key_place b) other (sym e)))
    ]

-- No key twice.
abbrev pub AreDistinct : List Key → Type 0
AreDistinct [] = Unit {0}
AreDistinct (key ∷ keys) = AllByRecursion (λ k. same_key key k ≡ false) keys × AreDistinct keys

to_distinct : (keys : List Key) → AreDistinct keys → IsDistinct same_key keys
unfolding IsDistinct
to_distinct [] h = tt
to_distinct (key ∷ keys) h = (h.0, to_distinct keys h.1)

from_distinct : (keys : List Key) → IsDistinct same_key keys → AreDistinct keys
unfolding IsDistinct
from_distinct [] h = tt
from_distinct (key ∷ keys) h = (h.0, from_distinct keys h.1)

pub distinct_move : (xs ys : Rule) → IsPermutation xs ys → AreDistinct (keys_of xs) → AreDistinct (keys_of ys)
distinct_move xs ys moves h =
    from_distinct (keys_of ys) (IsDistinct-IsPermutation same_key same_key_swapped (keys_of xs) (keys_of ys) (IsPermutation-map (λ e. e.0) xs ys moves) (to_distinct (keys_of xs) h))

above_differ : (key : Key) (rule : Rule) → AllByRecursion (λ later. key_place key < key_place later.0) rule → AllByRecursion (λ k. same_key key k ≡ false) (keys_of rule)
above_differ key [] h = tt
above_differ key (entry ∷ rule) h = (ne_eqb (key_place key) (key_place entry.0) (λ e. omega (arith, h.0, e)), above_differ key rule h.1)

pub rising_distinct : (rule : Rule) → IsRising rule → AreDistinct (keys_of rule)
rising_distinct [] h = tt
rising_distinct (entry ∷ rule) h = (above_differ entry.0 rule h.0, rising_distinct rule h.1)

abbrev pub in_order : Rule → Rule
in_order [] = []
in_order (entry ∷ entries) = put entry (in_order entries)

pub put_moves : (entry : Key × Text) (rule : Rule) → IsPermutation (entry ∷ rule) (put entry rule)
put_moves entry [] = IsPermutation-refl (entry ∷ [])
put_moves entry (first ∷ rule) =
    cond_both (nat_lt (key_place entry.0) (key_place first.0)) (entry ∷ first ∷ rule) (first ∷ put entry rule) (λ r. IsPermutation (entry ∷ first ∷ rule) r)
    (λ _. IsPermutation-refl (entry ∷ first ∷ rule))
    (λ _. IsPermutation-trans _ _ _ (IsPermutation-insert (first ∷ rule) 1 entry) (IsPermutation-cons first (entry ∷ rule) (put entry rule) (put_moves entry rule)))

pub in_order_moves : (entries : Rule) → IsPermutation entries (in_order entries)
in_order_moves [] = IsPermutation-refl []
in_order_moves (entry ∷ entries) = IsPermutation-trans _ _ _ (IsPermutation-cons entry entries (in_order entries) (in_order_moves entries)) (put_moves entry (in_order entries))

higher : (a b : ℕ) (rule : Rule) → a < b → AllByRecursion (λ later. b < key_place later.0) rule → AllByRecursion (λ later. a < key_place later.0) rule
higher a b [] lower h = tt
higher a b (entry ∷ rule) lower h = (omega (arith, lower, h.0), higher a b rule lower h.1)

put_above : (place : ℕ) (entry : Key × Text) (rule : Rule) → place < key_place entry.0 → AllByRecursion (λ later. place < key_place later.0) rule → AllByRecursion (λ later. place < key_place later.0) (put entry rule)
put_above place entry [] lower h = (lower, tt)
put_above place entry (first ∷ rule) lower h =
    cond_both (nat_lt (key_place entry.0) (key_place first.0)) (entry ∷ first ∷ rule) (first ∷ put entry rule) (λ r. AllByRecursion (λ later. place < key_place later.0) r)
    (λ _. (lower, h)) (λ _. (h.0, put_above place entry rule lower h.1))

pub put_rises : (entry : Key × Text) (rule : Rule) → IsRising rule → AllByRecursion (λ k. same_key entry.0 k ≡ false) (keys_of rule) → IsRising (put entry rule)
put_rises entry [] rises new = (tt, tt)
put_rises entry (first ∷ rule) rises new =
    cond_both (nat_lt (key_place entry.0) (key_place first.0)) (entry ∷ first ∷ rule) (first ∷ put entry rule) (λ r. IsRising r)
    (λ below. let lower : key_place entry.0 < key_place first.0 = ltb-true _ _ below in ((lower, higher (key_place entry.0) (key_place first.0) rule lower rises.0), rises))
    (λ above.
    let reaches : key_place first.0 ≤ key_place entry.0 = ltb-false _ _ above in
    let differs : key_place entry.0 ≡ key_place first.0 → ⊥ = eqb-false (key_place entry.0) (key_place first.0) new.0 in
    (put_above (key_place first.0) entry rule (omega (arith, reaches, differs)) rises.0, put_rises entry rule rises.1 new.1))

pub in_order_rises : (entries : Rule) → AreDistinct (keys_of entries) → IsRising (in_order entries)
in_order_rises [] h = tt
in_order_rises (entry ∷ entries) h =
    put_rises entry (in_order entries) (in_order_rises entries h.1)
    (all_move (λ k. same_key entry.0 k ≡ false) (keys_of entries) (keys_of (in_order entries)) (IsPermutation-map (λ e. e.0) entries (in_order entries) (in_order_moves entries)) h.0)

-- Two rules with the same entries in any order are one.
abbrev Has : Rule → Key × Text → Type 0
Has [] entry = ⊥
Has (first ∷ rule) entry = (entry ≡ first) ⊎ Has rule entry

has_at : (rule : Rule) (entry : Key × Text) (k : ℕ) → k < length rule → get_or rule k entry ≡ entry → Has rule entry
has_at [] entry k below at = absurd (omega (arith, below))
has_at (first ∷ rule) entry zero below at = inl (sym at)
has_at (first ∷ rule) entry (suc k) below at = inr (has_at rule entry k (omega (arith, below)) at)

has_above : (place : ℕ) (rule : Rule) (entry : Key × Text) → AllByRecursion (λ later. place < key_place later.0) rule → Has rule entry → place < key_place entry.0
has_above place [] entry h there = absurd there
has_above place (first ∷ rule) entry h (inl same) = subst (λ e. place < key_place e.0) (sym same) h.0
has_above place (first ∷ rule) entry h (inr there) = has_above place rule entry h.1 there

has_behind :
    (first : Key × Text) (b a : Rule) → AllByRecursion (λ later. key_place first.0 < key_place later.0) a → AllByRecursion (Has (first ∷ b)) a → AllByRecursion (Has b) a
has_behind first b [] above h = tt
has_behind first b (entry ∷ a) above h = (
  elim h.0 [ inl same ↦ absurd (omega (arith, above.0, ap (λ e. key_place e.0) same)) | inr there ↦ there ],
  has_behind first b a above.1 h.1,
)

same_entries : (a b : Rule) → IsRising a → IsRising b → AllByRecursion (Has b) a → AllByRecursion (Has a) b → a ≡ b
same_entries [] [] ra rb ab ba = refl
same_entries [] (y ∷ b) ra rb ab ba = absurd ba.0
same_entries (x ∷ a) [] ra rb ab ba = absurd ab.0
same_entries (x ∷ a) (y ∷ b) ra rb ab ba =
    let heads : x ≡ y =
    elim ab.0 [
      | inl same ↦ same
      | inr in_b ↦ elim ba.0 [ inl same ↦ sym same | inr in_a ↦ absurd (omega (arith, has_above (key_place y.0) b x rb.0 in_b, has_above (key_place x.0) a y ra.0 in_a)) ]
    ]
    in
    let front : AllByRecursion (Has b) a = has_behind y b a (subst (λ e. AllByRecursion (λ later. key_place e.0 < key_place later.0) a) heads ra.0) ab.1 in
    let back : AllByRecursion (Has a) b = has_behind x a b (subst (λ e. AllByRecursion (λ later. key_place e.0 < key_place later.0) b) (sym heads) rb.0) ba.1 in
    ap (λ e. e ∷ a) heads ∙ ap (λ r. y ∷ r) (same_entries a b ra.1 rb.1 front back)

has_all : (a b : Rule) → IsPermutation a b → AllByRecursion (Has b) a
has_all a b moves =
    recursion_from_All (Has b) a
    (All-weaker (Contains a) (Has b) (λ e c. let d = Contains-permutation a b e moves c in has_at b e d.0 d.1 d.2) a (All-contains_itself a))

pub one_order : (entries a b : Rule) → IsPermutation entries a → IsPermutation entries b → IsRising a → IsRising b → a ≡ b
one_order entries a b ma mb ra rb =
    let across : IsPermutation a b = IsPermutation-trans a entries b (IsPermutation-sym entries a ma) mb in
    same_entries a b ra rb (has_all a b across) (has_all b a (IsPermutation-sym a b across))
