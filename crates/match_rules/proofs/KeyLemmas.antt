-- Lemmas on the keys of rules.
use Rattle.std.proofs.Common.{◌≡◌, ℕ, ◌+◌, ◌<◌, ◌≤◌, inl, inr, List, [], ◌∷◌, ◌++◌, map, length, get_or, refl, sym, ap, ◌∙◌, arith}
use Rattle.std.specs.List.{range_with_len}
use Rattle.std.proofs.lemmas.Bool.{cases_lt}
use Rattle.std.proofs.lemmas.List.{get_or_past, get_or_append_left, get_or-append-add, length-append}
use Rattle.std.proofs.lemmas.List.FromFn.{get_or-map-range_with_len, length-map-range_with_len}
use Rattle.match_rules.specs.declared.key.Key.{Key}
use Rattle.match_rules.specs.declared.key.Key.TheVariants.{«Type» as MessageType, Sender, Interface, Member, Path, PathNamespace, Destination, Argument, ArgumentPath, Argument0Namespace, Eavesdrop}
use Rattle.match_rules.specs.Keys.{IsKey, key_place, all_keys, max_arguments}

-- The n-th of a run of values that stands between two lists.
between :
    {X : Type 0} (front : List X) (f : ℕ → X) (count : ℕ) (back : List X) (d : X) (n : ℕ) → n < count →
    get_or (front ++ map f (range_with_len 0 count) ++ back) (length front + n) d ≡ f n
between front f count back d n h =
    let mapped : length (map f (range_with_len 0 count)) ≡ count = length-map-range_with_len f 0 count in
    let both : length (front ++ map f (range_with_len 0 count)) ≡ length front + length (map f (range_with_len 0 count)) = length-append front (map f (range_with_len 0 count)) in
    get_or_append_left (front ++ map f (range_with_len 0 count)) back d (length front + n) (omega (arith, mapped, both))
    ∙ get_or-append-add front (map f (range_with_len 0 count)) n d
    ∙ get_or-map-range_with_len f 0 count n n d h (omega arith)

abbrev plain_keys : List Key
plain_keys = MessageType ∷ Member ∷ Interface ∷ Path ∷ PathNamespace ∷ Sender ∷ Destination ∷ []

abbrev argument_keys : List Key
argument_keys = map Argument (range_with_len 0 max_arguments)

abbrev path_keys : List Key
path_keys = map ArgumentPath (range_with_len 0 max_arguments)

abbrev last_keys : List Key
last_keys = Argument0Namespace ∷ Eavesdrop ∷ []

pub key_again : (key : Key) → IsKey key → get_or all_keys (key_place key) Eavesdrop ≡ key
key_again MessageType h = refl
key_again Sender h = refl
key_again Interface h = refl
key_again Member h = refl
key_again Path h = refl
key_again PathNamespace h = refl
key_again Destination h = refl
key_again (Argument n) h =
    get_or_append_left (plain_keys ++ argument_keys ++ path_keys) last_keys Eavesdrop (7 + n) (omega arith) ∙ between plain_keys Argument max_arguments path_keys Eavesdrop n h
key_again (ArgumentPath n) h = between (plain_keys ++ argument_keys) ArgumentPath max_arguments last_keys Eavesdrop n h
key_again Argument0Namespace h = refl
key_again Eavesdrop h = refl

pub key_past : (place : ℕ) → length all_keys ≤ place + 1 → get_or all_keys place Eavesdrop ≡ Eavesdrop
key_past place h =
    elim (cases_lt place (length all_keys)) [
      | inl last ↦ let e : place ≡ key_place Eavesdrop = omega (arith, h, last) in ap (λ p. get_or all_keys p Eavesdrop) e
      | inr past ↦ get_or_past all_keys place Eavesdrop past
    ]

-- Keys with one place are one key.
pub key_by_place : (a b : Key) → IsKey a → IsKey b → key_place a ≡ key_place b → a ≡ b
key_by_place a b ha hb same = sym (key_again a ha) ∙ ap (λ place. get_or all_keys place Eavesdrop) same ∙ key_again b hb
