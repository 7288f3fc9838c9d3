-- What each of several brings, one after the other.
use Rattle.std.proofs.Common.{◌≡◌, ℕ, ◌+◌, ◌<◌, ◌≤◌, Option, Result, Ok, Err, List, [], ◌∷◌, ◌++◌, length, get_or, take, drop, sym, ap, ◌∙◌, subst, append_assoc, append-nil, take-append-drop}
use Rattle.std.specs.Io.KnownBytes.{Appends, Keeps}
use Rattle.std.specs.Iterator.{Yields, YieldsFirst}
use Rattle.std.specs.List.{flat_map}
use Rattle.std.proofs.KnownBytes.{Appends-trans, Appends-kept}
use Rattle.busd_core.specs.Transfers.{WritesFront}
use Rattle.std.proofs.lemmas.Grind.{flat_map-append}
use Rattle.std.proofs.lemmas.List.{take_more, take_all}

module _ {X B : Type 0} (f : X → List B) (xs : List X) (i : ℕ) (x d : X) (inside : i < length xs) (is : x ≡ get_or xs i d) where
  pub one_more : flat_map f (take (i + 1) xs) ≡ flat_map f (take i xs) ++ f x
  one_more =
      ap (flat_map f) (take_more xs i d inside)
      ∙ flat_map-append f (take i xs) (get_or xs i d ∷ [])
      ∙ ap (λ (y : X). flat_map f (take i xs) ++ (f y ++ [])) (sym is)
      ∙ ap (λ (l : List B). flat_map f (take i xs) ++ l) (append-nil (f x))

  pub split_at : flat_map f xs ≡ (flat_map f (take i xs) ++ f x) ++ flat_map f (drop (i + 1) xs)
  split_at =
      ap (flat_map f) (sym (take-append-drop (i + 1) xs))
      ∙ flat_map-append f (take (i + 1) xs) (drop (i + 1) xs)
      ∙ ap (λ (l : List B). l ++ flat_map f (drop (i + 1) xs)) one_more

module _ {X : Type 0} (f : X → List ℕ) (xs : List X) (i : ℕ) (o p q : Option (List ℕ)) (begun : Appends o p (flat_map f (take i xs))) where
  pub writes_more : (x d : X) → i < length xs → x ≡ get_or xs i d → Appends p q (f x) → Appends o q (flat_map f (take (i + 1) xs))
  writes_more x d inside is more =
      subst (Appends o q) (sym (one_more f xs i x d inside is)) (Appends-trans o p q (flat_map f (take i xs)) (f x) begun more)

  pub writes_front : (x d : X) → i < length xs → x ≡ get_or xs i d → (front missing : List ℕ) × (f x ≡ front ++ missing) × Appends p q front →
      (front missing : List ℕ) × (flat_map f xs ≡ front ++ missing) × Appends o q front
  writes_front x d inside is (front, missing, whole, more) =
      let begin : List ℕ = flat_map f (take i xs) in
      let rest : List ℕ = flat_map f (drop (i + 1) xs) in (
        begin ++ front,
        missing ++ rest,
        split_at f xs i x d inside is
            ∙ ap (λ (l : List ℕ). (begin ++ l) ++ rest) whole
            ∙ ap (λ (l : List ℕ). l ++ rest) (sym (append_assoc begin front missing))
            ∙ append_assoc (begin ++ front) missing rest,
        Appends-trans o p q begin front begun more,
      )

  writes_all : length xs ≤ i → Appends o p (flat_map f xs)
  writes_all over = subst (λ (l : List X). Appends o p (flat_map f l)) (take_all i xs over) begun

  -- all was written, whether or not it could be flushed
  pub writes_flushed : {E : Type 0} → length xs ≤ i → (result : Result (Unit {0}) E) → Keeps p q → WritesFront o q (flat_map f xs) result
  writes_flushed over (Ok u) kept = Appends-kept o p q (flat_map f xs) (writes_all over) kept
  writes_flushed over (Err e) kept = (flat_map f xs, [], sym (append-nil (flat_map f xs)), Appends-kept o p q (flat_map f xs) (writes_all over) kept)

-- what an iterator gave, and what it has left
pub given_first : {X : Type 0} (given before left : List X) → Yields (YieldsFirst (λ (xs : List X). xs)) before given left → before ≡ given ++ left
given_first [] before left y = y
given_first (x ∷ given) before left y = y.1 ∙ ap (λ xs. x ∷ xs) (given_first given y.0 left y.2)
