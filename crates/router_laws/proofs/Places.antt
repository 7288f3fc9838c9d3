-- The bytes of connections by their places.
use Rattle.std.proofs.Common.{◌≡◌, ℕ, zero, suc, ◌+◌, ◌<◌, ◌≤◌, eqb, true, false, inl, inr, List, [], ◌∷◌, ◌++◌, length, map, reverse, get_or, set, refl, sym, ap, ◌∙◌, arith}
use Rattle.std.specs.Prelude.{if◌then◌else◌}
use Rattle.std.specs.List.{range_with_len}
use Rattle.std.proofs.lemmas.Bool.Decides.{eqb_tells}
use Rattle.std.proofs.lemmas.Grind.{get_or-set_at}
use Rattle.std.proofs.lemmas.List.{ext_get_or, get_or-map, get_or-set_other, length-map, length-reverse, length-set, map-set}
use Rattle.std.proofs.lemmas.List.FromFn.{get_or-map-range_with_len, length-map-range_with_len}
use Rattle.std.proofs.Math.Seq.{map-set_same}
use mathlib.Core.List.{append-nil}
use Rattle.router_core.specs.OneThread.{bytes_if, opening_of}
use Rattle.router_laws.specs.Outputs.{Output, Adds}

-- a connection that came has got nothing yet
pub nothing_yet : (written : List (List ℕ)) (k : ℕ) → get_or (written ++ [] ∷ []) k [] ≡ get_or written k []
nothing_yet [] zero = refl
nothing_yet [] (suc k) = refl
nothing_yet (x ∷ written) zero = refl
nothing_yet (x ∷ written) (suc k) = nothing_yet written k

-- what stands at each place
pub all_places : (written : List (List ℕ)) (n : ℕ) (f : ℕ → List ℕ) → length written ≡ n → ((k : ℕ) → get_or written k [] ≡ f (k + 1)) → written ≡ map f (range_with_len 1 n)
all_places written n f count each =
    ext_get_or [] written (map f (range_with_len 1 n)) (count ∙ sym (length-map-range_with_len f 1 n))
    (λ i inside. each i ∙ sym (get_or-map-range_with_len f 1 n i (i + 1) [] (omega (arith, count, inside)) (omega arith)))

pub opening_within : (key : ℕ) (keys : List ℕ) → opening_of key keys ≤ length keys
opening_within key [] = omega arith
opening_within key (last ∷ keys) =
    elim (eqb last key) as (λ b. (if b then length keys + 1 else opening_of key keys) ≤ length (last ∷ keys)) [
      | true ↦ omega arith
      | false ↦ omega (arith, opening_within key keys)
    ]

added : (ys : List (List ℕ)) (i k : ℕ) (more : List ℕ) → i < length ys → get_or (set ys i (get_or ys i [] ++ more)) k [] ≡ get_or ys k [] ++ bytes_if (k + 1) (i + 1) more
added ys i k more inside =
    elim (eqb_tells (k + 1) (i + 1)) [
      | inl h ↦
          let same : k ≡ i = omega (arith, h.1) in
          get_or-set_at ys i k (get_or ys i [] ++ more) [] same inside
          ∙ ap (λ (n : ℕ). get_or ys n [] ++ more) (sym same)
          ∙ ap (λ b. get_or ys k [] ++ (if b then more else [])) (sym h.0)
      | inr h ↦
          get_or-set_other ys i k (get_or ys i [] ++ more) [] (λ e. h.1 (ap (λ (n : ℕ). n + 1) e))
          ∙ sym (append-nil (get_or ys k []))
          ∙ ap (λ b. get_or ys k [] ++ (if b then more else [])) (sym h.0)
    ]

module _ {A : Type 0} (key : A → ℕ) (bytes : A → List ℕ) where
  abbrev pub output_of : List A → Output
  output_of xs = record { keys = reverse (map key xs); written = map bytes xs }

  -- bytes of the connection at a place
  pub adds_at : (xs : List A) (i : ℕ) (old new : A) (name : ℕ) (more : List ℕ) → i < length xs → get_or xs i old ≡ old → key new ≡ key old → bytes new ≡ bytes old ++ more →
      opening_of name (reverse (map key xs)) ≡ i + 1 →
      Adds (output_of xs) (λ opening. bytes_if opening (opening_of name (reverse (map key xs))) more) (output_of (set xs i new))
  adds_at xs i old new name more inside is same longer opening =
      let there : get_or (map bytes xs) i [] ≡ bytes old = get_or-map bytes xs i old [] inside ∙ ap bytes is in
      let within : i < length (map bytes xs) = omega (arith, inside, length-map xs bytes) in
      let change : map bytes (set xs i new) ≡ set (map bytes xs) i (get_or (map bytes xs) i [] ++ more) =
      map-set bytes xs i new ∙ ap (λ (b : List ℕ). set (map bytes xs) i b) (longer ∙ ap (λ (b : List ℕ). b ++ more) (sym there)) in
      record {
        keys = ap (λ (ks : List ℕ). reverse ks) (map-set_same key xs i new old (same ∙ ap key (sym is)));
        count = ap (λ (ys : List (List ℕ)). length ys) (map-set bytes xs i new) ∙ length-set (map bytes xs) i (bytes new);
        each = λ k.
            ap (λ (ys : List (List ℕ)). get_or ys k []) change
            ∙ added (map bytes xs) i k more within
            ∙ ap (λ (n : ℕ). get_or (map bytes xs) k [] ++ bytes_if (k + 1) n more) (sym opening);
      }

  -- which of all connections has the key
  pub opening_inside : (xs : List A) (name : ℕ) (out : List ℕ) → reverse (map key xs) ≡ out → opening_of name out ≤ length xs
  opening_inside xs name out is =
      let count : length out ≡ length xs = ap (λ (ks : List ℕ). length ks) (sym is) ∙ length-reverse (map key xs) ∙ length-map xs key in
      omega (arith, count, opening_within name out)

pub mapped_twice : {A B C : Type 0} (g : B → C) (f : A → B) (xs : List A) → map g (map f xs) ≡ map (λ x. g (f x)) xs
mapped_twice g f [] = refl
mapped_twice {C = C} g f (x ∷ xs) = ap (λ (ys : List C). g (f x) ∷ ys) (mapped_twice g f xs)
