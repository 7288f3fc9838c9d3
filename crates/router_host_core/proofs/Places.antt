-- Places for connections that come.
use Rattle.std.proofs.Common.{◌≡◌, ℕ, ◌+◌, List, [], ◌∷◌, ◌++◌, Option, None, length, replicate, ap, ◌∙◌, append_assoc, length-append}
use Rattle.std.proofs.lemmas.List.{replicate_more}

pub places_more : {X : Type 0} (old items more : List (Option X)) (here count : ℕ) → items ≡ old ++ replicate count None → length items ≡ here → more ≡ items ++ None ∷ [] →
    ((n : ℕ) × (more ≡ old ++ replicate n None)) × (length more ≡ here + 1)
places_more {X = X} old items more here count is long pushed = (
  (
    count + 1,
    pushed
        ∙ ap (λ (l : List (Option X)). l ++ None ∷ []) is
        ∙ append_assoc old (replicate count None) (None ∷ [])
        ∙ ap (λ (l : List (Option X)). old ++ l) (replicate_more count None),
  ),
  ap length pushed ∙ length-append items (None ∷ []) ∙ ap (λ (n : ℕ). n + 1) long,
)
