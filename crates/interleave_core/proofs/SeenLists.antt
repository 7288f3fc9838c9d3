-- One item of a list is set.
use Rattle.std.proofs.Common.{◌≡◌, ◌≢◌, ◌⊎◌, inl, inr, ℕ, zero, suc, Option, Some, None, List, [], ◌∷◌, replicate, slice_get, slice_set, refl, ap, sym, arith}
use Rattle.seq_bus_core.specs.Histories.{History}

pub some_same : {X : Type 0} (a b : X) → Some a ≡ Some b → a ≡ b
some_same a b e = ap (λ o. elim o [ Some x ↦ x | None ↦ a ]) e

pub none_some : {X : Type 0} (a : X) → ◌≡◌ {A = Option X} None (Some a) → ⊥
none_some a e = cc e

pub suc_same : (a b : ℕ) → suc a ≡ suc b → a ≡ b
suc_same a b e = omega (arith, e)

suc_differ : (a b : ℕ) → a ≢ b → suc a ≢ suc b
suc_differ a b differ e = differ (suc_same a b e)

-- What is found at j once i was set: the new item at i itself, else what was there.
pub set_found : {X : Type 0} (xs : List X) (i j : ℕ) (v x : X) → slice_get (slice_set xs i v) j ≡ Some x →
    ((i ≡ j) × (x ≡ v)) ⊎ ((i ≢ j) × (slice_get xs j ≡ Some x))
set_found [] i j v x e = absurd (none_some x e)
set_found (y ∷ xs) zero zero v x e = inl (refl, sym (some_same v x e))
set_found (y ∷ xs) zero (suc j) v x e = inr ((λ h. absurd (omega (arith, h))), e)
set_found (y ∷ xs) (suc i) zero v x e = inr ((λ h. absurd (omega (arith, h))), e)
set_found (y ∷ xs) (suc i) (suc j) v x e = elim (set_found xs i j v x e) [ inl same ↦ inl (ap suc same.0, same.1) | inr other ↦ inr (suc_differ i j other.0, other.1) ]

-- and what was there at j is still, or is the new one
pub found_set : {X : Type 0} (xs : List X) (i j : ℕ) (v x : X) → slice_get xs j ≡ Some x →
    ((i ≡ j) × (slice_get (slice_set xs i v) j ≡ Some v)) ⊎ ((i ≢ j) × (slice_get (slice_set xs i v) j ≡ Some x))
found_set [] i j v x e = absurd (none_some x e)
found_set (y ∷ xs) zero zero v x e = inl (refl, refl)
found_set (y ∷ xs) zero (suc j) v x e = inr ((λ h. absurd (omega (arith, h))), e)
found_set (y ∷ xs) (suc i) zero v x e = inr ((λ h. absurd (omega (arith, h))), e)
found_set (y ∷ xs) (suc i) (suc j) v x e = elim (found_set xs i j v x e) [ inl same ↦ inl (ap suc same.0, same.1) | inr other ↦ inr (suc_differ i j other.0, other.1) ]

pub set_there : {X : Type 0} (xs : List X) (i : ℕ) (v x : X) → slice_get xs i ≡ Some x → slice_get (slice_set xs i v) i ≡ Some v
set_there [] i v x e = absurd (none_some x e)
set_there (y ∷ xs) zero v x e = refl
set_there (y ∷ xs) (suc i) v x e = set_there xs i v x e

-- at first nobody has seen anything
pub unseen : (n i : ℕ) (h : History) → slice_get (replicate n []) i ≡ Some h → h ≡ []
unseen zero i h e = absurd (none_some h e)
unseen (suc n) zero h e = sym (some_same [] h e)
unseen (suc n) (suc i) h e = unseen n i h e
