-- Steps, one after the other.
use Rattle.std.proofs.Common.{◌≡◌, ℕ, ◌+◌, ◌<◌, ◌≤◌, List, [], ◌∷◌, ◌++◌, length, get_or, take, reverse, refl, sym, ap, ◌∙◌, subst, append_assoc}
use Rattle.std.proofs.lemmas.List.{take_more, take_all, reverse-append}
use Rattle.std.specs.List.{AllByRecursion}
use Rattle.router_host_core.specs.Carrying.{Each}

module _ {X S : Type 0} (step : X → S → S → Type 0) where
  pub each_then : (xs ys : List X) (a b c : S) → Each step xs a b → Each step ys b c → Each step (xs ++ ys) a c
  each_then [] ys a b c f g = subst (λ (s : S). Each step ys s c) f g
  each_then (x ∷ xs) ys a b c f g = (f.0, f.1, each_then xs ys f.0 b c f.2 g)

  pub each_more : (xs : List X) (i : ℕ) (x d : X) → i < length xs → x ≡ get_or xs i d → (a b c : S) → Each step (take i xs) a b → step x b c →
      Each step (take (i + 1) xs) a c
  each_more xs i x d inside is a b c f g =
      subst (λ (l : List X). Each step l a c) (sym (take_more xs i d inside))
      (each_then (take i xs) (get_or xs i d ∷ []) a b c f (subst (λ (y : X). Each step (y ∷ []) b c) is (c, g, refl)))

  pub each_ends : (xs : List X) (i : ℕ) → length xs ≤ i → (a b : S) → Each step (take i xs) a b → Each step xs a b
  each_ends xs i over a b f = subst (λ (l : List X). Each step l a b) (take_all i xs over) f

-- ## Steps whatever they are

module _ {X S : Type 0} (step : X → S → S → Type 0) where
  abbrev pub Runs : S → S → Type 0
  Runs a b = (xs : List X) × Each step xs a b

  pub runs_one : (x : X) (a b : S) → step x a b → Runs a b
  runs_one x a b f = (x ∷ [], (b, f, refl))

  pub runs_then : (a b c : S) → Runs a b → Runs b c → Runs a c
  runs_then a b c f g = (f.0 ++ g.0, each_then step f.0 g.0 a b c f.1 g.1)

  pub runs_more : (x : X) (a b c : S) → Runs a b → step x b c → Runs a c
  runs_more x a b c f g = runs_then a b c f (runs_one x b c g)

-- ## From the last to the first, which lies at the end

-- the first of all are done, and the rest is left
abbrev pub SoFar : {X S : Type 0} → (X → S → S → Type 0) → (rest all : List X) → (now before : S) → Type 0
SoFar {X = X} step rest all now before = (done : List X) × (all ≡ done ++ rest) × Each step done before now

pub last_first : {X : Type 0} (older rest : List X) (x : X) → older ≡ rest ++ x ∷ [] → reverse older ≡ x ∷ reverse rest
last_first older rest x is = ap reverse is ∙ reverse-append rest (x ∷ [])

pub one_more : {X S : Type 0} (step : X → S → S → Type 0) (older rest all : List X) (x : X) → older ≡ rest ++ x ∷ [] → (a b before : S) → SoFar step (reverse older) all a before → step x a b →
    SoFar step (reverse rest) all b before
one_more step older rest all x is a b before f s =
    let moved : all ≡ (f.0 ++ x ∷ []) ++ reverse rest = f.1 ∙ ap (λ l. f.0 ++ l) (last_first older rest x is) ∙ sym (append_assoc f.0 (x ∷ []) (reverse rest)) in
    (f.0 ++ x ∷ [], moved, each_then step f.0 (x ∷ []) before a b f.2 (b, s, refl))

pub own_more : {X : Type 0} (Q : X → Type 0) (older rest : List X) (x : X) → older ≡ rest ++ x ∷ [] → AllByRecursion Q (reverse older) → Q x × AllByRecursion Q (reverse rest)
own_more Q older rest x is own = subst (AllByRecursion Q) (last_first older rest x is) own
