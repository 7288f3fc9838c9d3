-- The type that a text begins with, and what follows it.
use Rattle.std.proofs.Common.{◌≡◌, ℕ, zero, suc, ◌-◌, ◌+◌, ◌≤◌, ◌<◌, Bool, true, false, cond, eqb, leb, List, [], ◌∷◌, ◌++◌, length, refl, ap, ◌∙◌, append_assoc, arith}
use Rattle.std.specs.Prelude.{◌||◌}
use Rattle.std.proofs.lemmas.Bool.Decides.{nat_tests}
use Rattle.marshal_core.specs.declared.data_type.BasicType.{BasicType}
use Rattle.marshal_core.specs.declared.data_type.BasicType.TheVariants as of_type
use Rattle.marshal_core.specs.Types.{Ty, basic, variant, array, entry, struct, Tys, no_types, more_types}
use Rattle.marshal_core.specs.Signatures.{basic_code, code, codes}

abbrev opens : ℕ → Bool
opens c = eqb c 40 || eqb c 123

abbrev closes : ℕ → Bool
closes c = eqb c 41 || eqb c 125

-- what follows a type, within so many structs and dict entries that are not closed
unfoldable pub beyond : ℕ → List ℕ → List ℕ
beyond deep [] = []
beyond deep (c ∷ cs) =
    cond (eqb c 97) (beyond deep cs)
    (cond (opens c) (beyond (suc deep) cs)
    (cond (closes c) (cond (leb deep 1) cs (beyond (deep - 1) cs))
    (cond (eqb deep 0) cs (beyond deep cs))))

abbrev closed : ℕ → List ℕ → List ℕ
closed deep cs = cond (eqb deep 0) cs (beyond deep cs)

not_none : (n : ℕ) → eqb (suc n) 0 ≡ false
not_none n = grind (arith, nat_tests)

more_than_one : (n : ℕ) → leb (suc (suc n)) 1 ≡ false
more_than_one n = grind (arith, nat_tests)

not_eq : (a b : ℕ) → (a ≡ b → ⊥) → eqb a b ≡ false
not_eq a b h = grind (arith, nat_tests)

struct_closes : (n : ℕ) (cs : List ℕ) → beyond (suc n) (41 ∷ cs) ≡ closed n cs
unfolding beyond
struct_closes zero cs = refl
struct_closes (suc n) cs =
    let k : suc (suc n) - 1 ≡ suc n = omega arith in
    rw (more_than_one n, not_none n, k) refl

entry_closes : (n : ℕ) (cs : List ℕ) → beyond (suc n) (125 ∷ cs) ≡ closed n cs
unfolding beyond
entry_closes zero cs = refl
entry_closes (suc n) cs =
    let k : suc (suc n) - 1 ≡ suc n = omega arith in
    rw (more_than_one n, not_none n, k) refl

basic_passes : (b : BasicType) (n : ℕ) (tail : List ℕ) → beyond n (basic_code b ∷ tail) ≡ closed n tail
unfolding beyond
basic_passes of_type.Byte n tail = refl
basic_passes of_type.Boolean n tail = refl
basic_passes of_type.Int16 n tail = refl
basic_passes of_type.Uint16 n tail = refl
basic_passes of_type.Int32 n tail = refl
basic_passes of_type.Uint32 n tail = refl
basic_passes of_type.Int64 n tail = refl
basic_passes of_type.Uint64 n tail = refl
basic_passes of_type.Double n tail = refl
basic_passes of_type.String n tail = refl
basic_passes of_type.ObjectPath n tail = refl
basic_passes of_type.Signature n tail = refl

mutual
  unfolding beyond

  beyond_type : (t : Ty) (n : ℕ) (tail : List ℕ) → beyond n (code t ++ tail) ≡ closed n tail
  beyond_type (basic b) n tail = basic_passes b n tail
  beyond_type variant n tail = refl
  beyond_type (array t) n tail = beyond_type t n tail
  beyond_type (entry k t) n tail =
      ap (λ (cs : List ℕ). beyond (suc n) (basic_code k ∷ cs)) (append_assoc (code t) (125 ∷ []) tail)
      ∙ basic_passes k (suc n) (code t ++ 125 ∷ tail) ∙ rw (not_none n) (beyond_type t (suc n) (125 ∷ tail) ∙ rw (not_none n) (entry_closes n tail))
  beyond_type (struct ts) n tail = ap (beyond (suc n)) (append_assoc (codes ts) (41 ∷ []) tail) ∙ beyond_types ts n (41 ∷ tail) ∙ struct_closes n tail

  beyond_types : (ts : Tys) (n : ℕ) (tail : List ℕ) → beyond (suc n) (codes ts ++ tail) ≡ beyond (suc n) tail
  beyond_types no_types n tail = refl
  beyond_types (more_types t ts) n tail =
      ap (beyond (suc n)) (append_assoc (code t) (codes ts) tail) ∙ beyond_type t (suc n) (codes ts ++ tail) ∙ rw (not_none n) (beyond_types ts n tail)

pub follows : (of : List ℕ) (t : Ty) (tail : List ℕ) → of ≡ code t ++ tail → beyond 0 of ≡ tail
follows of t tail e = ap (beyond 0) e ∙ beyond_type t 0 tail

-- ---- one step past a letter

pub past_a : (n c : ℕ) (rest behind : List ℕ) → rest ≡ c ∷ behind → c ≡ 97 → beyond n rest ≡ beyond n behind
unfolding beyond
past_a n c rest behind e h = rw (e, h) refl

pub past_open : (n c : ℕ) (rest behind : List ℕ) → rest ≡ c ∷ behind → opens c ≡ true → (c ≡ 97 → ⊥) → beyond n rest ≡ beyond (n + 1) behind
unfolding beyond
past_open n c rest behind e h a = let k : n + 1 ≡ suc n = omega arith in rw (e, not_eq c 97 a, h, k) refl

pub past_last : (n c : ℕ) (rest behind : List ℕ) → rest ≡ c ∷ behind → (c ≡ 97 → ⊥) → opens c ≡ false → closes c ≡ true → n ≤ 1 → beyond n rest ≡ behind
unfolding beyond
past_last zero c rest behind e a o h le = rw (e, not_eq c 97 a, o, h) refl
past_last (suc zero) c rest behind e a o h le = rw (e, not_eq c 97 a, o, h) refl
past_last (suc (suc n)) c rest behind e a o h le = absurd (omega (arith, le))

pub past_close : (n c : ℕ) (rest behind : List ℕ) → rest ≡ c ∷ behind → (c ≡ 97 → ⊥) → opens c ≡ false → closes c ≡ true → 1 < n → beyond n rest ≡ beyond (n - 1) behind
unfolding beyond
past_close zero c rest behind e a o h lt = absurd (omega (arith, lt))
past_close (suc zero) c rest behind e a o h lt = absurd (omega (arith, lt))
past_close (suc (suc n)) c rest behind e a o h lt = rw (e, not_eq c 97 a, o, h, more_than_one n) refl

past_basic : (n c : ℕ) (rest behind : List ℕ) → rest ≡ c ∷ behind → (c ≡ 97 → ⊥) → opens c ≡ false → closes c ≡ false → beyond n rest ≡ closed n behind
unfolding beyond
past_basic n c rest behind e a o p = rw (e, not_eq c 97 a, o, p) refl

pub past_one : (n c : ℕ) (rest behind : List ℕ) → rest ≡ c ∷ behind → (c ≡ 97 → ⊥) → opens c ≡ false → closes c ≡ false → n ≡ 0 → beyond n rest ≡ behind
past_one n c rest behind e a o p z = past_basic n c rest behind e a o p ∙ rw z refl

pub past_inner : (n c : ℕ) (rest behind : List ℕ) → rest ≡ c ∷ behind → (c ≡ 97 → ⊥) → opens c ≡ false → closes c ≡ false → 0 < n → beyond n rest ≡ beyond n behind
past_inner zero c rest behind e a o p lt = absurd (omega (arith, lt))
past_inner (suc n) c rest behind e a o p lt = past_basic (suc n) c rest behind e a o p ∙ rw (not_none n) refl

pub past_none : (n : ℕ) (rest : List ℕ) → length rest ≡ 0 → beyond n rest ≡ rest
unfolding beyond
past_none n [] e = refl
past_none n (b ∷ rest) e = absurd (omega (arith, e))
