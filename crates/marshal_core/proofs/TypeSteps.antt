-- A complete type by its first letter.
use Rattle.std.proofs.Common.{◌≡◌, ℕ, suc, ◌-◌, ◌+◌, ◌<◌, false, eqb, List, [], ◌∷◌, Result, Ok, Err, refl, arith}
use Rattle.std.proofs.lemmas.Bool.Decides.{nat_tests}
use Rattle.marshal_core.specs.declared.fault.MarshalFault.{MarshalFault}
use Rattle.marshal_core.specs.declared.fault.MarshalFault.TheVariants.{Signature}
use Rattle.marshal_core.specs.Types.{variant}
use Rattle.marshal_core.specs.Faults.{Tells, Gives}
use Rattle.marshal_core.specs.Signatures.{type_at, array_type_at, struct_type_at, basic_type_at, variant_code, array_code, struct_begin}

not_none : (n : ℕ) → 0 < n → eqb n 0 ≡ false
not_none n h = grind (arith, nat_tests)

other : (a b : ℕ) → (a ≡ b → ⊥) → eqb a b ≡ false
other a b h = grind (arith, nat_tests)

pub type_none : (a s : ℕ) (text : List ℕ) → text ≡ [] → type_at (a + s + 1) a s text ≡ Err Signature
unfolding type_at
type_none a s text e = let k : a + s + 1 ≡ suc (a + s) = omega arith in rw (e, k) refl

pub type_variant : (a s c : ℕ) (text rest : List ℕ) → text ≡ c ∷ rest → c ≡ variant_code → type_at (a + s + 1) a s text ≡ Ok (variant, rest)
unfolding type_at
type_variant a s c text rest e h = let k : a + s + 1 ≡ suc (a + s) = omega arith in rw (e, h, k) refl

pub type_no_array : (a s c : ℕ) (text rest : List ℕ) → text ≡ c ∷ rest → c ≡ array_code → a ≡ 0 → type_at (a + s + 1) a s text ≡ Err Signature
unfolding type_at
type_no_array a s c text rest e h z = let k : a + s + 1 ≡ suc (a + s) = omega arith in rw (e, h, k, z) refl

pub type_array : (a s c : ℕ) (text rest : List ℕ) → text ≡ c ∷ rest → c ≡ array_code → 0 < a → type_at (a + s + 1) a s text ≡ array_type_at (type_at (a - 1 + s + 1) (a - 1) s) rest
unfolding type_at
type_array a s c text rest e h some =
    let k : a + s + 1 ≡ suc (a - 1 + s + 1) = omega arith in
    rw (e, h, k, not_none a some) refl

pub type_no_struct : (a s c : ℕ) (text rest : List ℕ) → text ≡ c ∷ rest → c ≡ struct_begin → s ≡ 0 → type_at (a + s + 1) a s text ≡ Err Signature
unfolding type_at
type_no_struct a s c text rest e h z = let k : a + s + 1 ≡ suc (a + s) = omega arith in rw (e, h, k, z) refl

pub type_struct : (a s c : ℕ) (text rest : List ℕ) → text ≡ c ∷ rest → c ≡ struct_begin → 0 < s → type_at (a + s + 1) a s text ≡ struct_type_at (type_at (a + (s - 1) + 1) a (s - 1)) rest
unfolding type_at
type_struct a s c text rest e h some =
    let k : a + s + 1 ≡ suc (a + (s - 1) + 1) = omega arith in
    rw (e, h, k, not_none s some) refl

pub type_basic : (a s c : ℕ) (text rest : List ℕ) → text ≡ c ∷ rest → (c ≡ variant_code → ⊥) → (c ≡ array_code → ⊥) → (c ≡ struct_begin → ⊥) → type_at (a + s + 1) a s text ≡ basic_type_at text
unfolding type_at
type_basic a s c text rest e v r b =
    let k : a + s + 1 ≡ suc (a + s) = omega arith in
    rw (e, k, other c variant_code v, other c array_code r, other c struct_begin b) refl

-- without want of memory
pub told : {X Y : Type 0} (view : X → Y) (r : Result X MarshalFault) (outcome : Result Y MarshalFault) → Tells view r outcome → Gives view r outcome
told view (Ok x) outcome h = h
told view (Err e) outcome h = λ known. h
