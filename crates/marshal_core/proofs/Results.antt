-- Taking apart what steps gave.
use Rattle.std.proofs.Common.{◌≡◌, ℕ, ◌≤◌, ◌<◌, Bool, true, false, cond, eqb, leb, Result, Ok, Err, refl, arith, inl, inr}
use Rattle.std.specs.Prelude.{◌⊎◌, ◌&&◌}
use Rattle.std.proofs.lemmas.Bool.{eqb-true}
use Rattle.std.proofs.lemmas.Bool.Decides.{nat_tests}
use Rattle.marshal_core.specs.declared.fault.MarshalFault.{MarshalFault}
use Rattle.marshal_core.specs.Faults.{◌>>=◌}

pub bind_ok : {A B : Type 0} (r : Result A MarshalFault) (f : A → Result B MarshalFault) (y : B) → (r >>= f) ≡ Ok y → (x : A) × (r ≡ Ok x) × (f x ≡ Ok y)
bind_ok (Ok x) f y e = (x, refl, e)
bind_ok (Err d) f y e = absurd cc

-- which way a test went
pub chosen : {A : Type 0} (b : Bool) (x y z : A) → cond b x y ≡ z → ((b ≡ true) × (x ≡ z)) ⊎ ((b ≡ false) × (y ≡ z))
chosen true x y z e = inl (refl, e)
chosen false x y z e = inr (refl, e)

pub guard_ok : {A : Type 0} (b : Bool) (d : MarshalFault) (x : Result A MarshalFault) (y : A) → cond b (Err d) x ≡ Ok y → (b ≡ false) × (x ≡ Ok y)
guard_ok true d x y e = absurd cc
guard_ok false d x y e = (refl, e)

pub guard_else : {A : Type 0} (b : Bool) (d : MarshalFault) (x : Result A MarshalFault) (y : A) → cond b x (Err d) ≡ Ok y → (b ≡ true) × (x ≡ Ok y)
guard_else true d x y e = (refl, e)
guard_else false d x y e = absurd cc

abbrev pub done : {A : Type 0} → A → Result A MarshalFault
done x = Ok x

pub ok_is : {A : Type 0} (x y : A) → done x ≡ done y → x ≡ y
ok_is x y e = cc

pub leb-no : (a b : ℕ) → leb a b ≡ false → b < a
leb-no a b h = grind (arith, nat_tests)

pub leb-yes : (a b : ℕ) → leb a b ≡ true → a ≤ b
leb-yes a b h = grind (arith, nat_tests)

pub leb_true : (a b : ℕ) → a ≤ b → leb a b ≡ true
leb_true a b h = grind (arith, nat_tests)

pub leb_false : (a b : ℕ) → b < a → leb a b ≡ false
leb_false a b h = grind (arith, nat_tests)

pub eqb-yes : (a b : ℕ) → eqb a b ≡ true → a ≡ b
eqb-yes a b h = eqb-true a b h

pub both_true : (a b : Bool) → (a && b) ≡ true → (a ≡ true) × (b ≡ true)
both_true true b h = (refl, h)
both_true false b h = absurd cc

pub both_are : (a b : Bool) → a ≡ true → b ≡ true → (a && b) ≡ true
both_are a b h k = rw (h, k) refl
