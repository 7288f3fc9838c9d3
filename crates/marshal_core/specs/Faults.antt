-- Faults, and steps that may end in one.
use Rattle.std.specs.Prelude.{◌≡◌, ◌≢◌, ℕ, Result, Ok, Err}
use Rattle.marshal_core.specs.declared.fault.MarshalFault.{MarshalFault}
use Rattle.marshal_core.specs.declared.fault.MarshalFault.TheVariants.{Truncated, Padding, Boolean, Utf8, NulInText, Path, Signature, ArrayLength, Depth, Descriptor, NoMemory}

-- the number of a fault
abbrev pub fault_code : MarshalFault → ℕ
fault_code Truncated = 10
fault_code Padding = 11
fault_code Boolean = 12
fault_code Utf8 = 13
fault_code NulInText = 14
fault_code Path = 15
fault_code Signature = 16
fault_code ArrayLength = 17
fault_code Depth = 18
fault_code Descriptor = 19
fault_code NoMemory = 20

-- the first step, and then with what it gave the second, unless the first ended in a fault
infixl 10 ◌>>=◌
abbrev pub ◌>>=◌ : {A B : Type 0} → Result A MarshalFault → (A → Result B MarshalFault) → Result B MarshalFault
(Ok x) >>= f = f x
(Err e) >>= f = Err e

-- What a function returned, seen by view, is this outcome.
abbrev pub Tells : {X Y : Type 0} → (X → Y) → Result X MarshalFault → Result Y MarshalFault → Type 0
Tells view (Ok x) outcome = outcome ≡ Ok (view x)
Tells view (Err e) outcome = outcome ≡ Err e

-- The fault is that of the outcome, unless memory ran out.
abbrev pub Fails : {Y : Type 0} → MarshalFault → Result Y MarshalFault → Type 0
Fails e outcome = e ≢ NoMemory → outcome ≡ Err e

-- What a function returned, seen by view, is this outcome, unless memory ran out.
abbrev pub Gives : {X Y : Type 0} → (X → Y) → Result X MarshalFault → Result Y MarshalFault → Type 0
Gives view (Ok x) outcome = outcome ≡ Ok (view x)
Gives view (Err e) outcome = Fails e outcome
