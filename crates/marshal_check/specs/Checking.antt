-- Reading that keeps no values: what a function returned beside what reading gives.
use Rattle.std.specs.Prelude.{◌≡◌, ℕ, Bool, true, List, [], ◌∷◌, Result, Ok, Err, ◌==◌}
use Rattle.marshal_core.specs.declared.fault.MarshalFault.{MarshalFault}
use Rattle.marshal_core.specs.Types.{Ty}
use Rattle.marshal_core.specs.Signatures.{code, struct_end}
use Rattle.marshal_core.specs.Reading.{Field}

-- What is read is something, the place after it and the bytes there, of which a function returned the last two; or it is the same fault.
abbrev pub Skips : {X A : Type 0} → (X → ℕ × List ℕ) → Result X MarshalFault → Field A → Type 0
Skips {A = A} view (Ok x) read = (a : A) × (read ≡ Ok (a, (view x).0, (view x).1))
Skips view (Err e) read = read ≡ Err e

-- The same of what stands beside something that is not kept.
abbrev pub Leaves : {X A Y : Type 0} → (X → Y) → Result X MarshalFault → Result (A × Y) MarshalFault → Type 0
Leaves {A = A} view (Ok x) read = (a : A) × (read ≡ Ok (a, view x))
Leaves view (Err e) read = read ≡ Err e

-- Something is read, or there is the same fault.
abbrev pub Ends : {X A : Type 0} → Result X MarshalFault → Result A MarshalFault → Type 0
Ends {A = A} (Ok x) read = (a : A) × (read ≡ Ok a)
Ends (Err e) read = read ≡ Err e

-- The same of a type, whose text a function returned beside the place and the bytes after it.
abbrev pub HoldsType : {X : Type 0} → (X → List ℕ × ℕ × List ℕ) → Result X MarshalFault → Field Ty → Type 0
HoldsType view (Ok x) read = (t : Ty) × (read ≡ Ok (t, (view x).1, (view x).2)) × ((view x).0 ≡ code t)
HoldsType view (Err e) read = read ≡ Err e

-- No further type stands before the end of a signature or of a struct.
abbrev pub is_end : List ℕ → Bool
is_end [] = true
is_end (c ∷ cs) = c == struct_end
