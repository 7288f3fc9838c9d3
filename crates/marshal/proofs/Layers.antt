-- A value by its type and how many containers may still stand in one another.
use Rattle.std.proofs.Common.{◌≡◌, ℕ, zero, suc, ◌-◌, ◌<◌, List, [], ◌∷◌, length, Err, refl, arith}
use Rattle.marshal_core.specs.declared.data_type.BasicType.{BasicType}
use Rattle.marshal_core.specs.declared.fault.MarshalFault.{MarshalFault}
use Rattle.marshal_core.specs.declared.fault.MarshalFault.TheVariants.{Depth, Signature}
use Rattle.marshal_core.specs.declared.order.Order.{Order}
use Rattle.marshal_core.specs.Types.{Ty, basic, variant, array, entry, struct, Tys, types}
use Rattle.marshal_core.specs.Values.{a_basic}
use Rattle.marshal_core.specs.Reading.{Reader, as_a, basic_at, variant_at, array_at, entry_at, struct_at, struct_fields_at, layer, value_at}

pub value_basic : (d : ℕ) (order : Order) (short : MarshalFault) (b : BasicType) (at : ℕ) (bytes : List ℕ) → value_at d order short (basic b) at bytes ≡ as_a a_basic (basic_at order short b at bytes)
unfolding value_at layer
value_basic zero order short b at bytes = refl
value_basic (suc d) order short b at bytes = refl

pub value_variant : (d : ℕ) (order : Order) (short : MarshalFault) (at : ℕ) (bytes : List ℕ) → 0 < d → value_at d order short variant at bytes ≡ variant_at (value_at (d - 1) order) short at bytes
unfolding value_at layer
value_variant zero order short at bytes h = absurd (omega arith)
value_variant (suc d) order short at bytes h = let e : suc d - 1 ≡ d = omega arith in rw e refl

pub value_array : (d : ℕ) (order : Order) (short : MarshalFault) (t : Ty) (at : ℕ) (bytes : List ℕ) → 0 < d → value_at d order short (array t) at bytes ≡ array_at (value_at (d - 1) order) order short t at bytes
unfolding value_at layer
value_array zero order short t at bytes h = absurd (omega arith)
value_array (suc d) order short t at bytes h = let e : suc d - 1 ≡ d = omega arith in rw e refl

pub value_entry : (d : ℕ) (order : Order) (short : MarshalFault) (b : BasicType) (t : Ty) (at : ℕ) (bytes : List ℕ) → 0 < d → value_at d order short (entry b t) at bytes ≡ entry_at (value_at (d - 1) order) order short b t at bytes
unfolding value_at layer
value_entry zero order short b t at bytes h = absurd (omega arith)
value_entry (suc d) order short b t at bytes h = let e : suc d - 1 ≡ d = omega arith in rw e refl

pub value_struct : (d : ℕ) (order : Order) (short : MarshalFault) (ts : Tys) (at : ℕ) (bytes : List ℕ) → 0 < d → value_at d order short (struct ts) at bytes ≡ struct_at (value_at (d - 1) order) short ts at bytes
unfolding value_at layer
value_struct zero order short ts at bytes h = absurd (omega arith)
value_struct (suc d) order short ts at bytes h = let e : suc d - 1 ≡ d = omega arith in rw e refl

-- ---- one container too many

pub deep_variant : (d : ℕ) (order : Order) (short : MarshalFault) (at : ℕ) (bytes : List ℕ) → d ≡ 0 → value_at d order short variant at bytes ≡ Err Depth
unfolding value_at layer
deep_variant d order short at bytes h = rw h refl

pub deep_array : (d : ℕ) (order : Order) (short : MarshalFault) (t : Ty) (at : ℕ) (bytes : List ℕ) → d ≡ 0 → value_at d order short (array t) at bytes ≡ Err Depth
unfolding value_at layer
deep_array d order short t at bytes h = rw h refl

pub deep_entry : (d : ℕ) (order : Order) (short : MarshalFault) (b : BasicType) (t : Ty) (at : ℕ) (bytes : List ℕ) → d ≡ 0 → value_at d order short (entry b t) at bytes ≡ Err Depth
unfolding value_at layer
deep_entry d order short b t at bytes h = rw h refl

pub deep_struct : (d : ℕ) (order : Order) (short : MarshalFault) (ts : Tys) (at : ℕ) (bytes : List ℕ) → d ≡ 0 → value_at d order short (struct ts) at bytes ≡ Err Depth
unfolding value_at layer
deep_struct d order short ts at bytes h = rw h refl

-- ---- structs

pub no_fields : (read : Reader) (short : MarshalFault) (ts : List Ty) (at : ℕ) (bytes : List ℕ) → length ts ≡ 0 → struct_at read short (types ts) at bytes ≡ Err Signature
unfolding struct_at
no_fields read short [] at bytes h = refl
no_fields read short (t ∷ ts) at bytes h = absurd (omega arith)

pub some_fields : (read : Reader) (short : MarshalFault) (ts : List Ty) (at : ℕ) (bytes : List ℕ) → 0 < length ts → struct_at read short (types ts) at bytes ≡ struct_fields_at read short (types ts) at bytes
unfolding struct_at
some_fields read short [] at bytes h = absurd (omega arith)
some_fields read short (t ∷ ts) at bytes h = refl
