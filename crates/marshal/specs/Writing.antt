-- Writing values from left to right, with the first fault that is met, after "Marshaling (Wire Format)" of the D-Bus Specification.
-- Each writer is given the place where the bytes begin and those that stand there so far, and gives all of them.
use Rattle.std.specs.Prelude.{ℕ, ◌+◌, ◌-◌, ◌%◌, ◌^◌, ℤ, pos, negsuc, List, [], ◌++◌, length, Option, Some, None, Result, Ok, Err, nat_lt, ◌==◌, if◌then◌else◌}
use Rattle.std.specs.Int.{w32}
use Rattle.names.specs.Texts.{text_eq}
use Rattle.marshal_core.specs.declared.fault.MarshalFault.{MarshalFault}
use Rattle.marshal_core.specs.declared.fault.MarshalFault.TheVariants.{Signature, ArrayLength, Depth}
use Rattle.marshal_core.specs.declared.order.Order.{Order}
use Rattle.marshal_core.specs.Types.{Ty, basic, variant, array, entry, struct, Tys, no_types, more_types, one_type}
use Rattle.marshal_core.specs.Values.{BasicVal, a_byte, a_boolean, an_int16, a_uint16, an_int32, a_uint32, an_int64, a_uint64, a_double, a_string, an_object_path, a_signature, basic_type, Val, a_basic, a_variant, an_array, an_entry, a_struct, Vals, no_values, more_values}
use Rattle.marshal_core.specs.Faults.{◌>>=◌}
pub use Rattle.marshal_core.specs.TextFaults.{string_fault, path_named, path_fault_after}
use Rattle.marshal_core.specs.Signatures.{code, codes, has_types, is_signature, signature_of}
use Rattle.marshal_core.specs.Spelling.{alignment, pads, number_spelling, signature_spelling, after_length, first_place, basic_spelling, max_array_length, max_container_depth}

abbrev pub Written : Type 0
Written = Result (List ℕ) MarshalFault

-- the first step, and then the second with what it gave
abbrev pub and_then : {A B : Type 0} → Result A MarshalFault → (A → Result B MarshalFault) → Result B MarshalFault
and_then r f = r >>= f

-- ---- the types of values

abbrev mutual
  pub type_of : Val → Ty
  type_of (a_basic v) = basic (basic_type v)
  type_of (a_variant v) = variant
  type_of (an_array t vs) = array t
  type_of (an_entry k v) = entry (basic_type k) (type_of v)
  type_of (a_struct vs) = struct (types_of_values vs)

  pub types_of_values : Vals → Tys
  types_of_values no_values = no_types
  types_of_values (more_values v vs) = more_types (type_of v) (types_of_values vs)

-- ---- basic values

-- a number is below its limit
abbrev pub number_fault : ℕ → ℕ → Option MarshalFault
number_fault limit n = if nat_lt n limit then None else Some Signature

abbrev pub signed_fault : ℕ → ℤ → Option MarshalFault
signed_fault limit (pos n) = number_fault limit n
signed_fault limit (negsuc n) = number_fault limit n

-- why the value is none that its type has
abbrev pub basic_fault : BasicVal → Option MarshalFault
basic_fault (a_byte n) = number_fault (2 ^ 8) n
basic_fault (a_boolean b) = None
basic_fault (an_int16 z) = signed_fault (2 ^ 15) z
basic_fault (a_uint16 n) = number_fault (2 ^ 16) n
basic_fault (an_int32 z) = signed_fault (2 ^ 31) z
basic_fault (a_uint32 n) = number_fault (2 ^ 32) n
basic_fault (an_int64 z) = signed_fault (2 ^ 63) z
basic_fault (a_uint64 n) = number_fault (2 ^ 64) n
basic_fault (a_double eight) = if length eight == 8 then None else Some Signature
basic_fault (a_string text) = string_fault text
basic_fault (an_object_path text) = path_fault_after (string_fault text) text
basic_fault (a_signature ts) = if is_signature ts then None else Some Signature

abbrev pub unless_fault : Option MarshalFault → List ℕ → Written
unless_fault None out = Ok out
unless_fault (Some fault) out = Err fault

unfoldable pub basic_written : Order → ℕ → BasicVal → List ℕ → Written
basic_written order at v out = unless_fault (basic_fault v) (out ++ basic_spelling order (at + length out) v)

-- ---- containers

abbrev pub padded : ℕ → ℕ → List ℕ → List ℕ
padded align at out = out ++ pads align (at + length out)

-- the length, the padding to the first element, and the elements
abbrev pub array_bytes : Order → ℕ → ℕ → List ℕ → List ℕ
array_bytes order align at inside = number_spelling order w32 at (length inside) ++ (pads align (after_length at) ++ inside)

unfoldable pub array_written : Order → ℕ → ℕ → List ℕ → List ℕ → Written
array_written order align at out inside = if nat_lt max_array_length (length inside) then Err ArrayLength else Ok (out ++ array_bytes order align (at + length out) inside)

-- the signature of a variant, which has the type of its value
unfoldable pub variant_type_written : Ty → List ℕ → Written
variant_type_written t out = signature_of (code t) >>= λ ts. Ok (out ++ signature_spelling (one_type t))

-- One value, where so many containers may stand about one another.
abbrev mutual
  pub value_written : Val → ℕ → Order → ℕ → List ℕ → Written
  value_written (a_basic v) depth order at out = basic_written order at v out
  value_written (a_variant v) depth order at out =
      if depth == 0 then Err Depth
      else (variant_type_written (type_of v) out >>= λ head. value_written v (depth - 1) order at head)
  value_written (an_array t vs) depth order at out =
      if depth == 0 then Err Depth
      else (elements_written vs (depth - 1) order (first_place t (at + length out) % 8) t [] >>= λ inside. array_written order (alignment t) at out inside)
  value_written (an_entry k v) depth order at out =
      if depth == 0 then Err Depth
      else (basic_written order at k (padded 8 at out) >>= λ key. value_written v (depth - 1) order at key)
  value_written (a_struct vs) depth order at out =
      if depth == 0 then Err Depth
      else if has_types (types_of_values vs) then fields_written vs (depth - 1) order at (padded 8 at out)
      else Err Signature

  -- one after the other, all of one type
  pub elements_written : Vals → ℕ → Order → ℕ → Ty → List ℕ → Written
  elements_written no_values depth order at t out = Ok out
  elements_written (more_values v vs) depth order at t out =
      if text_eq (code (type_of v)) (code t) then (value_written v depth order at out >>= λ more. elements_written vs depth order at t more)
      else Err Signature

  -- one after the other, each of its type
  pub fields_written : Vals → ℕ → Order → ℕ → List ℕ → Written
  fields_written no_values depth order at out = Ok out
  fields_written (more_values v vs) depth order at out = value_written v depth order at out >>= λ more. fields_written vs depth order at more

-- The values from this offset of the message on. Padding depends on its remainder by 8 alone.
abbrev pub encode_at : Order → ℕ → Vals → Written
encode_at order offset vs = signature_of (codes (types_of_values vs)) >>= λ ts. fields_written vs max_container_depth order (offset % 8) []
