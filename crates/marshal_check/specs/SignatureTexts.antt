-- The types that the text of a signature spells, after "Valid Signatures" of the D-Bus Specification.
use Rattle.std.specs.Prelude.{◌≡◌, ℕ, Bool, List, [], ◌∷◌, Option, Some, None, Result, Ok, Err, is_ok}
use Rattle.marshal_core.specs.declared.data_type.BasicType.{BasicType}
use Rattle.marshal_core.specs.declared.data_type.BasicType.TheVariants.{Byte, Boolean, Int16, Uint16, Int32, Uint32, Int64, Uint64, Double, String, ObjectPath, Signature}
use Rattle.marshal_core.specs.declared.fault.MarshalFault.{MarshalFault}
use Rattle.marshal_core.specs.Types.{Ty, basic, variant, array, entry, struct, Tys, no_types, more_types, one_type}
use Rattle.marshal_core.specs.Signatures.{signature_of}

-- The text is a signature.
abbrev pub is_signature_text : List ℕ → Bool
is_signature_text text = is_ok (signature_of text)

abbrev pub types_or_none : Result Tys MarshalFault → Tys
types_or_none (Ok ts) = ts
types_or_none (Err e) = no_types

-- its types
abbrev pub types_in : List ℕ → Tys
types_in text = types_or_none (signature_of text)

-- the first of them, alone, and the others
abbrev pub BeginsWith : Tys → Tys → Tys → Type 0
BeginsWith ts first others = (t : Ty) × (first ≡ one_type t) × (ts ≡ more_types t others)

-- each of them alone
abbrev pub each_alone : Tys → List Tys
each_alone no_types = []
each_alone (more_types t ts) = one_type t ∷ each_alone ts

-- how many bytes a value of a basic type has, where any bytes so many are one
abbrev pub free_size : BasicType → Option ℕ
free_size Byte = Some 1
free_size Boolean = None
free_size Int16 = Some 2
free_size Uint16 = Some 2
free_size Int32 = Some 4
free_size Uint32 = Some 4
free_size Int64 = Some 8
free_size Uint64 = Some 8
free_size Double = Some 8
free_size String = None
free_size ObjectPath = None
free_size Signature = None

abbrev pub free_size_of : Ty → Option ℕ
free_size_of (basic b) = free_size b
free_size_of variant = None
free_size_of (array t) = None
free_size_of (entry k t) = None
free_size_of (struct ts) = None
