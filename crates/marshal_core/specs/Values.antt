-- Values, without where they lie in memory.
use Rattle.std.specs.Prelude.{ℕ, ℤ, Bool, List, [], ◌∷◌, map, string_bytes}
use Rattle.names.specs.Texts.{Text}
use Rattle.marshal_core.specs.declared.data_type.BasicType.{BasicType}
use Rattle.marshal_core.specs.declared.data_type.BasicType.TheVariants as of_type
use Rattle.marshal_core.specs.declared.value.BasicValue.{BasicValue}
use Rattle.marshal_core.specs.declared.value.BasicValue.TheVariants as basic_forms
use Rattle.marshal_core.specs.declared.value.Value.{Value}
use Rattle.marshal_core.specs.declared.value.Value.TheOpen.{Value-F}
use Rattle.marshal_core.specs.declared.value.Value.TheOpen as forms
use Rattle.marshal_core.specs.declared.value.Value.TheFolds.{fold-Value}
use Rattle.marshal_core.specs.Types.{Ty, entry, Tys, ty_of, types_of}

-- a value of a basic type; a double is its eight bytes
pub data BasicVal : Type 0 where
  a_byte : ℕ → BasicVal
  a_boolean : Bool → BasicVal
  an_int16 : ℤ → BasicVal
  a_uint16 : ℕ → BasicVal
  an_int32 : ℤ → BasicVal
  a_uint32 : ℕ → BasicVal
  an_int64 : ℤ → BasicVal
  a_uint64 : ℕ → BasicVal
  a_double : List ℕ → BasicVal
  a_string : Text → BasicVal
  an_object_path : Text → BasicVal
  a_signature : Tys → BasicVal

-- a value; an array keeps the type of its elements
mutual
  pub data Val : Type 0 where
    a_basic : BasicVal → Val
    a_variant : Val → Val
    an_array : Ty → Vals → Val
    an_entry : BasicVal → Val → Val
    a_struct : Vals → Val

  pub data Vals : Type 0 where
    no_values : Vals
    more_values : Val → Vals → Vals

abbrev pub values : List Val → Vals
values [] = no_values
values (v ∷ vs) = more_values v (values vs)

abbrev pub basic_type : BasicVal → BasicType
basic_type (a_byte n) = of_type.Byte
basic_type (a_boolean b) = of_type.Boolean
basic_type (an_int16 z) = of_type.Int16
basic_type (a_uint16 n) = of_type.Uint16
basic_type (an_int32 z) = of_type.Int32
basic_type (a_uint32 n) = of_type.Uint32
basic_type (an_int64 z) = of_type.Int64
basic_type (a_uint64 n) = of_type.Uint64
basic_type (a_double eight) = of_type.Double
basic_type (a_string text) = of_type.String
basic_type (an_object_path text) = of_type.ObjectPath
basic_type (a_signature ts) = of_type.Signature

-- ---- what a value of the code is

abbrev pub basic_of : BasicValue → BasicVal
basic_of (basic_forms.Byte n) = a_byte n
basic_of (basic_forms.Boolean b) = a_boolean b
basic_of (basic_forms.Int16 z) = an_int16 z
basic_of (basic_forms.Uint16 n) = a_uint16 n
basic_of (basic_forms.Int32 z) = an_int32 z
basic_of (basic_forms.Uint32 n) = a_uint32 n
basic_of (basic_forms.Int64 z) = an_int64 z
basic_of (basic_forms.Uint64 n) = a_uint64 n
basic_of (basic_forms.Double eight) = a_double eight
basic_of (basic_forms.String s) = a_string (string_bytes s)
basic_of (basic_forms.ObjectPath s) = an_object_path (string_bytes s)
basic_of (basic_forms.Signature s) = a_signature (types_of s.types.items)

-- an entry of a dictionary
abbrev pub entry_value : BasicValue × Val → Val
entry_value e = an_entry (basic_of e.0) e.1

-- a dictionary is an array of dict entries
abbrev pub val_step : Value-F Val → Val
val_step (forms.Basic b) = a_basic (basic_of b)
val_step (forms.Variant v) = a_variant v.value
val_step (forms.Array t vs) = an_array (ty_of t) (values vs.items)
val_step (forms.Dictionary k t es) = an_array (entry k (ty_of t)) (values (map entry_value es.items))
val_step (forms.Struct vs) = a_struct (values vs.items)

abbrev pub val_of : Value → Val
val_of = fold-Value Val val_step

abbrev pub entry_of : BasicValue × Value → Val
entry_of e = an_entry (basic_of e.0) (val_of e.1)

abbrev pub values_of : List Value → Vals
values_of vs = values (map val_of vs)
