-- The arguments of a message: the values of its body, of which match rules look at the texts ("Match Rules" of the D-Bus Specification).
use Rattle.std.specs.Prelude.{ℕ, Bool, List, [], ◌∷◌, Ok, Err, is_ok}
use Rattle.names.specs.Texts.{Text}
use Rattle.marshal_core.specs.declared.fault.MarshalFault.TheVariants.{Truncated}
use Rattle.marshal_core.specs.declared.order.Order.{Order}
use Rattle.marshal_core.specs.Types.{Tys, no_types, more_types}
use Rattle.marshal_core.specs.Values.{BasicVal, a_byte, a_boolean, an_int16, a_uint16, an_int32, a_uint32, an_int64, a_uint64, a_double, a_string, an_object_path, a_signature, Val, a_basic, a_variant, an_array, an_entry, a_struct, Vals, no_values, more_values}
use Rattle.marshal_core.specs.Spelling.{max_container_depth}
use Rattle.marshal_core.specs.Reading.{Field, fields_at, value_at}

pub data BodyArgument : Type 0 where
  string_argument : Text → BodyArgument
  path_argument : Text → BodyArgument
  other_argument : BodyArgument

abbrev pub basic_argument : BasicVal → BodyArgument
basic_argument (a_byte n) = other_argument
basic_argument (a_boolean b) = other_argument
basic_argument (an_int16 z) = other_argument
basic_argument (a_uint16 n) = other_argument
basic_argument (an_int32 z) = other_argument
basic_argument (a_uint32 n) = other_argument
basic_argument (an_int64 z) = other_argument
basic_argument (a_uint64 n) = other_argument
basic_argument (a_double eight) = other_argument
basic_argument (a_string text) = string_argument text
basic_argument (an_object_path text) = path_argument text
basic_argument (a_signature ts) = other_argument

abbrev pub argument_of : Val → BodyArgument
argument_of (a_basic v) = basic_argument v
argument_of (a_variant v) = other_argument
argument_of (an_array t vs) = other_argument
argument_of (an_entry k v) = other_argument
argument_of (a_struct vs) = other_argument

abbrev pub arguments : Vals → List BodyArgument
arguments no_values = []
arguments (more_values v vs) = argument_of v ∷ arguments vs

abbrev pub then_others : (ℕ → List ℕ → List BodyArgument) → Field Val → List BodyArgument
then_others others (Ok v) = argument_of v.0 ∷ others v.1 v.2
then_others others (Err e) = []

-- the arguments of these types, up to the first that bytes do not spell
abbrev pub arguments_at : Order → Tys → ℕ → List ℕ → List BodyArgument
arguments_at order no_types at bytes = []
arguments_at order (more_types t ts) at bytes = then_others (arguments_at order ts) (value_at max_container_depth order Truncated t at bytes)

-- the bytes at a place begin with values of these types
abbrev pub are_there : Order → Tys → ℕ → List ℕ → Bool
are_there order ts at bytes = is_ok (fields_at (value_at max_container_depth order) Truncated ts at bytes)
