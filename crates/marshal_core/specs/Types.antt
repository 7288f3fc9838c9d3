-- Types, after "Type System" of the D-Bus Specification.
use Rattle.std.specs.Prelude.{List, [], ◌∷◌, map}
use Rattle.marshal_core.specs.declared.data_type.BasicType.{BasicType}
use Rattle.marshal_core.specs.declared.data_type.DataType.{DataType}
use Rattle.marshal_core.specs.declared.data_type.DataType.TheOpen.{DataType-F}
use Rattle.marshal_core.specs.declared.data_type.DataType.TheOpen as forms
use Rattle.marshal_core.specs.declared.data_type.DataType.TheFolds.{fold-DataType}

-- A basic type is the one of the code; a container type is a variant, an array, a dict entry or a struct.
-- A dict entry has a key of a basic type. Where it may stand is said where types are valid.
mutual
  pub data Ty : Type 0 where
    basic : BasicType → Ty
    variant : Ty
    array : Ty → Ty
    entry : BasicType → Ty → Ty
    struct : Tys → Ty

  pub data Tys : Type 0 where
    no_types : Tys
    more_types : Ty → Tys → Tys

abbrev pub one_type : Ty → Tys
one_type t = more_types t no_types

abbrev pub types : List Ty → Tys
types [] = no_types
types (t ∷ ts) = more_types t (types ts)

-- what a type of the code is: a dictionary is an array of dict entries
abbrev pub ty_step : DataType-F Ty → Ty
ty_step (forms.Basic b) = basic b
ty_step forms.Variant = variant
ty_step (forms.Array t) = array t.value
ty_step (forms.Dictionary k t) = array (entry k t.value)
ty_step (forms.Struct ts) = struct (types ts.items)

abbrev pub ty_of : DataType → Ty
ty_of = fold-DataType Ty ty_step

abbrev pub types_of : List DataType → Tys
types_of ts = types (map ty_of ts)
