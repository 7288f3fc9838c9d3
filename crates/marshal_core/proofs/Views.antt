-- What a type is to a clause, variant by variant.
use Rattle.std.proofs.Common.{◌≡◌, ap, sym, ◌∙◌}
use Rattle.std.specs.Global.{Vec, Box}
use Rattle.marshal_core.specs.declared.data_type.BasicType.{BasicType}
use Rattle.marshal_core.specs.declared.data_type.DataType.{DataType, Basic, Variant}
use Rattle.marshal_core.specs.declared.data_type.DataType.TheViews as of
use Rattle.marshal_core.specs.declared.data_type.DataType.TheVariants.{rolls-Basic, rolls-Variant, rolls-Array, rolls-Dictionary, rolls-Struct}
use Rattle.marshal_core.specs.declared.data_type.DataType.TheOpen as forms
use Rattle.marshal_core.specs.declared.data_type.DataType.TheFolds.{fold-roll-DataType}
use Rattle.marshal_core.specs.Types.{Ty, ty_step, ty_of, types_of, basic, variant, array, entry, struct}

pub ty_basic : (x : DataType) (b : BasicType) → x ≡ Basic b → ty_of x ≡ basic b
ty_basic x b e = ap ty_of (e ∙ sym (rolls-Basic b)) ∙ fold-roll-DataType Ty ty_step (forms.Basic b)

pub ty_variant : (x : DataType) → x ≡ Variant → ty_of x ≡ variant
ty_variant x e = ap ty_of (e ∙ sym rolls-Variant) ∙ fold-roll-DataType Ty ty_step forms.Variant

pub ty_array : (x : DataType) (b : Box DataType) → x ≡ of.Array b → ty_of x ≡ array (ty_of b.value)
ty_array x b e = ap ty_of (e ∙ sym (rolls-Array b)) ∙ fold-roll-DataType Ty ty_step (forms.Array b)

pub ty_dictionary : (x : DataType) (k : BasicType) (b : Box DataType) → x ≡ of.Dictionary k b → ty_of x ≡ array (entry k (ty_of b.value))
ty_dictionary x k b e = ap ty_of (e ∙ sym (rolls-Dictionary k b)) ∙ fold-roll-DataType Ty ty_step (forms.Dictionary k b)

pub ty_struct : (x : DataType) (b : Vec DataType) → x ≡ of.Struct b → ty_of x ≡ struct (types_of b.items)
ty_struct x b e = ap ty_of (e ∙ sym (rolls-Struct b)) ∙ fold-roll-DataType Ty ty_step (forms.Struct b)
