-- What a value is to a clause, variant by variant.
use Rattle.std.proofs.Common.{◌≡◌, List, [], ◌∷◌, map, ap, sym, ◌∙◌, refl}
use Rattle.std.specs.Global.{Vec}
use Rattle.marshal_core.specs.declared.data_type.BasicType.{BasicType}
use Rattle.marshal_core.specs.declared.data_type.DataType.{DataType}
use Rattle.marshal_core.specs.declared.value.BasicValue.{BasicValue}
use Rattle.marshal_core.specs.declared.value.Value.{Value}
use Rattle.marshal_core.specs.declared.value.Value.TheViews as of
use Rattle.marshal_core.specs.declared.value.Value.TheVariants.{rolls-Dictionary}
use Rattle.marshal_core.specs.declared.value.Value.TheOpen as forms
use Rattle.marshal_core.specs.declared.value.Value.TheFolds.{fold-roll-Value}
use Rattle.marshal_core.specs.Types.{ty_of, entry}
use Rattle.marshal_core.specs.Values.{Val, an_array, values, val_step, val_of, entry_of, entry_value}

seen_entries : (g : BasicValue × Value → BasicValue × Val) → ((e : BasicValue × Value) → entry_value (g e) ≡ entry_of e) → (es : List (BasicValue × Value)) → map entry_value (map g es) ≡ map entry_of es
seen_entries g h [] = refl
seen_entries g h (e ∷ es) = ap (λ (v : Val). v ∷ map entry_value (map g es)) (h e) ∙ ap (λ (vs : List Val). entry_of e ∷ vs) (seen_entries g h es)

pub val_dictionary : (k : BasicType) (t : DataType) (es : Vec (BasicValue × Value)) → val_of (of.Dictionary k t es) ≡ an_array (entry k (ty_of t)) (values (map entry_of es.items))
val_dictionary k t es = ap val_of (sym (rolls-Dictionary k t es)) ∙ fold-roll-Value Val val_step (forms.Dictionary k t es) ∙ ap (λ (vs : List Val). an_array (entry k (ty_of t)) (values vs)) (seen_entries _ (λ e. refl) es.items)
