-- Names and paths are strings.
use Rattle.std.proofs.Common.{◌≡◌, ◌==◌, false, [], ◌∷◌, refl, ap, ◌∙◌, arith}
use Rattle.std.specs.Prelude.{◌||◌, Bool, IsUtf8}
use Rattle.names.specs.Texts.{Text, has_zero as has_zero_byte}
use Rattle.names.specs.Interface.{IsInterface}
use Rattle.names.specs.Member.{IsMember}
use Rattle.names.specs.ObjectPath.{IsObjectPath}
use Rattle.names.specs.BusName.{IsBusName}
use Rattle.names.proofs.Plain.{bus_name_plain, interface_plain, member_plain, object_path_plain}
use Rattle.marshal_core.specs.Spelling.{has_zero, IsString}

same : (text : Text) → has_zero text ≡ has_zero_byte text
same [] = refl
same (b ∷ text) = ap (λ (rest : Bool). b == 0 || rest) (same text)

pub interface_not_zero : (name : Text) → IsInterface name → has_zero name ≡ false
interface_not_zero name is = same name ∙ (interface_plain name is).1.1

pub member_not_zero : (name : Text) → IsMember name → has_zero name ≡ false
member_not_zero name is = same name ∙ (member_plain name is).1.1

pub name_not_zero : (name : Text) → IsBusName name → has_zero name ≡ false
name_not_zero name is = same name ∙ (bus_name_plain name is).1.1

pub path_not_zero : (path : Text) → IsObjectPath path → has_zero path ≡ false
path_not_zero path is = same path ∙ (object_path_plain path is).1

pub name_string : (name : Text) → IsBusName name → IsUtf8 name → IsString name
name_string name is utf8 = (omega (arith, (bus_name_plain name is).0), utf8, name_not_zero name is)
