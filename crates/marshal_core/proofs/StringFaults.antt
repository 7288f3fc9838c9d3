-- A text is a string exactly where it has no fault.
use Rattle.std.proofs.Common.{◌≡◌, ◌^◌, ◌==◌, ◌||◌, None, Ok, [], ◌∷◌, length, nat_eq, refl, sym, ap, ◌∙◌}
use Rattle.std.specs.List.{list_any}
use Rattle.std.proofs.lemmas.Str.{is_utf8-from_IsUtf8}
use Rattle.names.specs.Texts.{Text, has_zero}
use Rattle.names.specs.ObjectPath.{IsObjectPath}
use Rattle.names.proofs.Faults.{object_path_none}
use Rattle.marshal_core.specs.Values.{an_object_path}
use Rattle.marshal_core.specs.Spelling.{IsString}
use Rattle.marshal_core.specs.TextFaults.{path_fault_after, string_fault, unless}
use Rattle.marshal_core.proofs.Results.{leb_false}

pub string_none : (text : Text) → IsString text → string_fault text ≡ None
string_none text h = rw (leb_false (2 ^ 32) (length text) h.0, h.2, is_utf8-from_IsUtf8 text h.1) refl

pub any_zero : (text : Text) → list_any (λ b. nat_eq b 0) text ≡ has_zero text
any_zero [] = refl
any_zero (b ∷ text) = ap (λ rest. (b == 0) || rest) (any_zero text)

pub path_value : (path text copy : Text) → text ≡ path → None ≡ string_fault text → IsObjectPath path → copy ≡ text →
    unless (path_fault_after (string_fault path) path) (an_object_path path) ≡ Ok (an_object_path copy)
path_value path text copy same fine is copied =
    let none : string_fault path ≡ None = sym (ap string_fault same) ∙ sym fine in
    rw (none, object_path_none path is, copied, same) refl
