-- One step of a writer.
use Rattle.std.proofs.Common.{◌≡◌, ℕ, ◌≤◌, ◌<◌, true, leb, List, [], ◌∷◌, length, Ok, refl, arith}
use Rattle.marshal_core.specs.declared.value.Value.{Value}
use Rattle.marshal_core.specs.Types.{Tys}
use Rattle.marshal_core.specs.Values.{values_of}
use Rattle.marshal_core.specs.Signatures.{codes, has_types, are_complete, max_array_nesting, max_struct_nesting, max_signature_length, signature_of}
use Rattle.marshal_core.proofs.Results.{both_true, leb-yes}
use Rattle.marshal_core.proofs.TypesTaken.{signature_takes}
use Rattle.marshal.specs.Writing.{types_of_values}

pub some_values : (vs : List Value) → 0 < length vs → has_types (types_of_values (values_of vs)) ≡ true
some_values [] h = absurd (omega arith)
some_values (v ∷ vs) h = refl

pub short : (text : List ℕ) (ts : Tys) → signature_of text ≡ Ok ts → length text ≤ 255
short text ts e =
    let p = signature_takes text ts e in
    let q = both_true (are_complete max_array_nesting max_struct_nesting ts) (leb (length (codes ts)) max_signature_length) p.0 in
    let n : length (codes ts) ≤ 255 = leb-yes _ _ q.1 in
    rw p.1 n
