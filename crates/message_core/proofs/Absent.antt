-- Values that bytes do not begin with.
use Rattle.std.proofs.Common.{◌≡◌, ℕ, ◌<◌, ◌^◌, Bool, true, false, List, [], ◌∷◌, ◌++◌, length, get_or, take, drop, Result, Ok, Err, is_ok, refl, sym, ap, subst, ◌∙◌, append_assoc}
use Rattle.std.specs.Prelude.{IsTrue}
use Rattle.std.specs.Int.{w32}
use Rattle.std.proofs.lemmas.List.{take_at}
use Rattle.names.specs.ObjectPath.{IsObjectPath}
use Rattle.marshal_core.specs.declared.data_type.BasicType.TheVariants as of_type
use Rattle.marshal_core.specs.declared.fault.MarshalFault.{MarshalFault}
use Rattle.marshal_core.specs.declared.order.Order.{Order}
use Rattle.marshal_core.specs.Types.{Tys}
use Rattle.marshal_core.specs.Values.{a_byte, a_boolean, an_int16, a_uint16, an_int32, a_uint32, an_int64, a_uint64, a_double, a_string, an_object_path, a_signature}
use Rattle.marshal_core.specs.Signatures.{codes, signature_of}
use Rattle.marshal_core.specs.Spelling.{ended, number_bytes}
use Rattle.marshal_core.proofs.TypesAgain.{signature_again}
use Rattle.message_core.specs.declared.header_field.HeaderField.{HeaderField}
use Rattle.message_core.specs.HeaderFields.{IsStringOf}
use Rattle.message_core.specs.BasicFields.{BeginsNoValue}
use Rattle.message_core.proofs.Strings.{text_met}

pub refuted : {P : Type 0} → (b : Bool) → b ≡ false → (P → IsTrue b) → P → ⊥
refuted true e f p = cc
refuted false e f p = let h : false ≡ true = f p in cc

abbrev BeginsString : Order → List ℕ → List ℕ → List ℕ → Type 0
BeginsString order text rest bytes = bytes ≡ number_bytes order w32 (length text) ++ (ended text ++ rest)

-- bytes begin with one string
pub one_string : (order : Order) (bytes text rest other more : List ℕ) → length text < 2 ^ 32 → length other < 2 ^ 32 → BeginsString order text rest bytes → BeginsString order other more bytes → text ≡ other
one_string order bytes text rest other more small fits e f =
    let m = text_met order text rest bytes small e in
    let k = text_met order other more bytes fits f in
    let long : length other ≡ length text = sym k.told ∙ m.told in
    sym (take_at text (0 ∷ rest) (length text) refl) ∙ ap (take (length text)) (sym m.behind ∙ k.behind) ∙ take_at other (0 ∷ more) (length text) long

-- a string that the field doesn't take
pub no_string_taken : (order : Order) (k : HeaderField) (bytes text rest : List ℕ) → length text < 2 ^ 32 → BeginsString order text rest bytes → (IsStringOf k text → ⊥) → BeginsNoValue order k of_type.String bytes
no_string_taken order k bytes text rest small e wrong (a_string found) more typed takes f =
    wrong (subst (IsStringOf k) (sym (one_string order bytes text rest found more small takes.is_value.0 e (f ∙ append_assoc (number_bytes order w32 (length found)) (ended found) more))) takes.taken)
no_string_taken order k bytes text rest small e wrong (a_byte n) more typed takes f = cc
no_string_taken order k bytes text rest small e wrong (a_boolean b) more typed takes f = cc
no_string_taken order k bytes text rest small e wrong (an_int16 z) more typed takes f = cc
no_string_taken order k bytes text rest small e wrong (a_uint16 n) more typed takes f = cc
no_string_taken order k bytes text rest small e wrong (an_int32 z) more typed takes f = cc
no_string_taken order k bytes text rest small e wrong (a_uint32 n) more typed takes f = cc
no_string_taken order k bytes text rest small e wrong (an_int64 z) more typed takes f = cc
no_string_taken order k bytes text rest small e wrong (a_uint64 n) more typed takes f = cc
no_string_taken order k bytes text rest small e wrong (a_double eight) more typed takes f = cc
no_string_taken order k bytes text rest small e wrong (an_object_path t) more typed takes f = cc
no_string_taken order k bytes text rest small e wrong (a_signature ts) more typed takes f = cc

-- a string that is no object path
pub no_path_taken : (order : Order) (k : HeaderField) (bytes text rest : List ℕ) → length text < 2 ^ 32 → BeginsString order text rest bytes → (IsObjectPath text → ⊥) → BeginsNoValue order k of_type.ObjectPath bytes
no_path_taken order k bytes text rest small e wrong (an_object_path found) more typed takes f =
    wrong (subst IsObjectPath (sym (one_string order bytes text rest found more small takes.is_value.0.0 e (f ∙ append_assoc (number_bytes order w32 (length found)) (ended found) more))) takes.is_value.1)
no_path_taken order k bytes text rest small e wrong (a_byte n) more typed takes f = cc
no_path_taken order k bytes text rest small e wrong (a_boolean b) more typed takes f = cc
no_path_taken order k bytes text rest small e wrong (an_int16 z) more typed takes f = cc
no_path_taken order k bytes text rest small e wrong (a_uint16 n) more typed takes f = cc
no_path_taken order k bytes text rest small e wrong (an_int32 z) more typed takes f = cc
no_path_taken order k bytes text rest small e wrong (a_uint32 n) more typed takes f = cc
no_path_taken order k bytes text rest small e wrong (an_int64 z) more typed takes f = cc
no_path_taken order k bytes text rest small e wrong (a_uint64 n) more typed takes f = cc
no_path_taken order k bytes text rest small e wrong (a_double eight) more typed takes f = cc
no_path_taken order k bytes text rest small e wrong (a_string t) more typed takes f = cc
no_path_taken order k bytes text rest small e wrong (a_signature ts) more typed takes f = cc

abbrev BeginsText : List ℕ → List ℕ → List ℕ → Type 0
BeginsText text rest bytes = bytes ≡ length text ∷ (ended text ++ rest)

given_both : (r : Result Tys MarshalFault) (ts : Tys) → is_ok r ≡ false → r ≡ Ok ts → ⊥
given_both (Ok x) ts h e = cc
given_both (Err x) ts h e = cc

-- a text that is no signature
pub no_signature_taken : (order : Order) (k : HeaderField) (bytes rest text : List ℕ) (n : ℕ) → bytes ≡ n ∷ rest → text ≡ take n rest → is_ok (signature_of text) ≡ false → BeginsNoValue order k of_type.Signature bytes
no_signature_taken order k bytes rest text n e et wrong (a_signature ts) more typed takes f =
    let found : List ℕ = codes ts in
    let both : n ∷ rest ≡ length found ∷ (ended found ++ more) = sym e ∙ f in
    let long : length found ≡ n = sym (ap (λ (x : List ℕ). get_or x 0 0) both) in
    let same : text ≡ found = et ∙ ap (λ (x : List ℕ). take n (drop 1 x)) both ∙ ap (take n) (append_assoc found (0 ∷ []) more) ∙ take_at found (0 ∷ more) n long in
    given_both (signature_of text) ts wrong (ap signature_of same ∙ signature_again ts takes.is_value)
no_signature_taken order k bytes rest text n e et wrong (a_byte m) more typed takes f = cc
no_signature_taken order k bytes rest text n e et wrong (a_boolean b) more typed takes f = cc
no_signature_taken order k bytes rest text n e et wrong (an_int16 z) more typed takes f = cc
no_signature_taken order k bytes rest text n e et wrong (a_uint16 m) more typed takes f = cc
no_signature_taken order k bytes rest text n e et wrong (an_int32 z) more typed takes f = cc
no_signature_taken order k bytes rest text n e et wrong (a_uint32 m) more typed takes f = cc
no_signature_taken order k bytes rest text n e et wrong (an_int64 z) more typed takes f = cc
no_signature_taken order k bytes rest text n e et wrong (a_uint64 m) more typed takes f = cc
no_signature_taken order k bytes rest text n e et wrong (a_double eight) more typed takes f = cc
no_signature_taken order k bytes rest text n e et wrong (a_string t) more typed takes f = cc
no_signature_taken order k bytes rest text n e et wrong (an_object_path t) more typed takes f = cc
