-- Fields that are put one after the other.
use Rattle.std.proofs.Common.{◌≡◌, ℕ, ◌+◌, ◌<◌, ◌^◌, Bool, false, List, [], ◌∷◌, ◌++◌, length, nat_eq, Result, Ok, Err, OnOk, sym, ap, subst, ◌∙◌, append_assoc, arith}
use Rattle.std.specs.Prelude.{replicate, IsUtf8}
use Rattle.std.specs.List.{list_any}
use Rattle.std.proofs.lemmas.List.{length-append, append-nil}
use Rattle.names.specs.ObjectPath.{IsObjectPath}
use Rattle.marshal_core.specs.declared.order.Order.{Order}
use Rattle.marshal_core.specs.Types.{Ty, basic, variant, array, entry, struct, Tys, no_types, more_types}
use Rattle.marshal_core.specs.Values.{BasicVal, a_string, an_object_path, a_signature}
use Rattle.marshal_core.specs.Signatures.{code, codes, IsSignature}
use Rattle.marshal_core.specs.Spelling.{IsBasicValue, IsString, ended, pads, pad_len}
use Rattle.message_core.specs.declared.header_field.HeaderField.{HeaderField}
use Rattle.message_core.specs.declared.header_field.HeaderField.TheVariants as field
use Rattle.message_core.specs.Kinds.{code_of}
use Rattle.message_core.specs.HeaderFields.{Field}
use Rattle.message_core.specs.BasicFields.{basic_field}
use Rattle.message_core.specs.Headers.{AreWritten, known_field, signature_field, text_field_bytes}
use Rattle.message_core.specs.Places.{SpellField}
use Rattle.message_core.proofs.Strings.{has_zero_any}
use Rattle.message_core.proofs.Shape.{basic_spelled, padded_spelled}
use Rattle.message_core.proofs.Walking.{elements_last}

code_small : (k : HeaderField) → code_of k < 256
code_small field.Path = omega arith
code_small field.Interface = omega arith
code_small field.Member = omega arith
code_small field.ErrorName = omega arith
code_small field.ReplySerial = omega arith
code_small field.Destination = omega arith
code_small field.Sender = omega arith
code_small field.Signature = omega arith
code_small field.UnixFds = omega arith

-- one field more
pub one_more : (order : Order) (sent : List Field) (k : HeaderField) (v : BasicVal) (old new : List ℕ) → IsBasicValue v → AreWritten order sent old → new ≡ old ++ (pads 8 (length old) ++ basic_field order (code_of k) v)
    → AreWritten order (sent ++ known_field k v ∷ []) new
one_more order sent k v old new is h e =
    let at : ℕ = 16 + length old in
    let gap : pads 8 (length old) ≡ pads 8 at = ap (λ (n : ℕ). replicate n 0) (omega arith) in
    let bytes : List ℕ = basic_field order (code_of k) v in
    let spelled : SpellField order at (known_field k v) (pads 8 at ++ bytes) = padded_spelled order at (known_field k v) bytes (basic_spelled order (at + pad_len 8 at) (code_of k) v (omega arith) (code_small k) is) in
    subst (AreWritten order (sent ++ known_field k v ∷ [])) (ap (λ (x : List ℕ). old ++ (x ++ bytes)) (sym gap) ∙ sym e) (elements_last order 16 sent (known_field k v) old (pads 8 at ++ bytes) h spelled)

-- a text, its start, its length and its end, put one after the other
pub text_put : (old pad start word text new : List ℕ) → new ≡ (((old ++ (pad ++ start)) ++ word) ++ text) ++ 0 ∷ [] → new ≡ old ++ (pad ++ start ++ (word ++ ended text))
text_put old pad start word text new e =
    e ∙ append_assoc ((old ++ (pad ++ start)) ++ word) text (0 ∷ []) ∙ append_assoc (old ++ (pad ++ start)) word (ended text) ∙ append_assoc old (pad ++ start) (word ++ ended text)

pub is_string : (text : List ℕ) (answer : Bool) → length text < 2 ^ 32 → IsUtf8 text → answer ≡ list_any (λ y. nat_eq y 0) text → answer ≡ false → IsString text
is_string text answer small utf8 e no_zero = (small, utf8, sym (has_zero_any text) ∙ sym e ∙ no_zero)

-- the same bytes as a field
pub text_bytes : (old pad start rest new : List ℕ) → new ≡ old ++ (pad ++ start ++ rest) → new ≡ old ++ (pad ++ (start ++ rest))
text_bytes old pad start rest new e = e ∙ ap (λ (x : List ℕ). old ++ x) (append_assoc pad start rest)

-- a signature
pub one_signature : (order : Order) (types : Tys) (sent : List Field) (text old new : List ℕ) → 0 < length text → text ≡ codes types → IsSignature types → AreWritten order sent old
    → new ≡ (((old ++ (pads 8 (length old) ++ (8 ∷ 1 ∷ 103 ∷ 0 ∷ []))) ++ length text ∷ []) ++ text) ++ 0 ∷ [] → AreWritten order (sent ++ signature_field types) new
one_signature order no_types sent text old new long e valid h n = absurd (omega (arith, ap length e))
one_signature order (more_types t ts) sent text old new long e valid h n =
    let types : Tys = more_types t ts in
    let put : new ≡ old ++ (pads 8 (length old) ++ (8 ∷ 1 ∷ 103 ∷ 0 ∷ []) ++ ((length text ∷ []) ++ ended text)) = text_put old (pads 8 (length old)) (8 ∷ 1 ∷ 103 ∷ 0 ∷ []) (length text ∷ []) text new n in
    one_more order sent field.Signature (a_signature types) old new valid h
    (text_bytes old (pads 8 (length old)) (8 ∷ 1 ∷ 103 ∷ 0 ∷ []) (length text ∷ ended text) new put ∙ ap (λ (x : List ℕ). old ++ (pads 8 (length old) ++ (8 ∷ 1 ∷ 103 ∷ 0 ∷ length x ∷ ended x))) e)

code_long : (t : Ty) → 0 < length (code t)
code_long (basic b) = omega arith
code_long variant = omega arith
code_long (array t) = omega arith
code_long (entry k t) = omega arith
code_long (struct ts) = omega arith

-- no signature
pub no_signature : (order : Order) (types : Tys) (sent : List Field) (text old : List ℕ) → length text ≡ 0 → text ≡ codes types → IsSignature types → AreWritten order sent old → AreWritten order (sent ++ signature_field types) old
no_signature order no_types sent text old short e valid h = subst (λ (x : List Field). AreWritten order x old) (sym (append-nil sent)) h
no_signature order (more_types t ts) sent text old short e valid h = absurd (omega (arith, short, ap length e, length-append (code t) (codes ts), code_long t))

pub both_ok : {A E P Q R : Type 0} → (r : Result A E) → (P → Q → R) → OnOk r P → OnOk r Q → OnOk r R
both_ok (Ok x) f p q = f p q
both_ok (Err e) f p q = tt

abbrev Put : HeaderField → ℕ → Order → List ℕ → List ℕ → List ℕ → Type 0
Put k letter order t old new = new ≡ old ++ (pads 8 (length old) ++ text_field_bytes order k letter t)

pub path_put : (order : Order) (sent : List Field) (t path old new : List ℕ) → t ≡ path → IsObjectPath path → AreWritten order sent old → Put field.Path 111 order t old new → IsString t
    → AreWritten order (sent ++ known_field field.Path (an_object_path path) ∷ []) new
path_put order sent t path old new e is h put string =
    subst (λ (x : List ℕ). AreWritten order (sent ++ known_field field.Path (an_object_path x) ∷ []) new) e
    (one_more order sent field.Path (an_object_path t) old new (string, subst IsObjectPath (sym e) is) h put)

pub name_put : (order : Order) (sent : List Field) (k : HeaderField) (t name old new : List ℕ) → t ≡ name → AreWritten order sent old → Put k 115 order t old new → IsString t
    → AreWritten order (sent ++ known_field k (a_string name) ∷ []) new
name_put order sent k t name old new e h put string =
    subst (λ (x : List ℕ). AreWritten order (sent ++ known_field k (a_string x) ∷ []) new) e
    (one_more order sent k (a_string t) old new string h put)
