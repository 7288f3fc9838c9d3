-- What stands at the places of fields.
use Rattle.std.proofs.Common.{◌≡◌, ℕ, ◌+◌, ◌-◌, ◌≤◌, Bool, true, false, List, [], ◌∷◌, ◌++◌, length, take, drop, Option, Some, None, refl, sym, ap, subst, ◌∙◌, arith, inl, inr}
use Rattle.std.specs.Prelude.{◌⊎◌, ◌==◌, IsUtf8, if◌then◌else◌}
use Rattle.std.specs.Int.{w32, from_le_bytes, from_be_bytes}
use Rattle.std.proofs.lemmas.List.{take_at, drop_at, length-append, take-take, drop-drop, drop-take, append-nil}
use Rattle.marshal_core.specs.declared.order.Order.{Order}
use Rattle.marshal_core.specs.declared.order.Order.TheVariants.{Little, Big}
use Rattle.marshal_core.specs.Types.{Tys}
use Rattle.marshal_core.specs.Values.{BasicVal, a_byte, a_boolean, an_int16, a_uint16, an_int32, a_uint32, an_int64, a_uint64, a_double, a_string, an_object_path, a_signature, Val, a_basic, a_variant, an_array, an_entry, a_struct}
use Rattle.marshal_core.specs.Signatures.{codes, IsSignature}
use Rattle.marshal_core.specs.Spelling.{IsBasicValue, number_bytes}
use Rattle.marshal_core.proofs.Results.{eqb-yes}
use Rattle.message_core.specs.declared.field_place.FieldPlace.{FieldPlace}
use Rattle.message_core.specs.declared.header_field.HeaderField.{HeaderField}
use Rattle.message_core.specs.declared.header_field.HeaderField.TheVariants as field
use Rattle.message_core.specs.Announcements.{number}
use Rattle.message_core.specs.Kinds.{code_of}
use Rattle.message_core.specs.HeaderFields.{Field, value_of, text_of, number_of, types_in, IsValueOf}
use Rattle.message_core.specs.BasicFields.{basic_field}
use Rattle.message_core.specs.Places.{part, SpellField, IsPlaced, ArePlaced}
use Rattle.message_core.specs.Whole.{is_text, place_of}
use Rattle.message_core.proofs.Shape.{spelled_basic}
use Rattle.message_core.proofs.Strings.{length-number, number_read}
use Rattle.message_core.proofs.FieldReading.{length_part}

-- ---- which place has a field

pub record Found (order : Order) (bytes : List ℕ) (k : HeaderField) (fs : List Field) (p : FieldPlace) : Type 0 where
  pub field : Field
  pub coded : field.code ≡ code_of k
  pub placed : IsPlaced order bytes p field
  pub value : value_of k fs ≡ Some field.value

abbrev some : FieldPlace → Option FieldPlace
some p = Some p

some_place : (p q : FieldPlace) → some p ≡ some q → p ≡ q
some_place p q e = cc

none_place : (p : FieldPlace) → some p ≡ None → ⊥
none_place p e = cc

pub found : (order : Order) (bytes : List ℕ) (k : HeaderField) (ps : List FieldPlace) (fs : List Field) (p : FieldPlace) → ArePlaced order bytes ps fs → place_of (code_of k) ps ≡ Some p → Found order bytes k fs p
found order bytes k [] [] p h e = absurd cc
found order bytes k [] (g ∷ gs) p h e = absurd h
found order bytes k (q ∷ ps) [] p h e = absurd h
found order bytes k (q ∷ ps) (g ∷ gs) p h e = at (q.code == code_of k) refl (found order bytes k ps gs p h.1) where
  at : (b : Bool) → (q.code == code_of k) ≡ b → (place_of (code_of k) ps ≡ Some p → Found order bytes k gs p) → Found order bytes k (g ∷ gs) p
  at true c ih =
      let same : q ≡ p = some_place q p (ap (λ (b : Bool). if b then Some q else place_of (code_of k) ps) (sym c) ∙ e) in
      record {
        field = g;
        coded = sym h.0.code ∙ eqb-yes q.code (code_of k) c;
        placed = subst (λ (x : FieldPlace). IsPlaced order bytes x g) same h.0;
        value = rw (ap (λ (n : ℕ). n == code_of k) (sym h.0.code) ∙ c) refl;
      }
  at false c ih =
      let r = ih (ap (λ (b : Bool). if b then Some q else place_of (code_of k) ps) (sym c) ∙ e) in
      record { field = r.field; coded = r.coded; placed = r.placed; value = rw (ap (λ (n : ℕ). n == code_of k) (sym h.0.code) ∙ c) r.value }

pub not_found : (order : Order) (bytes : List ℕ) (k : HeaderField) (ps : List FieldPlace) (fs : List Field) → ArePlaced order bytes ps fs → place_of (code_of k) ps ≡ None → value_of k fs ≡ None
not_found order bytes k [] [] h e = refl
not_found order bytes k [] (g ∷ gs) h e = absurd h
not_found order bytes k (q ∷ ps) [] h e = absurd h
not_found order bytes k (q ∷ ps) (g ∷ gs) h e = at (q.code == code_of k) refl (not_found order bytes k ps gs h.1) where
  at : (b : Bool) → (q.code == code_of k) ≡ b → (place_of (code_of k) ps ≡ None → value_of k gs ≡ None) → value_of k (g ∷ gs) ≡ None
  at true c ih = absurd (none_place q (ap (λ (b : Bool). if b then Some q else place_of (code_of k) ps) (sym c) ∙ e))
  at false c ih = rw (ap (λ (n : ℕ). n == code_of k) (sym h.0.code) ∙ c) (ih (ap (λ (b : Bool). if b then Some q else place_of (code_of k) ps) (sym c) ∙ e))

-- ---- parts of a part

pub part_inside : (bytes x y z : List ℕ) (from to : ℕ) → from ≤ to → to ≤ length bytes → part from to bytes ≡ x ++ (y ++ z) → part (from + length x) (to - length z) bytes ≡ y
part_inside bytes x y z from to le ends e =
    let size : to - from ≡ length x + (length y + length z) = sym (length_part bytes from to le ends) ∙ ap length e ∙ length-append x (y ++ z) ∙ ap (λ (n : ℕ). length x + n) (length-append y z) in
    let behind : List ℕ = drop (from + length x) bytes in
    let rest : take (length y + length z) behind ≡ y ++ z =
    ap (take (length y + length z)) (sym (drop-drop (length x) from bytes)) ∙ sym (drop-take (length x) (length y + length z) (drop from bytes))
    ∙ ap (λ (n : ℕ). drop (length x) (take n (drop from bytes))) (sym size) ∙ ap (drop (length x)) e ∙ drop_at x (y ++ z) (length x) refl in
    ap (λ (n : ℕ). take n behind) (omega (arith, size)) ∙ sym (take-take (length y) (length y + length z) behind (omega arith)) ∙ ap (take (length y)) rest ∙ take_at y z (length y) refl

-- ---- the values of fields

number_of_part : (order : Order) (place : ℕ) (bytes : List ℕ) → number order place bytes ≡ number order 0 (take 4 (drop place bytes))
number_of_part Little place bytes = ap (from_le_bytes w32) (sym (take-take 4 4 (drop place bytes) (omega arith)))
number_of_part Big place bytes = ap (from_be_bytes w32) (sym (take-take 4 4 (drop place bytes) (omega arith)))

-- what the field of a text holds
pub text_value : (k : HeaderField) (v : Val) → is_text k ≡ true → IsValueOf k v → (t : List ℕ) × ((v ≡ a_basic (a_string t)) ⊎ (v ≡ a_basic (an_object_path t)))
text_value k (a_basic (a_string t)) e h = (t, inl refl)
text_value k (a_basic (an_object_path t)) e h = (t, inr refl)
text_value k (a_basic (a_signature ts)) e h = absurd (let f : is_text field.Signature ≡ true = ap is_text (sym h) ∙ e in cc)
text_value field.Path (a_basic (a_uint32 n)) e h = absurd h
text_value field.Interface (a_basic (a_uint32 n)) e h = absurd h
text_value field.Member (a_basic (a_uint32 n)) e h = absurd h
text_value field.ErrorName (a_basic (a_uint32 n)) e h = absurd h
text_value field.ReplySerial (a_basic (a_uint32 n)) e h = absurd cc
text_value field.Destination (a_basic (a_uint32 n)) e h = absurd h
text_value field.Sender (a_basic (a_uint32 n)) e h = absurd h
text_value field.Signature (a_basic (a_uint32 n)) e h = absurd h
text_value field.UnixFds (a_basic (a_uint32 n)) e h = absurd cc
text_value k (a_basic (a_byte n)) e h = absurd h
text_value k (a_basic (a_boolean n)) e h = absurd h
text_value k (a_basic (an_int16 n)) e h = absurd h
text_value k (a_basic (a_uint16 n)) e h = absurd h
text_value k (a_basic (an_int32 n)) e h = absurd h
text_value k (a_basic (an_int64 n)) e h = absurd h
text_value k (a_basic (a_uint64 n)) e h = absurd h
text_value k (a_basic (a_double n)) e h = absurd h
text_value k (a_variant v) e h = absurd h
text_value k (an_array t vs) e h = absurd h
text_value k (an_entry j v) e h = absurd h
text_value k (a_struct vs) e h = absurd h

-- SIGNATURE holds a signature
pub signature_value : (v : Val) → IsValueOf field.Signature v → (ts : Tys) × (v ≡ a_basic (a_signature ts))
signature_value (a_basic (a_signature ts)) h = (ts, refl)
signature_value (a_basic (a_string t)) h = absurd h
signature_value (a_basic (an_object_path t)) h = absurd cc
signature_value (a_basic (a_uint32 n)) h = absurd h
signature_value (a_basic (a_byte n)) h = absurd h
signature_value (a_basic (a_boolean n)) h = absurd h
signature_value (a_basic (an_int16 n)) h = absurd h
signature_value (a_basic (a_uint16 n)) h = absurd h
signature_value (a_basic (an_int32 n)) h = absurd h
signature_value (a_basic (an_int64 n)) h = absurd h
signature_value (a_basic (a_uint64 n)) h = absurd h
signature_value (a_basic (a_double n)) h = absurd h
signature_value (a_variant v) h = absurd h
signature_value (an_array t vs) h = absurd h
signature_value (an_entry j v) h = absurd h
signature_value (a_struct vs) h = absurd h

-- REPLY_SERIAL holds a number
pub serial_value : (v : Val) → IsValueOf field.ReplySerial v → (n : ℕ) × (v ≡ a_basic (a_uint32 n))
serial_value (a_basic (a_uint32 n)) h = (n, refl)
serial_value (a_basic (a_signature ts)) h = absurd cc
serial_value (a_basic (a_string t)) h = absurd h
serial_value (a_basic (an_object_path t)) h = absurd cc
serial_value (a_basic (a_byte n)) h = absurd h
serial_value (a_basic (a_boolean n)) h = absurd h
serial_value (a_basic (an_int16 n)) h = absurd h
serial_value (a_basic (a_uint16 n)) h = absurd h
serial_value (a_basic (an_int32 n)) h = absurd h
serial_value (a_basic (an_int64 n)) h = absurd h
serial_value (a_basic (a_uint64 n)) h = absurd h
serial_value (a_basic (a_double n)) h = absurd h
serial_value (a_variant v) h = absurd h
serial_value (an_array t vs) h = absurd h
serial_value (an_entry j v) h = absurd h
serial_value (a_struct vs) h = absurd h

-- ---- the bytes of a field of a basic value

pub basic_bytes : (order : Order) (bytes : List ℕ) (p : FieldPlace) (f : Field) (v : BasicVal) → IsPlaced order bytes p f → f.value ≡ a_basic v → part p.from p.to bytes ≡ basic_field order f.code v
basic_bytes order bytes p f v h e =
    (spelled_basic order p.from f.code v (part p.from p.to bytes) h.aligned (subst (λ (x : Val). SpellField order p.from (record { code = f.code; value = x }) (part p.from p.to bytes)) e h.spelled)).1

basic_is : (order : Order) (bytes : List ℕ) (p : FieldPlace) (f : Field) (v : BasicVal) → IsPlaced order bytes p f → f.value ≡ a_basic v → IsBasicValue v
basic_is order bytes p f v h e =
    (spelled_basic order p.from f.code v (part p.from p.to bytes) h.aligned (subst (λ (x : Val). SpellField order p.from (record { code = f.code; value = x }) (part p.from p.to bytes)) e h.spelled)).0

-- what stands between the first bytes of a field and its last ones
inside : (order : Order) (bytes : List ℕ) (p : FieldPlace) (f : Field) (v : BasicVal) (a c : ℕ) (x y z : List ℕ) → IsPlaced order bytes p f → f.value ≡ a_basic v → basic_field order f.code v ≡ x ++ (y ++ z) → length x ≡ a → length z ≡ c
    → (part (p.from + a) (p.to - c) bytes ≡ y) × (p.from + (a + length y + c) ≡ p.to)
inside order bytes p f v a c x y z h e whole la lc =
    let b : part p.from p.to bytes ≡ x ++ (y ++ z) = basic_bytes order bytes p f v h e ∙ whole in
    let mid = part_inside bytes x y z p.from p.to h.begins h.ends b in
    let size : p.to - p.from ≡ length x + (length y + length z) = sym (length_part bytes p.from p.to h.begins h.ends) ∙ ap length b ∙ length-append x (y ++ z) ∙ ap (λ (n : ℕ). length x + n) (length-append y z) in
    (ap (λ (n : ℕ). part (p.from + n) (p.to - c) bytes) (sym la) ∙ ap (λ (n : ℕ). part (p.from + length x) (p.to - n) bytes) (sym lc) ∙ mid, omega (arith, size, la, lc, h.begins))

pub record TextStands (bytes : List ℕ) (p : FieldPlace) (v : Val) : Type 0 where
  pub text : List ℕ
  pub is : text_of (Some v) ≡ Some text
  pub utf8 : IsUtf8 text
  pub room : p.from + 9 ≤ p.to
  pub ends : p.to ≤ length bytes
  pub stands : part (p.from + 8) (p.to - 1) bytes ≡ text

pub text_stands : (order : Order) (bytes : List ℕ) (k : HeaderField) (p : FieldPlace) (f : Field) → IsPlaced order bytes p f → f.code ≡ code_of k → is_text k ≡ true → TextStands bytes p f.value
text_stands order bytes k p f h coded e = at (text_value k f.value e (h.is_field.1 k coded)) where
  at : (t : List ℕ) × ((f.value ≡ a_basic (a_string t)) ⊎ (f.value ≡ a_basic (an_object_path t))) → TextStands bytes p f.value
  at (t, inl s) =
      let w : List ℕ = number_bytes order w32 (length t) in
      let m = inside order bytes p f (a_string t) 8 1 (f.code ∷ 1 ∷ 115 ∷ 0 ∷ w) t (0 ∷ []) h s refl (omega (arith, length-number order (length t))) refl in
      record { text = t; is = ap (λ (x : Val). text_of (Some x)) s; utf8 = (basic_is order bytes p f (a_string t) h s).1; room = omega (arith, m.1); ends = h.ends; stands = m.0 }
  at (t, inr s) =
      let w : List ℕ = number_bytes order w32 (length t) in
      let m = inside order bytes p f (an_object_path t) 8 1 (f.code ∷ 1 ∷ 111 ∷ 0 ∷ w) t (0 ∷ []) h s refl (omega (arith, length-number order (length t))) refl in
      record { text = t; is = ap (λ (x : Val). text_of (Some x)) s; utf8 = (basic_is order bytes p f (an_object_path t) h s).0.1; room = omega (arith, m.1); ends = h.ends; stands = m.0 }

pub record SignatureStands (bytes : List ℕ) (p : FieldPlace) (v : Val) : Type 0 where
  pub types : Tys
  pub is : types_in (Some v) ≡ types
  pub valid : IsSignature types
  pub room : p.from + 6 ≤ p.to
  pub ends : p.to ≤ length bytes
  pub stands : part (p.from + 5) (p.to - 1) bytes ≡ codes types

pub signature_stands : (order : Order) (bytes : List ℕ) (p : FieldPlace) (f : Field) → IsPlaced order bytes p f → f.code ≡ code_of field.Signature → SignatureStands bytes p f.value
signature_stands order bytes p f h coded =
    let s = signature_value f.value (h.is_field.1 field.Signature coded) in
    let m = inside order bytes p f (a_signature s.0) 5 1 (f.code ∷ 1 ∷ 103 ∷ 0 ∷ length (codes s.0) ∷ []) (codes s.0) (0 ∷ []) h s.1 refl refl refl in
    record { types = s.0; is = ap (λ (x : Val). types_in (Some x)) s.1; valid = basic_is order bytes p f (a_signature s.0) h s.1; room = omega (arith, m.1); ends = h.ends; stands = m.0 }

pub record SerialStands (order : Order) (bytes : List ℕ) (p : FieldPlace) (v : Val) : Type 0 where
  pub serial : ℕ
  pub is : number_of (Some v) ≡ Some serial
  pub room : p.from + 8 ≤ p.to
  pub ends : p.to ≤ length bytes
  pub stands : number order (p.from + 4) bytes ≡ serial

pub serial_stands : (order : Order) (bytes : List ℕ) (p : FieldPlace) (f : Field) → IsPlaced order bytes p f → f.code ≡ code_of field.ReplySerial → SerialStands order bytes p f.value
serial_stands order bytes p f h coded =
    let s = serial_value f.value (h.is_field.1 field.ReplySerial coded) in
    let w : List ℕ = number_bytes order w32 s.0 in
    let m = inside order bytes p f (a_uint32 s.0) 4 0 (f.code ∷ 1 ∷ 117 ∷ 0 ∷ []) w [] h s.1 (ap (λ (x : List ℕ). f.code ∷ 1 ∷ 117 ∷ 0 ∷ x) (sym (append-nil w))) refl refl in
    let four : p.to - 0 - (p.from + 4) ≡ 4 = omega (arith, m.1, length-number order s.0) in
    record {
      serial = s.0;
      is = ap (λ (x : Val). number_of (Some x)) s.1;
      room = omega (arith, m.1, length-number order s.0);
      ends = h.ends;
      stands = number_of_part order (p.from + 4) bytes ∙ ap (number order 0) (ap (λ (n : ℕ). take n (drop (p.from + 4) bytes)) (sym four) ∙ m.0 ∙ sym (append-nil w)) ∙ number_read order s.0 [] (basic_is order bytes p f (a_uint32 s.0) h s.1);
    }
