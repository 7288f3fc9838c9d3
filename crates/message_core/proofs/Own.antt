-- A message that was put together from a header and a body.
use Rattle.std.proofs.Common.{◌≡◌, ℕ, ◌+◌, ◌-◌, ◌%◌, ◌≤◌, ◌<◌, Bool, true, false, List, [], ◌∷◌, ◌++◌, length, Option, Some, None, Result, Ok, Err, IfOk, refl, sym, ap, subst, ◌∙◌, append_assoc, arith, lit<}
use Rattle.std.specs.Prelude.{◌==◌, if◌then◌else◌}
use Rattle.std.specs.Int.{w32}
use Rattle.marshal_core.specs.declared.order.Order.{Order}
use Rattle.marshal_core.specs.Types.{Tys, no_types, more_types, array as array_of, one_type}
use Rattle.marshal_core.specs.Values.{BasicVal, a_string, an_object_path, a_uint32, Val, Vals, no_values, more_values}
use Rattle.marshal_core.specs.Spelling.{number_bytes, pads, max_container_depth, SpellValue, Spells}
use Rattle.marshal.proofs.Once.{one_fields}
use Rattle.marshal_core.proofs.Results.{leb_true}
use Rattle.message_core.specs.declared.fault.FrameFault.{FrameFault}
use Rattle.message_core.specs.declared.header.Header.{Header}
use Rattle.message_core.specs.declared.header_field.HeaderField.{HeaderField}
use Rattle.message_core.specs.declared.header_field.HeaderField.TheVariants as field
use Rattle.message_core.specs.Announcements.{announced, number, whole_length, fields_place, body_length_place, max_fields_length, order_byte, protocol_version}
use Rattle.message_core.specs.Kinds.{code_of}
use Rattle.message_core.specs.HeaderFields.{Field, value_of, by_code, insert_field, body_types, types_in, field_type}
use Rattle.message_core.specs.Messages.{Message, IsSent, IsMessage, IsWritten, field_array}
use Rattle.message_core.specs.Said.{order_of, said}
use Rattle.message_core.specs.Headers.{AreWritten, IsLaidOut, optional_field, signature_field, fields_of, message_of}
use Rattle.message_core.proofs.Strings.{length-number}
use Rattle.message_core.proofs.Announced.{announced_facts}
use Rattle.message_core.proofs.Said.{Parts, parts_of, sent_back, sent_of, said_of}
use Rattle.std.proofs.lemmas.List.{length-append, append-nil}
use Rattle.std.proofs.lemmas.Bool.{ne_eqb}

-- ---- the fields of a header stand by rising code

abbrev Between : ℕ → ℕ → List Field → Type 0
Between lo hi [] = lo ≤ hi
Between lo hi (f ∷ fs) = (lo ≤ f.code) × Between f.code hi fs

between_lower : (lo mid hi : ℕ) (fs : List Field) → lo ≤ mid → Between mid hi fs → Between lo hi fs
between_lower lo mid hi [] le h = omega (arith, le, h)
between_lower lo mid hi (f ∷ fs) le h = (omega (arith, le, h.0), h.1)

between_append : (lo mid hi : ℕ) (xs ys : List Field) → Between lo mid xs → Between mid hi ys → Between lo hi (xs ++ ys)
between_append lo mid hi [] ys h k = between_lower lo mid hi ys h k
between_append lo mid hi (f ∷ fs) ys h k = (h.0, between_append f.code mid hi fs ys h.1 k)

sorted_again : (lo hi : ℕ) (fs : List Field) → Between lo hi fs → by_code fs ≡ fs
sorted_again lo hi [] h = refl
sorted_again lo hi (f ∷ []) h = refl
sorted_again lo hi (f ∷ g ∷ gs) h = ap (insert_field f) (sorted_again f.code hi (g ∷ gs) h.1) ∙ rw (leb_true f.code g.code h.1.0) refl

optional_between : {A : Type 0} → (k : HeaderField) (make : A → BasicVal) (o : Option A) (lo hi : ℕ) → lo ≤ code_of k → code_of k ≤ hi → Between lo hi (optional_field k make o)
optional_between k make None lo hi l h = omega (arith, l, h)
optional_between k make (Some x) lo hi l h = (l, h)

signature_between : (types : Tys) → Between 7 8 (signature_field types)
signature_between no_types = omega arith
signature_between (more_types t ts) = (omega arith, omega arith)

-- the fields before SIGNATURE
abbrev front : Header → List Field
front header =
    optional_field field.Path an_object_path header.path
    ++ optional_field field.Interface a_string header.interface
    ++ optional_field field.Member a_string header.member
    ++ optional_field field.ErrorName a_string header.error_name
    ++ optional_field field.ReplySerial a_uint32 header.reply_serial
    ++ optional_field field.Destination a_string header.destination
    ++ optional_field field.Sender a_string header.sender

front_between : (header : Header) → Between 1 7 (front header)
front_between header =
    let p = optional_between field.Path an_object_path header.path 1 1 (omega arith) (omega arith) in
    let i = optional_between field.Interface a_string header.interface 1 2 (omega arith) (omega arith) in
    let m = optional_between field.Member a_string header.member 2 3 (omega arith) (omega arith) in
    let e = optional_between field.ErrorName a_string header.error_name 3 4 (omega arith) (omega arith) in
    let r = optional_between field.ReplySerial a_uint32 header.reply_serial 4 5 (omega arith) (omega arith) in
    let d = optional_between field.Destination a_string header.destination 5 6 (omega arith) (omega arith) in
    let s = optional_between field.Sender a_string header.sender 6 7 (omega arith) (omega arith) in
    let pi = between_append 1 1 2 (optional_field field.Path an_object_path header.path) (optional_field field.Interface a_string header.interface) p i in
    let pim = between_append 1 2 3 (optional_field field.Path an_object_path header.path ++ optional_field field.Interface a_string header.interface) (optional_field field.Member a_string header.member) pi m in
    let pime = between_append 1 3 4 (optional_field field.Path an_object_path header.path ++ optional_field field.Interface a_string header.interface ++ optional_field field.Member a_string header.member) (optional_field field.ErrorName a_string header.error_name) pim e in
    let pimer = between_append 1 4 5 (optional_field field.Path an_object_path header.path ++ optional_field field.Interface a_string header.interface ++ optional_field field.Member a_string header.member ++ optional_field field.ErrorName a_string header.error_name) (optional_field field.ReplySerial a_uint32 header.reply_serial) pime r in
    let pimerd = between_append 1 5 6 (optional_field field.Path an_object_path header.path ++ optional_field field.Interface a_string header.interface ++ optional_field field.Member a_string header.member ++ optional_field field.ErrorName a_string header.error_name ++ optional_field field.ReplySerial a_uint32 header.reply_serial) (optional_field field.Destination a_string header.destination) pimer d in
    between_append 1 6 7 (optional_field field.Path an_object_path header.path ++ optional_field field.Interface a_string header.interface ++ optional_field field.Member a_string header.member ++ optional_field field.ErrorName a_string header.error_name ++ optional_field field.ReplySerial a_uint32 header.reply_serial ++ optional_field field.Destination a_string header.destination) (optional_field field.Sender a_string header.sender) pimerd s

fields_sorted : (header : Header) (types : Tys) → fields_of header types ≡ by_code (fields_of header types)
fields_sorted header types = sym (sorted_again 1 8 (fields_of header types) (between_append 1 7 8 (front header) (signature_field types) (front_between header) (signature_between types)))

top : (lo hi : ℕ) (fs : List Field) → Between lo hi fs → lo ≤ hi
top lo hi [] h = h
top lo hi (f ∷ fs) h = omega (arith, h.0, top f.code hi fs h.1)

-- ---- their types are those of SIGNATURE

abbrev there : Val → Option Val
there v = Some v

not_there : (v : Val) → there v ≡ None → ⊥
not_there v e = cc

value_behind : (k : HeaderField) (xs ys : List Field) → value_of k xs ≡ None → value_of k (xs ++ ys) ≡ value_of k ys
value_behind k [] ys e = refl
value_behind k (x ∷ xs) ys e = at (x.code == code_of k) refl (value_behind k xs ys) where
  at : (b : Bool) → (x.code == code_of k) ≡ b → (value_of k xs ≡ None → value_of k (xs ++ ys) ≡ value_of k ys) → value_of k (x ∷ xs ++ ys) ≡ value_of k ys
  at true c ih = absurd (not_there x.value (ap (λ (b : Bool). if b then Some x.value else value_of k xs) (sym c) ∙ e))
  at false c ih = rw c (ih (ap (λ (b : Bool). if b then Some x.value else value_of k xs) (sym c) ∙ e))

none_above : (k : HeaderField) (lo hi : ℕ) (fs : List Field) → Between lo hi fs → hi < code_of k → value_of k fs ≡ None
none_above k lo hi [] h less = refl
none_above k lo hi (f ∷ fs) h less = rw (ne_eqb f.code (code_of k) (λ e. omega (arith, e, top f.code hi fs h.1, less))) (none_above k f.code hi fs h.1 less)

signature_there : (types : Tys) → types ≡ types_in (value_of field.Signature (signature_field types))
signature_there no_types = refl
signature_there (more_types t ts) = refl

pub fields_signed : (header : Header) (types : Tys) → types ≡ body_types (fields_of header types)
fields_signed header types =
    signature_there types ∙ ap types_in (sym (value_behind field.Signature (front header) (signature_field types) (none_above field.Signature 1 7 (front header) (front_between header) (omega arith))))

-- ---- the whole

pub laid_parts : (m : Message) (array body bytes : List ℕ) → IsLaidOut m array body bytes → Parts bytes m (number_bytes m.order w32 (length array) ++ array) body (length array)
laid_parts m array body bytes h =
    let word : List ℕ = number_bytes m.order w32 (length array) in
    let A : List ℕ = word ++ array in
    let size : length A ≡ 4 + length array = length-append word array ∙ ap (λ (k : ℕ). k + length array) (length-number m.order (length array)) in
    let place : 16 + length array ≡ fields_place + length A = omega (arith, size) in
    let behind : List ℕ → List ℕ = λ x. (order_byte m.order ∷ m.kind ∷ m.flags ∷ protocol_version ∷ []) ++ (number_bytes m.order w32 (length body) ++ (number_bytes m.order w32 m.serial ++ x)) in
    parts_of m A array body bytes refl h.fields_fit h.serial_fits h.body_fits
    (h.whole ∙ ap behind (sym (append_assoc word array (pads 8 (16 + length array) ++ body))) ∙ ap (λ (n : ℕ). behind (A ++ (pads 8 n ++ body))) place)

pub laid_long : (m : Message) (array body bytes : List ℕ) → IsLaidOut m array body bytes → (16 ≤ length bytes) × (whole_length (order_of bytes) bytes ≡ length bytes)
laid_long m array body bytes h =
    let p = laid_parts m array body bytes h in (
      omega (arith, p.long),
      ap (λ (o : Order). whole_length o bytes) p.order ∙ ap (λ (n : ℕ). 16 + (n + (8 - n % 8) % 8) + number m.order body_length_place bytes) p.fields
          ∙ ap (λ (n : ℕ). 16 + (length array + (8 - length array % 8) % 8) + n) p.body_length ∙ sym p.long,
    )

pub own_written : (header : Header) (types : Tys) (values : Vals) (array body bytes : List ℕ) (limit : ℕ) → IsLaidOut (message_of header types values) array body bytes → AreWritten header.order (fields_of header types) array
    → Spells header.order 0 types values body → announced limit bytes ≡ Ok (length bytes) → IsMessage bytes (said bytes) → IsWritten bytes (message_of header types values)
own_written header types values array body bytes limit laid written spelled e is =
    let m : Message = message_of header types values in
    let sent : List Field = fields_of header types in
    let p = laid_parts m array body bytes laid in
    let a = announced_facts limit bytes (length bytes) e in
    let max : length array ≤ max_fields_length = omega (arith, a.fields, ap (λ (o : Order). number o fields_place bytes) p.order, p.fields) in
    let A : List ℕ = number_bytes m.order w32 (length array) ++ array in
    let same : said bytes ≡ m = said_of bytes sent m A body (length array) p (lit< tt, refl, array, max, written, refl) (fields_signed header types) spelled (fields_sorted header types) in
    let order : is.sent ≡ sent = sym (sent_back is.sent bytes (said bytes) is.is_sent) ∙ sent_of sent bytes m A body (length array) p (lit< tt, refl, array, max, written, refl) in
    record {
      is_sent = subst (λ (x : Message). IsSent sent bytes x) same (subst (λ (fs : List Field). IsSent fs bytes (said bytes)) order is.is_sent);
      sorted = fields_sorted header types;
    }

pub own_ok : (r : Result (List ℕ) FrameFault) (bytes : List ℕ) (m : Message) → IfOk r (λ x. x ≡ bytes) → IfOk r (λ x. IsMessage x (said x)) → (IsMessage bytes (said bytes) → IsWritten bytes m) → IfOk r (λ x. IsWritten x m)
own_ok (Ok x) bytes m e is f = subst (λ (b : List ℕ). IsWritten b m) (sym e) (f (subst (λ (b : List ℕ). IsMessage b (said b)) e is))
own_ok (Err x) bytes m e is f = tt

-- ---- a message is written in one way

one_array : (m : Message) (a b : List ℕ) → (fs : List Field) → SpellValue (field_array fs) max_container_depth m.order fields_place (array_of field_type) a → SpellValue (field_array fs) max_container_depth m.order fields_place (array_of field_type) b → a ≡ b
one_array m a b fs h k =
    one_fields (more_values (field_array fs) no_values) max_container_depth m.order fields_place (one_type (array_of field_type)) a b (a, [], h, refl, sym (append-nil a)) (b, [], k, refl, sym (append-nil b))

pub one_writing : (m : Message) (a b : List ℕ) → IsWritten a m → IsWritten b m → a ≡ b
one_writing m a b h k =
    let arrays : h.is_sent.array_bytes ≡ k.is_sent.array_bytes = one_array m h.is_sent.array_bytes k.is_sent.array_bytes m.fields h.is_sent.array_spelled k.is_sent.array_spelled in
    let bodies : h.is_sent.body_bytes ≡ k.is_sent.body_bytes = one_fields m.body max_container_depth m.order 0 m.types h.is_sent.body_bytes k.is_sent.body_bytes h.is_sent.body_spelled.1 k.is_sent.body_spelled.1 in
    let start : List ℕ = order_byte m.order ∷ m.kind ∷ m.flags ∷ protocol_version ∷ [] in
    h.is_sent.whole
    ∙ ap (λ (x : List ℕ). start ++ (number_bytes m.order w32 (length h.is_sent.body_bytes) ++ (number_bytes m.order w32 m.serial ++ (x ++ (pads 8 (fields_place + length x) ++ h.is_sent.body_bytes))))) arrays
    ∙ ap (λ (x : List ℕ). start ++ (number_bytes m.order w32 (length x) ++ (number_bytes m.order w32 m.serial ++ (k.is_sent.array_bytes ++ (pads 8 (fields_place + length k.is_sent.array_bytes) ++ x))))) bodies
    ∙ sym k.is_sent.whole
