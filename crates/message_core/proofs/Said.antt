-- What the bytes of a message say.
use Rattle.std.proofs.Common.{◌≡◌, ℕ, ◌<◌, ◌^◌, ◌+◌, List, [], ◌∷◌, ◌++◌, length, get_or, drop, Ok, refl, sym, ap, ◌∙◌, append_assoc, arith}
use Rattle.std.specs.Prelude.{map}
use Rattle.std.specs.Int.{w32}
use Rattle.std.proofs.lemmas.List.{drop_at, length-append, length-replicate, drop-drop, append-nil}
use Rattle.marshal_core.specs.declared.order.Order.{Order}
use Rattle.marshal_core.specs.declared.order.Order.TheVariants.{Little, Big}
use Rattle.marshal_core.specs.Types.{Tys, array, one_type}
use Rattle.marshal_core.specs.Values.{values, Vals, no_values, more_values}
use Rattle.marshal_core.specs.Spelling.{number_bytes, pads, pad_len, max_container_depth, SpellValue, SpellFields, Spells}
use Rattle.marshal_core.specs.Reading.{decode_at}
use Rattle.marshal.proofs.Decoded.{is_read}
use Rattle.message_core.specs.Announcements.{order_byte, protocol_version, number, padded, fields_place, serial_place, body_length_place, fixed_length}
use Rattle.message_core.specs.HeaderFields.{Field, field_type, field_value, by_code, body_types}
use Rattle.message_core.specs.Messages.{Message, IsSent, IsMessage, field_array}
use Rattle.message_core.specs.Said.{order_of, fields_in, sent_fields, body_part, body_values, said}
use Rattle.message_core.proofs.Strings.{length-number, number_read}

-- what is spelled is read, whatever follows
decoded_again : (vs : Vals) (order : Order) (at : ℕ) (ts : Tys) (front rest : List ℕ) → Spells order at ts vs front → decode_at order ts at (front ++ rest) ≡ Ok (vs, length front)
decoded_again vs order at ts front rest h = is_read order ts at (front ++ rest) front rest vs refl h

pub number_at : (order : Order) (place : ℕ) (bytes rest : List ℕ) → drop place bytes ≡ rest → number order place bytes ≡ number order 0 rest
number_at Little place bytes rest e = ap (number Little 0) e
number_at Big place bytes rest e = ap (number Big 0) e

-- the parts of a message that is sent
pub record Parts (bytes : List ℕ) (m : Message) (array_bytes body : List ℕ) (n : ℕ) : Type 0 where
  pub order : order_of bytes ≡ m.order
  pub kind : get_or bytes 1 0 ≡ m.kind
  pub flags : get_or bytes 2 0 ≡ m.flags
  pub serial : number m.order serial_place bytes ≡ m.serial
  pub fields : number m.order fields_place bytes ≡ n
  pub body_length : number m.order body_length_place bytes ≡ length body
  pub from_array : drop fields_place bytes ≡ array_bytes ++ (pads 8 (fields_place + length array_bytes) ++ body)
  pub from_body : drop (fixed_length + padded n) bytes ≡ body
  pub long : length bytes ≡ fixed_length + padded n + length body

order_first : (order : Order) (rest bytes : List ℕ) → bytes ≡ order_byte order ∷ rest → order_of bytes ≡ order
order_first Little rest bytes e = ap order_of e
order_first Big rest bytes e = ap order_of e

pub parts_of : (m : Message) (A inside body bytes : List ℕ) → A ≡ number_bytes m.order w32 (length inside) ++ inside → length inside < 2 ^ 32 → m.serial < 2 ^ 32 → length body < 2 ^ 32
    → bytes ≡ (order_byte m.order ∷ m.kind ∷ m.flags ∷ protocol_version ∷ []) ++ (number_bytes m.order w32 (length body) ++ (number_bytes m.order w32 m.serial ++ (A ++ (pads 8 (fields_place + length A) ++ body))))
    → Parts bytes m A body (length inside)
parts_of m A inside body bytes layout inside_fits serial_fits body_fits whole =
    let wb : List ℕ = number_bytes m.order w32 (length body) in
    let ws : List ℕ = number_bytes m.order w32 m.serial in
    let wf : List ℕ = number_bytes m.order w32 (length inside) in
    let gap : List ℕ = pads 8 (fields_place + length A) in
    let size : length A ≡ 4 + length inside = ap length layout ∙ length-append wf inside ∙ ap (λ (k : ℕ). k + length inside) (length-number m.order (length inside)) in
    let gap_size : length gap ≡ pad_len 8 (fields_place + length A) = length-replicate (pad_len 8 (fields_place + length A)) 0 in
    let at4 : drop 4 bytes ≡ wb ++ (ws ++ (A ++ (gap ++ body))) = ap (drop 4) whole in
    let at8 : drop 8 bytes ≡ ws ++ (A ++ (gap ++ body)) = sym (drop-drop 4 4 bytes) ∙ ap (drop 4) at4 ∙ drop_at wb (ws ++ (A ++ (gap ++ body))) 4 (length-number m.order (length body)) in
    let at12 : drop 12 bytes ≡ A ++ (gap ++ body) = sym (drop-drop 4 8 bytes) ∙ ap (drop 4) at8 ∙ drop_at ws (A ++ (gap ++ body)) 4 (length-number m.order m.serial) in
    let pad : length A + length gap ≡ 4 + padded (length inside) = omega (arith, size, gap_size) in
    record {
      order = order_first m.order (m.kind ∷ m.flags ∷ protocol_version ∷ (wb ++ (ws ++ (A ++ (gap ++ body))))) bytes whole;
      kind = ap (λ (x : List ℕ). get_or x 1 0) whole;
      flags = ap (λ (x : List ℕ). get_or x 2 0) whole;
      serial = number_at m.order 8 bytes (ws ++ (A ++ (gap ++ body))) at8 ∙ number_read m.order m.serial (A ++ (gap ++ body)) serial_fits;
      fields = number_at m.order 12 bytes (A ++ (gap ++ body)) at12 ∙ ap (λ (x : List ℕ). number m.order 0 (x ++ (gap ++ body))) layout ∙ ap (number m.order 0) (append_assoc wf inside (gap ++ body))
          ∙ number_read m.order (length inside) (inside ++ (gap ++ body)) inside_fits;
      body_length = number_at m.order 4 bytes (wb ++ (ws ++ (A ++ (gap ++ body)))) at4 ∙ number_read m.order (length body) (ws ++ (A ++ (gap ++ body))) body_fits;
      from_array = at12;
      from_body = ap (λ (k : ℕ). drop k bytes) (omega (arith, pad)) ∙ sym (drop-drop (length A + length gap) 12 bytes) ∙ ap (drop (length A + length gap)) at12
          ∙ ap (drop (length A + length gap)) (sym (append_assoc A gap body)) ∙ drop_at (A ++ gap) body (length A + length gap) (length-append A gap);
      long = omega (arith, ap length whole, length-append wb (ws ++ (A ++ (gap ++ body))), length-append ws (A ++ (gap ++ body)), length-append A (gap ++ body), length-append gap body, length-number m.order (length body), length-number m.order m.serial, pad);
    }

pub parts : (sent : List Field) (bytes : List ℕ) (m : Message) → (s : IsSent sent bytes m) → Parts bytes m s.array_bytes s.body_bytes (length s.array_spelled.2)
parts sent bytes m s = parts_of m s.array_bytes s.array_spelled.2 s.body_bytes bytes s.array_spelled.5 (omega (arith, s.array_spelled.3)) s.serial.1 s.fits s.whole

fields_back : (sent : List Field) → fields_in (values (map field_value sent)) ≡ sent
fields_back [] = refl
fields_back (f ∷ fs) = ap (λ (x : List Field). f ∷ x) (fields_back fs)

pub sent_of : (sent : List Field) (bytes : List ℕ) (m : Message) (A body : List ℕ) (n : ℕ) → Parts bytes m A body n → SpellValue (field_array sent) max_container_depth m.order fields_place (array field_type) A → sent_fields bytes ≡ sent
unfolding sent_fields
sent_of sent bytes m A body n p spelled =
    let rest : List ℕ = pads 8 (fields_place + length A) ++ body in
    let one : SpellFields (more_values (field_array sent) no_values) max_container_depth m.order fields_place (one_type (array field_type)) A = (A, [], spelled, refl, sym (append-nil A)) in
    rw (p.order, p.from_array, decoded_again (more_values (field_array sent) no_values) m.order fields_place (one_type (array field_type)) A rest (refl, one)) (fields_back sent)

pub sent_back : (sent : List Field) (bytes : List ℕ) (m : Message) → IsSent sent bytes m → sent_fields bytes ≡ sent
sent_back sent bytes m s = sent_of sent bytes m s.array_bytes s.body_bytes (length s.array_spelled.2) (parts sent bytes m s) s.array_spelled

pub body_of : (bytes : List ℕ) (m : Message) (A body : List ℕ) (n : ℕ) → Parts bytes m A body n → Spells m.order 0 m.types m.body body → body_values m.types bytes ≡ m.body
unfolding body_values
body_of bytes m A body n p spelled =
    let place : body_part bytes ≡ body = ap (λ (o : Order). drop (fixed_length + padded (number o fields_place bytes)) bytes) p.order ∙ ap (λ (k : ℕ). drop (fixed_length + padded k) bytes) p.fields ∙ p.from_body in
    let again : decode_at m.order m.types 0 body ≡ Ok (m.body, length body) = ap (decode_at m.order m.types 0) (sym (append-nil body)) ∙ decoded_again m.body m.order 0 m.types body [] spelled in
    rw (place, p.order, again) refl

-- what the parts of a message say
pub said_of : (bytes : List ℕ) (sent : List Field) (m : Message) (A body : List ℕ) (n : ℕ) → Parts bytes m A body n → SpellValue (field_array sent) max_container_depth m.order fields_place (array field_type) A
    → m.types ≡ body_types sent → Spells m.order 0 m.types m.body body → m.fields ≡ by_code sent → said bytes ≡ m
said_of bytes sent m A body n p spelled signed values sorted =
    let there : sent_fields bytes ≡ sent = sent_of sent bytes m A body n p spelled in
    let types : body_types (sent_fields bytes) ≡ m.types = ap body_types there ∙ sym signed in
    let serial : number (order_of bytes) serial_place bytes ≡ m.serial = ap (λ (o : Order). number o serial_place bytes) p.order ∙ p.serial in
    let body_is : body_values (body_types (sent_fields bytes)) bytes ≡ m.body = ap (λ (ts : Tys). body_values ts bytes) types ∙ body_of bytes m A body n p values in
    let fields : by_code (sent_fields bytes) ≡ m.fields = ap by_code there ∙ sym sorted in
    λ i. record { order = p.order i; kind = p.kind i; flags = p.flags i; serial = serial i; fields = fields i; types = types i; body = body_is i }

-- the bytes of a message say it
pub said_is : (bytes : List ℕ) (m : Message) → IsMessage bytes m → said bytes ≡ m
said_is bytes m h =
    let s = h.is_sent in
    said_of bytes h.sent m s.array_bytes s.body_bytes (length s.array_spelled.2) (parts h.sent bytes m s) s.array_spelled s.signed s.body_spelled h.sorted
