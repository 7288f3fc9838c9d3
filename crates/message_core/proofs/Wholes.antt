-- A message that was checked part by part.
use Rattle.std.proofs.Common.{◌≡◌, ℕ, zero, suc, ◌+◌, ◌-◌, ◌≤◌, ◌<◌, ◌^◌, Bool, true, false, List, [], ◌∷◌, ◌++◌, length, get_or, take, drop, Option, Some, None, Result, Ok, refl, sym, ap, subst, ◌∙◌, append_assoc, arith, lit<}
use Rattle.std.specs.Prelude.{replicate, is_some, ◌||◌, if◌then◌else◌}
use Rattle.std.specs.Int.{w32}
use Rattle.std.proofs.lemmas.List.{length-append, length-drop, drop-drop, take-append-drop}
use Rattle.marshal_core.specs.declared.fault.MarshalFault.{MarshalFault}
use Rattle.marshal_core.specs.declared.order.Order.{Order}
use Rattle.marshal_core.specs.declared.order.Order.TheVariants.{Little, Big}
use Rattle.marshal_core.specs.Types.{Tys, no_types}
use Rattle.marshal_core.specs.Values.{Val}
use Rattle.marshal_core.specs.Signatures.{signature_of}
use Rattle.marshal_core.proofs.TypesAgain.{signature_again}
use Rattle.marshal_core.specs.Spelling.{number_bytes, pads}
use Rattle.match_rules.specs.Kinds.{kind_of}
use Rattle.message_core.specs.declared.field_place.FieldPlace.{FieldPlace}
use Rattle.message_core.specs.declared.header_field.HeaderField.{HeaderField}
use Rattle.message_core.specs.declared.header_field.HeaderField.TheVariants as field
use Rattle.message_core.specs.Announcements.{announced, order_byte, protocol_version, fixed_length, fields_place, serial_place, body_length_place, number}
use Rattle.message_core.specs.Kinds.{code_of, required}
use Rattle.message_core.specs.HeaderFields.{Field, value_of, missing, by_code, types_in, body_types}
use Rattle.message_core.specs.Messages.{Message, IsSent, IsMessage}
use Rattle.message_core.specs.Said.{order_of, said}
use Rattle.message_core.specs.Places.{part, all_zero, ArePlaced, HaveFields, has_code}
use Rattle.message_core.specs.Whole.{place_of, signature_part, HasRoom, unplaced, IsBody, IsWhole, fields_end, body_begin}
use Rattle.message_core.proofs.Strings.{AreBytes, take_byte, number_spelled, length-number}
use Rattle.message_core.proofs.FieldReading.{zeros, length_part}
use Rattle.message_core.proofs.Sorting.{value_by_code, is_placed}
use Rattle.message_core.proofs.Contents.{found, not_found, signature_stands}
use Rattle.message_core.proofs.Announced.{announced_facts}
use Rattle.message_core.proofs.Said.{said_is, number_at}

abbrev told : Tys → Result Tys MarshalFault
told types = Ok types

-- ---- the signature

pub signature_room : (order : Order) (bytes : List ℕ) (ps : List FieldPlace) (fs : List Field) → ArePlaced order bytes ps fs → HasRoom 6 bytes (place_of (code_of field.Signature) ps)
signature_room order bytes ps fs h = at (place_of (code_of field.Signature) ps) refl where
  at : (o : Option FieldPlace) → place_of (code_of field.Signature) ps ≡ o → HasRoom 6 bytes o
  at None e = tt
  at (Some p) e =
      let f = found order bytes field.Signature ps fs p h e in
      let s = signature_stands order bytes p f.field f.placed f.coded in
      (s.room, s.ends)

pub signature_told : (order : Order) (bytes : List ℕ) (ps : List FieldPlace) (sent : List Field) → ArePlaced order bytes ps (by_code sent) → signature_of (signature_part (place_of (code_of field.Signature) ps) bytes) ≡ Ok (body_types sent)
signature_told order bytes ps sent h = at (place_of (code_of field.Signature) ps) refl where
  at : (o : Option FieldPlace) → place_of (code_of field.Signature) ps ≡ o → signature_of (signature_part o bytes) ≡ Ok (body_types sent)
  at None e =
      let gone : value_of field.Signature sent ≡ None = sym (value_by_code field.Signature sent) ∙ not_found order bytes field.Signature ps (by_code sent) h e in
      signature_again no_types refl ∙ ap (λ (v : Option Val). told (types_in v)) (sym gone)
  at (Some p) e =
      let f = found order bytes field.Signature ps (by_code sent) p h e in
      let s = signature_stands order bytes p f.field f.placed f.coded in
      let there : value_of field.Signature sent ≡ Some f.field.value = sym (value_by_code field.Signature sent) ∙ f.value in
      ap signature_of s.stands ∙ signature_again s.types s.valid ∙ ap told (sym s.is) ∙ ap (λ (v : Option Val). told (types_in v)) (sym there)

-- ---- the required fields

or_true : (a b : Bool) → a ≡ true → (a || b) ≡ true
or_true true b e = refl
or_true false b e = absurd cc

pub missing_is : (order : Order) (bytes : List ℕ) (ks : List HeaderField) (ps : List FieldPlace) (sent : List Field) → ArePlaced order bytes ps (by_code sent) → missing ks sent ≡ unplaced ks ps
missing_is order bytes [] ps sent h = refl
missing_is order bytes (k ∷ ks) ps sent h =
    let e : is_some (value_of k sent) ≡ has_code (code_of k) ps = ap is_some (sym (value_by_code k sent)) ∙ is_placed order bytes k ps (by_code sent) h in
    rw e (ap (λ (o : Option HeaderField). if has_code (code_of k) ps then o else Some k) (missing_is order bytes ks ps sent h))

-- ---- the whole

four_first : (bytes : List ℕ) → 4 ≤ length bytes → bytes ≡ get_or bytes 0 0 ∷ get_or bytes 1 0 ∷ get_or bytes 2 0 ∷ get_or bytes 3 0 ∷ drop 4 bytes
four_first [] h = absurd (omega arith)
four_first (a ∷ []) h = absurd (omega arith)
four_first (a ∷ b ∷ []) h = absurd (omega arith)
four_first (a ∷ b ∷ c ∷ []) h = absurd (omega arith)
four_first (a ∷ b ∷ c ∷ d ∷ bytes) h = refl

drop_byte : (k : ℕ) (bytes : List ℕ) (i : ℕ) → AreBytes bytes → get_or (drop k bytes) i 0 < 256
drop_byte zero bytes i h = h i
drop_byte (suc k) [] i h = omega arith
drop_byte (suc k) (b ∷ bytes) i h = drop_byte k bytes i (λ j. h (suc j))

number_small : (order : Order) (place : ℕ) (bytes : List ℕ) → AreBytes bytes → number order place bytes < 2 ^ 32
number_small Little place bytes fits =
    let b = λ (i : ℕ). take_byte 4 (drop place bytes) i (drop_byte place bytes i fits) in
    omega (arith, b 0, b 1, b 2, b 3)
number_small Big place bytes fits =
    let b = λ (i : ℕ). take_byte 4 (drop place bytes) i (drop_byte place bytes i fits) in
    omega (arith, b 0, b 1, b 2, b 3)

number_part : (order : Order) (place : ℕ) (bytes : List ℕ) → place + 4 ≤ length bytes → AreBytes bytes → drop place bytes ≡ number_bytes order w32 (number order place bytes) ++ drop (place + 4) bytes
number_part order place bytes long fits =
    let rest : List ℕ = drop place bytes in
    let spelled : number_bytes order w32 (number order 0 rest) ≡ take 4 rest = number_spelled order rest (omega (arith, length-drop place bytes)) (λ i. drop_byte place bytes i fits) in
    sym (take-append-drop 4 rest) ∙ ap (λ (x : List ℕ). take 4 rest ++ x) (drop-drop 4 place bytes) ∙ ap (λ (x : List ℕ). x ++ drop (place + 4) bytes) (sym spelled)
    ∙ ap (λ (n : ℕ). number_bytes order w32 n ++ drop (place + 4) bytes) (sym (number_at order place bytes rest refl))

pub whole : (bytes : List ℕ) (ps : List FieldPlace) → 16 ≤ length bytes → AreBytes bytes → (limit : ℕ) → limit ≤ 134217728 → announced limit bytes ≡ Ok (length bytes) → HaveFields (order_of bytes) bytes (fields_end bytes) ps
    → all_zero (part (fields_end bytes) (body_begin bytes) bytes) ≡ true → unplaced (required (kind_of (get_or bytes 1 0))) ps ≡ None
    → ((types : Tys) → signature_of (signature_part (place_of (code_of field.Signature) ps) bytes) ≡ Ok types → IsBody (order_of bytes) types (drop (body_begin bytes) bytes)) → IsWhole bytes ps
whole bytes ps fixed fits limit small e have gap complete body_told =
    let order : Order = order_of bytes in
    let a = announced_facts limit bytes (length bytes) e in
    let n : ℕ = number order fields_place bytes in
    let sent : List Field = have.sent in
    let end : ℕ = fields_end bytes in
    let begin : ℕ = body_begin bytes in
    let inside : List ℕ = part fixed_length end bytes in
    let body : List ℕ = drop begin bytes in
    let array : List ℕ = number_bytes order w32 (length inside) ++ inside in
    let ends : end ≤ length bytes = omega (arith, a.length) in
    let begins : begin ≤ length bytes = omega (arith, a.length) in
    let size : length inside ≡ n = length_part bytes fixed_length end (omega arith) ends ∙ omega arith in
    let array_size : length array ≡ 4 + n = length-append (number_bytes order w32 (length inside)) inside ∙ ap (λ (k : ℕ). k + length inside) (length-number order (length inside)) ∙ ap (λ (k : ℕ). 4 + k) size in
    let body_size : number order body_length_place bytes ≡ length body = omega (arith, length-drop begin bytes, a.length) in
    let types : Tys = body_types sent in
    let b = body_told types (signature_told order bytes ps sent have.placed) in
    let pad : part end begin bytes ≡ pads 8 (fields_place + length array) =
    zeros (part end begin bytes) gap ∙ ap (λ (k : ℕ). replicate k 0) (length_part bytes end begin (omega arith) begins ∙ omega (arith, array_size)) in
    let at16 : drop 16 bytes ≡ inside ++ (pads 8 (fields_place + length array) ++ body) =
    sym (take-append-drop (end - 16) (drop 16 bytes)) ∙ ap (λ (x : List ℕ). inside ++ x) (drop-drop (end - 16) 16 bytes ∙ ap (λ (k : ℕ). drop k bytes) (omega arith)
    ∙ sym (take-append-drop (begin - end) (drop end bytes)) ∙ ap (λ (x : List ℕ). part end begin bytes ++ x) (drop-drop (begin - end) end bytes ∙ ap (λ (k : ℕ). drop k bytes) (omega arith))
    ∙ ap (λ (x : List ℕ). x ++ body) pad) in
    let at12 : drop 12 bytes ≡ array ++ (pads 8 (fields_place + length array) ++ body) =
    number_part order 12 bytes fixed fits ∙ ap (λ (k : ℕ). number_bytes order w32 k ++ drop 16 bytes) (sym size) ∙ ap (λ (x : List ℕ). number_bytes order w32 (length inside) ++ x) at16
    ∙ sym (append_assoc (number_bytes order w32 (length inside)) inside (pads 8 (fields_place + length array) ++ body)) in
    let at8 : drop 8 bytes ≡ number_bytes order w32 (number order serial_place bytes) ++ (array ++ (pads 8 (fields_place + length array) ++ body)) =
    number_part order 8 bytes (omega arith) fits ∙ ap (λ (x : List ℕ). number_bytes order w32 (number order serial_place bytes) ++ x) at12 in
    let at4 : drop 4 bytes ≡ number_bytes order w32 (length body) ++ (number_bytes order w32 (number order serial_place bytes) ++ (array ++ (pads 8 (fields_place + length array) ++ body))) =
    number_part order 4 bytes (omega arith) fits ∙ ap (λ (k : ℕ). number_bytes order w32 k ++ drop 8 bytes) body_size ∙ ap (λ (x : List ℕ). number_bytes order w32 (length body) ++ x) at8 in
    let m : Message = record { order = order; kind = get_or bytes 1 0; flags = get_or bytes 2 0; serial = number order serial_place bytes; fields = by_code sent; types = types; body = b.values } in
    let is_sent : IsSent sent bytes m = record {
      array_bytes = array;
      body_bytes = body;
      array_spelled = (lit< tt, refl, inside, omega (arith, size, a.fields), have.spelled.spelled, refl);
      body_spelled = b.spelled;
      permitted = have.spelled.permitted;
      complete = missing_is order bytes (required (kind_of (get_or bytes 1 0))) ps sent have.placed ∙ complete;
      signed = refl;
      kind = (a.kind, omega (arith, fits 1));
      flags = omega (arith, fits 2);
      serial = (a.serial, number_small order serial_place bytes fits);
      fits = omega (arith, length-drop begin bytes, a.within, small);
      whole = four_first bytes (omega arith) ∙ ap (λ (c : ℕ). c ∷ get_or bytes 1 0 ∷ get_or bytes 2 0 ∷ get_or bytes 3 0 ∷ drop 4 bytes) a.first
          ∙ ap (λ (c : ℕ). order_byte order ∷ get_or bytes 1 0 ∷ get_or bytes 2 0 ∷ c ∷ drop 4 bytes) a.version
          ∙ ap (λ (x : List ℕ). order_byte order ∷ get_or bytes 1 0 ∷ get_or bytes 2 0 ∷ protocol_version ∷ x) at4;
    } in
    let message : IsMessage bytes m = record { sent = sent; is_sent = is_sent; sorted = refl } in
    let same : said bytes ≡ m = said_is bytes m message in
    record {
      is_message = subst (IsMessage bytes) (sym same) message;
      placed = subst (ArePlaced order bytes ps) (sym (ap (λ (x : Message). x.fields) same)) have.placed;
      begins = begins;
    }
