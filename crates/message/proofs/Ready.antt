-- A message whose fields stand by rising code, written.
use Rattle.std.proofs.Common.{◌≡◌, ℕ, ◌+◌, ◌≤◌, ◌<◌, ◌^◌, Bool, true, false, cond, leb, List, [], ◌∷◌, ◌++◌, length, None, Result, refl, sym, ap, subst, ◌∙◌, append_assoc, arith, lit<}
use Rattle.std.specs.Prelude.{IsUtf8, ◌==◌}
use Rattle.std.specs.Result.{result_unwrap_or}
use Rattle.std.specs.Int.{w32}
use Rattle.std.specs.List.{AllByRecursion}
use Rattle.std.proofs.lemmas.List.{length-append}
use Rattle.names.specs.Texts.{Text}
use Rattle.names.specs.UniqueName.{IsUniqueName}
use Rattle.marshal_core.specs.declared.fault.MarshalFault.{MarshalFault}
use Rattle.marshal_core.specs.declared.order.Order.{Order}
use Rattle.marshal_core.specs.Spelling.{number_bytes, pads, Spells}
use Rattle.marshal.proofs.WrittenAgain.{is_written}
use Rattle.match_rules.specs.Kinds.{kind_of}
use Rattle.message_core.specs.declared.field_place.FieldPlace.{FieldPlace}
use Rattle.message_core.specs.declared.header_field.HeaderField.{HeaderField}
use Rattle.message_core.specs.declared.header_field.HeaderField.TheVariants as field
use Rattle.message_core.specs.Announcements.{order_byte, protocol_version, fixed_length, fields_place, max_fields_length}
use Rattle.message_core.specs.Kinds.{code_of, required}
use Rattle.message_core.specs.HeaderFields.{Field, IsField, value_of, missing, insert_field, by_code, types_in, body_types}
use Rattle.message_core.specs.Messages.{Message, IsMessage, IsWritten}
use Rattle.message_core.specs.Said.{said}
use Rattle.message_core.specs.Places.{SpellField, ArePlaced}
use Rattle.message_core.proofs.Sorting.{value_by_code}
use Rattle.message_core.proofs.Strings.{length-number}
use Rattle.message.specs.MessageBytes.{field_bytes, fields_bytes, body_bytes, message_bytes}
use Rattle.message.specs.Senders.{sender_field, without_sender, known_fields, sent_by}
use Rattle.message.specs.Layout.{sender_bytes}
use Rattle.message.proofs.Spelled.{AreSpelledSo, elements_spelled, bytes_of, are_spelled}
use Rattle.message.proofs.Rising.{Rises, rises_insert, by_code_rises, sorted_again, times, times_by_code, AreOnce, fields_all, are_once, are_fields, all_insert, all_by_code}
use Rattle.message.proofs.Known.{rises_known, all_known, spelled_known, fewer_known, value_known}
use Rattle.message.proofs.Names.{sender_spelled, sender_is, rises_without, all_without, once_sent, value_sent, missing_all, missing_sent}

-- all of a message but its length
pub record IsReady (m : Message) : Type 0 where
  pub spelled : AreSpelledSo m.order m.fields
  pub body : Spells m.order 0 m.types m.body (body_bytes m)
  pub all : AllByRecursion IsField m.fields
  pub once : AreOnce m.fields
  pub rises : Rises 0 m.fields
  pub complete : missing (required (kind_of m.kind)) m.fields ≡ None
  pub signed : m.types ≡ body_types m.fields
  pub kind : (0 < m.kind) × (m.kind < 2 ^ 8)
  pub flags : m.flags < 2 ^ 8
  pub serial : (0 < m.serial) × (m.serial < 2 ^ 32)
  pub fits : length (body_bytes m) < 2 ^ 32

pub ready_written : (m : Message) → IsReady m → length (fields_bytes m) ≤ max_fields_length → IsWritten (message_bytes m) m
unfolding message_bytes fields_bytes
ready_written m h short =
    let inside : List ℕ = fields_bytes m in
    let body : List ℕ = body_bytes m in
    let word : List ℕ = number_bytes m.order w32 (length inside) in
    let array : List ℕ = word ++ inside in
    let place : fixed_length + length inside ≡ fields_place + length array = omega (arith, length-append word inside, length-number m.order (length inside)) in
    let sorted : m.fields ≡ by_code m.fields = sym (sorted_again 0 m.fields h.rises) in
    let tail : word ++ (inside ++ (pads 8 (fixed_length + length inside) ++ body)) ≡ array ++ (pads 8 (fields_place + length array) ++ body) =
    sym (append_assoc word inside (pads 8 (fixed_length + length inside) ++ body)) ∙ ap (λ (n : ℕ). array ++ (pads 8 n ++ body)) place in
    record {
      is_sent = record {
        array_bytes = array;
        body_bytes = body;
        array_spelled = (lit< tt, refl, inside, short, elements_spelled m.order fixed_length m.fields h.spelled, refl);
        body_spelled = h.body;
        permitted = are_fields m.fields h.all h.once;
        complete = h.complete;
        signed = h.signed;
        kind = h.kind;
        flags = h.flags;
        serial = h.serial;
        fits = h.fits;
        whole = ap (λ (x : List ℕ). (order_byte m.order ∷ m.kind ∷ m.flags ∷ protocol_version ∷ []) ++ (number_bytes m.order w32 (length body) ++ (number_bytes m.order w32 m.serial ++ x))) tail;
      };
      sorted = sorted;
    }

-- ---- with another sender

spelled_insert : (order : Order) (f : Field) (fs : List Field) → SpellField order 0 f (field_bytes order f) → AreSpelledSo order fs → AreSpelledSo order (insert_field f fs)
spelled_insert order f [] h k = (h, tt)
spelled_insert order f (g ∷ gs) h k = at (leb f.code g.code) (spelled_insert order f gs h k.1) where
  at : (b : Bool) → AreSpelledSo order (insert_field f gs) → AreSpelledSo order (cond b (f ∷ g ∷ gs) (g ∷ insert_field f gs))
  at true ih = (h, k)
  at false ih = (k.0, ih)

spelled_without : (order : Order) (fs : List Field) → AreSpelledSo order fs → AreSpelledSo order (without_sender fs)
spelled_without order [] h = tt
spelled_without order (f ∷ fs) h = at (f.code == 7) (spelled_without order fs h.1) where
  at : (b : Bool) → AreSpelledSo order (without_sender fs) → AreSpelledSo order (cond b (without_sender fs) (f ∷ without_sender fs))
  at true ih = ih
  at false ih = (h.0, ih)

pub sender_written : (order : Order) (name : Text) → IsUniqueName name → IsUtf8 name → field_bytes order (sender_field name) ≡ sender_bytes order name
sender_written order name unique utf8 = bytes_of order (sender_field name) (sender_bytes order name) (sender_spelled order name unique utf8)

pub same_body : (name : Text) (m : Message) → body_bytes (sent_by name m) ≡ body_bytes m
unfolding body_bytes
same_body name m = refl

body_kept : (m : Message) (fs : List Field) → body_bytes (record m { fields = fs }) ≡ body_bytes m
unfolding body_bytes
body_kept m fs = refl

ready_known : (m : Message) → IsReady m → IsReady (record m { fields = known_fields m.fields })
ready_known m h = record {
  spelled = spelled_known m.order m.fields h.spelled;
  body = subst (Spells m.order 0 m.types m.body) (sym (body_kept m (known_fields m.fields))) h.body;
  all = all_known m.fields h.all;
  once = λ k. omega (arith, fewer_known (code_of k) m.fields, h.once k);
  rises = rises_known 0 m.fields h.rises;
  complete = missing_all (required (kind_of m.kind)) (known_fields m.fields) m.fields (λ k. value_known k m.fields) ∙ h.complete;
  signed = h.signed ∙ ap types_in (sym (value_known field.Signature m.fields));
  kind = h.kind;
  flags = h.flags;
  serial = h.serial;
  fits = subst (λ (x : List ℕ). length x < 2 ^ 32) (sym (body_kept m (known_fields m.fields))) h.fits;
}

ready_with_sender : (name : Text) (m : Message) → IsUniqueName name → IsUtf8 name → IsReady m → IsReady (record m { fields = insert_field (sender_field name) (without_sender m.fields) })
ready_with_sender name m unique utf8 h =
    let fields : List Field = insert_field (sender_field name) (without_sender m.fields) in
    let sender : SpellField m.order 0 (sender_field name) (field_bytes m.order (sender_field name)) =
    subst (SpellField m.order 0 (sender_field name)) (sym (sender_written m.order name unique utf8)) (sender_spelled m.order name unique utf8) in
    record {
      spelled = spelled_insert m.order (sender_field name) (without_sender m.fields) sender (spelled_without m.order m.fields h.spelled);
      body = subst (Spells m.order 0 m.types m.body) (sym (body_kept m fields)) h.body;
      all = all_insert (sender_field name) (without_sender m.fields) (sender_is name unique) (all_without m.fields h.all);
      once = once_sent name m.fields h.once;
      rises = rises_insert 0 (sender_field name) (without_sender m.fields) (omega arith) (rises_without 0 m.fields h.rises);
      complete = missing_sent name (kind_of m.kind) m.fields ∙ h.complete;
      signed = h.signed ∙ ap types_in (sym (value_sent name field.Signature m.fields refl));
      kind = h.kind;
      flags = h.flags;
      serial = h.serial;
      fits = subst (λ (x : List ℕ). length x < 2 ^ 32) (sym (body_kept m fields)) h.fits;
    }

pub ready_sent : (name : Text) (m : Message) → IsUniqueName name → IsUtf8 name → IsReady m → IsReady (sent_by name m)
ready_sent name m unique utf8 h = ready_with_sender name (record m { fields = known_fields m.fields }) unique utf8 (ready_known m h)

-- ---- as it was read

pub body_is : (m : Message) (body : List ℕ) → Spells m.order 0 m.types m.body body → body_bytes m ≡ body
unfolding body_bytes
body_is m body h = ap (λ (r : Result (List ℕ) MarshalFault). result_unwrap_or r []) (is_written m.order 0 m.types m.body body h)

pub ready_said : (bytes : List ℕ) (ps : List FieldPlace) → IsMessage bytes (said bytes) → ArePlaced (said bytes).order bytes ps (said bytes).fields → IsReady (said bytes)
ready_said bytes ps h placed =
    let s = h.is_sent in
    let m : Message = said bytes in
    let body : body_bytes m ≡ s.body_bytes = body_is m s.body_bytes s.body_spelled in
    let same : (k : HeaderField) → value_of k m.fields ≡ value_of k h.sent = λ k. ap (value_of k) h.sorted ∙ value_by_code k h.sent in
    record {
      spelled = are_spelled m.order bytes ps m.fields placed;
      body = subst (Spells m.order 0 m.types m.body) (sym body) s.body_spelled;
      all = subst (AllByRecursion IsField) (sym h.sorted) (all_by_code h.sent (fields_all [] h.sent s.permitted));
      once = λ k. subst (λ (n : ℕ). n ≤ 1) (sym (ap (times (code_of k)) h.sorted ∙ times_by_code (code_of k) h.sent)) (are_once h.sent s.permitted k);
      rises = subst (Rises 0) (sym h.sorted) (by_code_rises h.sent);
      complete = missing_all (required (kind_of m.kind)) m.fields h.sent same ∙ s.complete;
      signed = s.signed ∙ ap types_in (sym (same field.Signature));
      kind = s.kind;
      flags = s.flags;
      serial = s.serial;
      fits = subst (λ (x : List ℕ). length x < 2 ^ 32) (sym body) s.fits;
    }
