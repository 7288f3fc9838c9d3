-- What is laid out is the one writing of a message.
use Rattle.std.proofs.Common.{◌≡◌, ℕ, ◌+◌, ◌≤◌, ◌<◌, ◌^◌, List, [], ◌∷◌, ◌++◌, length, Option, Some, None, Result, Ok, Err, OnOk, refl, sym, ap, subst, ◌∙◌, append_assoc, arith, lit<, inl, inr, append-nil}
use Rattle.std.specs.List.{AllByRecursion}
use Rattle.std.specs.Int.{w32}
use Rattle.std.proofs.lemmas.List.{length-append}
use Rattle.std.proofs.lemmas.Bool.{ne_eqb}
use Rattle.names.specs.Texts.{Text}
use Rattle.names.specs.BusName.{bus_text}
use Rattle.names.specs.UniqueName.{unique_text}
use Rattle.names.proofs.Faults.{none_well_known}
use Rattle.marshal_core.specs.declared.order.Order.TheVariants.{Little}
use Rattle.marshal_core.specs.Types.{Tys, no_types, more_types}
use Rattle.marshal_core.specs.Values.{BasicVal, a_string, a_signature, Vals}
use Rattle.marshal_core.specs.Spelling.{IsString, number_bytes, pads, max_container_depth, SpellFields, Spells, text_spelling}
use Rattle.marshal_core.proofs.Results.{leb_true}
use Rattle.match_rules.specs.declared.kind.MessageKind.{MessageKind}
use Rattle.match_rules.specs.Kinds.{kind_number, kind_of}
use Rattle.message_core.specs.declared.header.TheConstants.{NO_REPLY_EXPECTED}
use Rattle.message_core.specs.declared.header_field.HeaderField.{HeaderField}
use Rattle.message_core.specs.declared.header_field.HeaderField.TheVariants as field
use Rattle.message_core.specs.Announcements.{fields_place, order_byte, protocol_version}
use Rattle.message_core.specs.Kinds.{code_of, required}
use Rattle.message_core.specs.HeaderFields.{Field, IsBasicOf, IsField, AreFields, value_of, missing, by_code, insert_field, body_types, types_in}
use Rattle.message_core.specs.Messages.{Message, IsWritten}
use Rattle.message_core.specs.Headers.{AreWritten, known_field, optional_field, signature_field}
use Rattle.message_core.proofs.FieldReading.{same_field}
use Rattle.message_core.proofs.Strings.{length-number}
use Rattle.driver.specs.OwnMessages.{Writes, string_types, string_values}
use Rattle.driver.specs.Layout.{end_fields, IsNamed, own_bytes, spelled_strings}

-- ---- fields by rising code

-- fields above a code, by rising code, each with a value that it takes
abbrev pub Rise : ℕ → List Field → Type 0
Rise low [] = Unit {0}
Rise low (f ∷ fs) = (low < f.code) × IsField f × Rise f.code fs

abbrev UpTo : ℕ → List Field → Type 0
UpTo high [] = Unit {0}
UpTo high (f ∷ fs) = (f.code ≤ high) × UpTo high fs

none_up : (k : HeaderField) (high : ℕ) (fs : List Field) → UpTo high fs → high < code_of k → value_of k fs ≡ None
none_up k high [] h less = refl
none_up k high (f ∷ fs) h less = rw (ne_eqb f.code (code_of k) (λ e. omega (arith, e, h.0, less))) (none_up k high fs h.1 less)

up_more : (high : ℕ) (fs : List Field) (f : Field) → UpTo high fs → high < f.code → UpTo f.code (fs ++ f ∷ [])
up_more high [] f h less = (omega arith, tt)
up_more high (g ∷ gs) f h less = (omega (arith, h.0, less), up_more high gs f h.1 less)

permitted_from : (before fs : List Field) (low : ℕ) → UpTo low before → Rise low fs → AreFields before fs
permitted_from before [] low up rise = tt
permitted_from before (f ∷ fs) low up rise =
    ((rise.1, λ k e. none_up k low before up (omega (arith, e, rise.0))), permitted_from (before ++ f ∷ []) fs f.code (up_more low before f up rise.0) rise.2)

sorted_again : (low : ℕ) (fs : List Field) → Rise low fs → by_code fs ≡ fs
sorted_again low [] h = refl
sorted_again low (f ∷ []) h = refl
sorted_again low (f ∷ g ∷ gs) h = ap (insert_field f) (sorted_again f.code (g ∷ gs) h.2) ∙ rw (leb_true f.code g.code (omega (arith, h.2.0))) refl

positive : (k : HeaderField) → 0 < code_of k
positive field.Path = omega arith
positive field.Interface = omega arith
positive field.Member = omega arith
positive field.ErrorName = omega arith
positive field.ReplySerial = omega arith
positive field.Destination = omega arith
positive field.Sender = omega arith
positive field.Signature = omega arith
positive field.UnixFds = omega arith

pub known : (k : HeaderField) (v : BasicVal) → IsBasicOf k v → IsField (known_field k v)
known k v is = (positive k, λ j e. subst (λ (h : HeaderField). IsBasicOf h v) (same_field k j e) is)

sender_known : IsField (known_field field.Sender (a_string bus_text))
sender_known = known field.Sender (a_string bus_text) (inr (none_well_known bus_text refl))

sender_rises : (low : ℕ) (types : Tys) → low < 7 → Rise low (optional_field field.Sender a_string (Some bus_text) ++ signature_field types)
sender_rises low no_types less = (less, sender_known, tt)
sender_rises low (more_types t ts) less = (less, sender_known, (lit< tt, known field.Signature (a_signature (more_types t ts)) refl, tt))

pub end_rises : (to : Option ℕ) (types : Tys) → IsNamed to → Rise 5 (end_fields to types)
end_rises None types named = sender_rises 5 types (lit< tt)
end_rises (Some number) types named = (lit< tt, known field.Destination (a_string (unique_text number)) (inl named), sender_rises 6 types (lit< tt))

-- from a lower code
pub rises_below : (low high : ℕ) (fs : List Field) → low ≤ high → Rise high fs → Rise low fs
rises_below low high [] less h = tt
rises_below low high (f ∷ fs) less h = (omega (arith, less, h.0), h.1, h.2)

pub end_signed : (to : Option ℕ) (types : Tys) → types ≡ types_in (value_of field.Signature (end_fields to types))
end_signed None no_types = refl
end_signed None (more_types t ts) = refl
end_signed (Some number) no_types = refl
end_signed (Some number) (more_types t ts) = refl

-- ---- the whole

abbrev pub own : MessageKind → ℕ → List Field → Tys → Vals → Message
own kind serial fields types values = record {
  order = Little;
  kind = kind_number kind;
  flags = NO_REPLY_EXPECTED;
  serial = serial;
  fields = fields;
  types = types;
  body = values;
}

-- what a message of the bus has, whatever its body
pub record Sound (kind : MessageKind) (serial : ℕ) (fields : List Field) (types : Tys) : Type 0 where
  pub rising : Rise 0 fields
  pub complete : missing (required (kind_of (kind_number kind))) fields ≡ None
  pub signed : types ≡ body_types fields
  pub is_kind : (0 < kind_number kind) × (kind_number kind < 2 ^ 8)
  pub is_serial : (0 < serial) × (serial < 2 ^ 32)

pub is_written : (kind : MessageKind) (serial : ℕ) (fields : List Field) (types : Tys) (body_values : Vals) (array body bytes : List ℕ) → Sound kind serial fields types → length array ≤ 512 → length body < 2 ^ 32
    → AreWritten Little fields array → Spells Little 0 types body_values body → bytes ≡ own_bytes (kind_number kind) serial array body → IsWritten bytes (own kind serial fields types body_values)
is_written kind serial fields types body_values array body bytes sound short fits written spelled whole =
    let A : List ℕ = number_bytes Little w32 (length array) ++ array in
    let size : length A ≡ 4 + length array = length-append (number_bytes Little w32 (length array)) array ∙ ap (λ (k : ℕ). k + length array) (length-number Little (length array)) in
    let place : 16 + length array ≡ fields_place + length A = omega (arith, size) in
    let behind : List ℕ → List ℕ = λ x. (order_byte Little ∷ kind_number kind ∷ NO_REPLY_EXPECTED ∷ protocol_version ∷ []) ++ (number_bytes Little w32 (length body) ++ (number_bytes Little w32 serial ++ x)) in
    record {
      is_sent = record {
        array_bytes = A;
        body_bytes = body;
        array_spelled = (lit< tt, refl, array, omega (arith, short), written, refl);
        body_spelled = spelled;
        permitted = permitted_from [] fields 0 tt sound.rising;
        complete = sound.complete;
        signed = sound.signed;
        kind = sound.is_kind;
        flags = lit< tt;
        serial = sound.is_serial;
        fits = fits;
        whole = whole ∙ ap behind (sym (append_assoc (number_bytes Little w32 (length array)) array (pads 8 (16 + length array) ++ body))) ∙ ap (λ (n : ℕ). behind (A ++ (pads 8 n ++ body))) place;
      };
      sorted = sym (sorted_again 0 fields sound.rising);
    }

pub writes : {E : Type 0} → (r : Result (Unit {0}) E) (before after body bytes : List ℕ) (m : Message) → OnOk r (after ≡ before ++ bytes) → OnOk r (length body < 2 ^ 32) → (length body < 2 ^ 32 → IsWritten bytes m)
    → OnOk r (Writes before after m)
writes (Ok u) before after body bytes m e fits is = (bytes, is fits, e)
writes (Err f) before after body bytes m e fits is = tt

-- ---- bodies of strings

pub strings_spelled : (at : ℕ) (texts : List Text) → AllByRecursion IsString texts → SpellFields (string_values texts) max_container_depth Little at (string_types texts) (spelled_strings at texts)
strings_spelled at [] all = refl
strings_spelled at (text ∷ texts) all =
    let first : List ℕ = text_spelling Little at text in
    (first, spelled_strings (at + length first) texts, (refl, all.0, refl), strings_spelled (at + length first) texts all.1, refl)

pub one_spelled : (text body : List ℕ) → IsString text → body ≡ text_spelling Little 0 text → Spells Little 0 (string_types (text ∷ [])) (string_values (text ∷ [])) body
one_spelled text body is e = (refl, subst (SpellFields (string_values (text ∷ [])) max_container_depth Little 0 (string_types (text ∷ []))) (append-nil (text_spelling Little 0 text) ∙ sym e) (strings_spelled 0 (text ∷ []) (is, tt)))
