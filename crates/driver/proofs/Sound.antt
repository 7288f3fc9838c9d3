-- The fields of the messages of the bus.
use Rattle.std.proofs.Common.{◌≡◌, ℕ, ◌<◌, ◌^◌, Option, List, ◌∷◌, refl, ap, ◌∙◌, lit<, arith}
use Rattle.names.specs.BusName.{bus_text}
use Rattle.names.specs.Member.{IsMember}
use Rattle.names.proofs.Faults.{none_interface, none_member}
use Rattle.marshal_core.specs.Signatures.{IsSignature}
use Rattle.marshal_core.specs.Types.{Tys}
use Rattle.marshal_core.specs.Values.{a_string, a_uint32, an_object_path}
use Rattle.match_rules.specs.declared.kind.MessageKind.TheVariants as kind
use Rattle.driver.specs.Errors.{error_name}
use Rattle.seq_bus_core.specs.declared.error_kind.ErrorKind.{ErrorKind}
use Rattle.seq_bus_core.specs.declared.signal.BusSignal.{BusSignal}
use Rattle.seq_bus_core.specs.declared.signal.BusSignal.TheVariants.{NameOwnerChanged, NameLost, NameAcquired}
use Rattle.message_core.specs.declared.header_field.HeaderField.TheVariants as field
use Rattle.message_core.specs.HeaderFields.{Field}
use Rattle.message_core.specs.Headers.{known_field}
use Rattle.driver.specs.Answered.{ReplyTo}
use Rattle.driver.specs.OwnMessages.{bus_path, signal_member, signal_destination, signal_texts, string_types}
use Rattle.driver.specs.Layout.{end_fields, IsNamed}
use Rattle.driver.proofs.Errors.{fits}
use Rattle.driver.proofs.Written.{Sound, known, end_rises, end_signed, rises_below}

abbrev pub reply_fields : ReplyTo → Tys → List Field
reply_fields to types = known_field field.ReplySerial (a_uint32 to.call) ∷ end_fields to.caller types

abbrev pub error_fields : ReplyTo → ErrorKind → Tys → List Field
error_fields to error types = known_field field.ErrorName (a_string (error_name error)) ∷ reply_fields to types

abbrev pub signal_fields : BusSignal → Tys → List Field
signal_fields signal types =
    known_field field.Path (an_object_path bus_path) ∷ known_field field.Interface (a_string bus_text) ∷ known_field field.Member (a_string (signal_member signal)) ∷ end_fields (signal_destination signal) types

-- The caller and the serial are all of it.
pub reply_is : (to : ReplyTo) (caller : Option ℕ) (call : ℕ) → caller ≡ to.caller → call ≡ to.call → record { caller = caller; call = call } ≡ to
reply_is to caller call same_caller same_call =
    let by_caller : Option ℕ → ReplyTo = λ c. record { caller = c; call = call } in
    let by_call : ℕ → ReplyTo = λ n. record { caller = to.caller; call = n } in
    ap by_caller same_caller ∙ ap by_call same_call

pub reply_sound : (serial : ℕ) (to : ReplyTo) (types : Tys) → (0 < serial) × (serial < 2 ^ 32) → 0 < to.call → IsNamed to.caller → Sound kind.MethodReturn serial (reply_fields to types) types
reply_sound serial to types is call named = record {
  rising = (lit< tt, known field.ReplySerial (a_uint32 to.call) call, end_rises to.caller types named);
  complete = refl;
  signed = end_signed to.caller types;
  is_kind = (lit< tt, lit< tt);
  is_serial = is;
}

pub error_sound : (serial : ℕ) (to : ReplyTo) (error : ErrorKind) (types : Tys) → (0 < serial) × (serial < 2 ^ 32) → 0 < to.call → IsNamed to.caller → Sound kind.Error serial (error_fields to error types) types
error_sound serial to error types is call named = record {
  rising = (lit< tt, known field.ErrorName (a_string (error_name error)) (fits error).is_name, (lit< tt, known field.ReplySerial (a_uint32 to.call) call, end_rises to.caller types named));
  complete = refl;
  signed = end_signed to.caller types;
  is_kind = (lit< tt, lit< tt);
  is_serial = is;
}

is_member : (signal : BusSignal) → IsMember (signal_member signal)
is_member (NameOwnerChanged name old_owner new_owner) = none_member (signal_member (NameOwnerChanged name old_owner new_owner)) refl
is_member (NameLost name owner) = none_member (signal_member (NameLost name owner)) refl
is_member (NameAcquired name owner) = none_member (signal_member (NameAcquired name owner)) refl

pub signal_sound : (serial : ℕ) (signal : BusSignal) (types : Tys) → (0 < serial) × (serial < 2 ^ 32) → IsNamed (signal_destination signal) → Sound kind.Signal serial (signal_fields signal types) types
signal_sound serial signal types is named = record {
  rising = (
    lit< tt,
    known field.Path (an_object_path bus_path) refl,
    (
      lit< tt,
      known field.Interface (a_string bus_text) (none_interface bus_text refl),
      (lit< tt, known field.Member (a_string (signal_member signal)) (is_member signal), rises_below 3 5 (end_fields (signal_destination signal) types) (omega arith) (end_rises (signal_destination signal) types named)),
    ),
  );
  complete = refl;
  signed = end_signed (signal_destination signal) types;
  is_kind = (lit< tt, lit< tt);
  is_serial = is;
}

pub signal_signed : (signal : BusSignal) → IsSignature (string_types (signal_texts signal))
signal_signed (NameOwnerChanged name old_owner new_owner) = refl
signal_signed (NameLost name owner) = refl
signal_signed (NameAcquired name owner) = refl
