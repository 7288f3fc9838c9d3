-- The messages of the bus itself. (D-Bus Specification: "Message Bus Messages")
use Rattle.std.specs.Prelude.{◌≡◌, ℕ, Option, Some, None, option_map, List, [], ◌∷◌, ◌++◌, codes}
use Rattle.names.specs.Texts.{Text}
use Rattle.names.specs.BusName.{bus_text}
use Rattle.names.specs.UniqueName.{unique_text}
use Rattle.marshal_core.specs.declared.order.Order.TheVariants.{Little}
use Rattle.marshal_core.specs.declared.data_type.BasicType.TheVariants as of_type
use Rattle.marshal_core.specs.Types.{Tys, basic, array, no_types, more_types, one_type}
use Rattle.marshal_core.specs.Values.{a_string, a_uint32, a_basic, Vals, no_values, more_values}
use Rattle.marshal_core.specs.Spelling.{Spells}
use Rattle.match_rules.specs.declared.kind.MessageKind.{MessageKind}
use Rattle.match_rules.specs.declared.kind.MessageKind.TheVariants as kind
use Rattle.driver.specs.Errors.{error_name, error_text}
use Rattle.seq_bus_core.specs.declared.error_kind.ErrorKind.{ErrorKind}
use Rattle.seq_bus_core.specs.declared.signal.BusSignal.{BusSignal}
use Rattle.seq_bus_core.specs.declared.signal.BusSignal.TheVariants.{NameOwnerChanged, NameLost, NameAcquired}
pub use Rattle.seq_bus_core.specs.Steps.{bus_path, owner_text}
use Rattle.message_core.specs.declared.header.Header.{Header}
use Rattle.message_core.specs.declared.header.TheConstants.{NO_REPLY_EXPECTED}
use Rattle.message_core.specs.Messages.{Message, IsWritten}
use Rattle.message_core.specs.Headers.{message_of}
use Rattle.driver.specs.Answered.{ReplyTo}
use Rattle.driver.specs.declared.reply.BodyKind.{BodyKind}
use Rattle.driver.specs.declared.reply.BodyKind.TheVariants as of_kind
use Rattle.driver.specs.declared.reply.ReplyBody.{ReplyBody}
use Rattle.driver.specs.declared.reply.ReplyBody.TheVariants as carries
use Rattle.driver.specs.declared.reply.SpelledBody.{SpelledBody}

-- ## Headers

-- what all messages of the bus have: little-endian, without wish for a reply, from the bus, to a connection that has a name
abbrev pub plain_header : MessageKind → ℕ → Option ℕ → Header
plain_header kind serial to = record {
  order = Little;
  kind = kind;
  flags = NO_REPLY_EXPECTED;
  serial = serial;
  path = None;
  interface = None;
  member = None;
  error_name = None;
  reply_serial = None;
  destination = option_map unique_text to;
  sender = Some bus_text;
}

abbrev pub reply_header : ℕ → ReplyTo → Header
reply_header serial to = record (plain_header kind.MethodReturn serial to.caller) { reply_serial = Some to.call }

abbrev pub error_header : ℕ → ReplyTo → ErrorKind → Header
error_header serial to error = record (plain_header kind.Error serial to.caller) { error_name = Some (error_name error); reply_serial = Some to.call }

abbrev pub signal_member : BusSignal → Text
signal_member (NameOwnerChanged name old_owner new_owner) = codes "NameOwnerChanged"
signal_member (NameLost name owner) = codes "NameLost"
signal_member (NameAcquired name owner) = codes "NameAcquired"

-- the one connection that a signal is for; NameOwnerChanged is for all whose rules fit
abbrev pub signal_destination : BusSignal → Option ℕ
signal_destination (NameOwnerChanged name old_owner new_owner) = None
signal_destination (NameLost name owner) = Some owner
signal_destination (NameAcquired name owner) = Some owner

abbrev pub signal_header : ℕ → BusSignal → Header
signal_header serial signal = record (plain_header kind.Signal serial (signal_destination signal)) {
  path = Some bus_path;
  interface = Some bus_text;
  member = Some (signal_member signal);
}

-- ## Bodies

abbrev pub string_types : List Text → Tys
string_types [] = no_types
string_types (text ∷ texts) = more_types (basic of_type.String) (string_types texts)

abbrev pub string_values : List Text → Vals
string_values [] = no_values
string_values (text ∷ texts) = more_values (a_basic (a_string text)) (string_values texts)

abbrev pub number_types : Tys
number_types = one_type (basic of_type.Uint32)

abbrev pub number_values : ℕ → Vals
number_values n = more_values (a_basic (a_uint32 n)) no_values

-- no owner is an empty text
abbrev pub signal_texts : BusSignal → List Text
signal_texts (NameOwnerChanged name old_owner new_owner) = name ∷ owner_text old_owner ∷ owner_text new_owner ∷ []
signal_texts (NameLost name owner) = name ∷ []
signal_texts (NameAcquired name owner) = name ∷ []

abbrev pub types_for : BodyKind → Tys
types_for of_kind.String = one_type (basic of_type.String)
types_for of_kind.Boolean = one_type (basic of_type.Boolean)
types_for of_kind.Strings = one_type (array (basic of_type.String))

-- the body of a reply; the answer to a query comes spelled, as the bus appends it
abbrev pub IsReplyBody : ReplyBody SpelledBody → Tys → Vals → Type 0
IsReplyBody carries.Empty types values = (types ≡ no_types) × (values ≡ no_values)
IsReplyBody (carries.Number n) types values = (types ≡ number_types) × (values ≡ number_values n)
IsReplyBody (carries.UniqueName number) types values = (types ≡ string_types (unique_text number ∷ [])) × (values ≡ string_values (unique_text number ∷ []))
IsReplyBody (carries.Answer answer) types values = (types ≡ types_for answer.kind) × Spells Little 0 types values answer.bytes.now

-- ## Messages

abbrev pub of_strings : Header → List Text → Message
of_strings header texts = message_of header (string_types texts) (string_values texts)

abbrev pub error_message : ℕ → ReplyTo → ErrorKind → Message
error_message serial to error = of_strings (error_header serial to error) (error_text error ∷ [])

abbrev pub signal_message : ℕ → BusSignal → Message
signal_message serial signal = of_strings (signal_header serial signal) (signal_texts signal)

-- the message is appended as its one writing
abbrev pub Writes : (before after : List ℕ) → Message → Type 0
Writes before after m = (bytes : List ℕ) × IsWritten bytes m × (after ≡ before ++ bytes)
