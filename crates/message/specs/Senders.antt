-- Who sent a message, after "Header Fields" of the D-Bus Specification: on a bus the field SENDER is the bus's to set.
use Rattle.std.specs.Prelude.{ℕ, List, [], ◌∷◌, ◌==◌, nat_lt, if◌then◌else◌}
use Rattle.names.specs.Texts.{Text}
use Rattle.marshal_core.specs.Values.{a_string}
use Rattle.message_core.specs.declared.header_field.HeaderField.TheVariants as field
use Rattle.message_core.specs.Kinds.{code_of}
use Rattle.message_core.specs.HeaderFields.{Field, insert_field}
use Rattle.message_core.specs.Headers.{known_field}
use Rattle.message_core.specs.Messages.{Message}

-- SENDER with this name
abbrev pub sender_field : Text → Field
sender_field name = known_field field.Sender (a_string name)

-- the fields but SENDER
abbrev pub without_sender : List Field → List Field
without_sender [] = []
without_sender (f ∷ fs) = if f.code == code_of field.Sender then without_sender fs else f ∷ without_sender fs

-- the least code that the standard names no field of
abbrev pub first_unknown : ℕ
first_unknown = 10

-- the fields of known codes
abbrev pub known_fields : List Field → List Field
known_fields [] = []
known_fields (f ∷ fs) = if nat_lt f.code first_unknown then f ∷ known_fields fs else known_fields fs

-- the same message with SENDER set to this name, whatever stood there, without its fields of unknown codes, and all else kept
abbrev pub sent_by : Text → Message → Message
sent_by name m = record m { fields = insert_field (sender_field name) (without_sender (known_fields m.fields)) }
