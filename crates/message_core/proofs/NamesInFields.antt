-- Names in header fields are strings.
use Rattle.std.proofs.Common.{◌<◌, ◌^◌, length}
use Rattle.std.proofs.lemmas.Str.{IsUtf8-from_ascii}
use Rattle.names.specs.Texts.{Text, IsPlain}
use Rattle.names.specs.ObjectPath.{IsObjectPath}
use Rattle.names.proofs.Plain.{bus_name_plain, interface_plain, member_plain, object_path_plain}
use Rattle.marshal_core.specs.Spelling.{IsString}
use Rattle.message_core.specs.declared.header_field.HeaderField.{HeaderField}
use Rattle.message_core.specs.declared.header_field.HeaderField.TheVariants as field
use Rattle.message_core.specs.HeaderFields.{IsStringOf}

plain_string : (text : Text) → length text < 2 ^ 32 → IsPlain text → IsString text
plain_string text small plain = (small, IsUtf8-from_ascii text plain.0, plain.1)

-- what a field takes as a string
pub string_of_field : (k : HeaderField) (text : Text) → length text < 2 ^ 32 → IsStringOf k text → IsString text
string_of_field field.Interface text small is = plain_string text small (interface_plain text is).1
string_of_field field.Member text small is = plain_string text small (member_plain text is).1
string_of_field field.ErrorName text small is = plain_string text small (interface_plain text is).1
string_of_field field.Destination text small is = plain_string text small (bus_name_plain text is).1
string_of_field field.Sender text small is = plain_string text small (bus_name_plain text is).1
string_of_field field.Path text small is = absurd is
string_of_field field.ReplySerial text small is = absurd is
string_of_field field.Signature text small is = absurd is
string_of_field field.UnixFds text small is = absurd is

pub string_of_path : (text : Text) → length text < 2 ^ 32 → IsObjectPath text → IsString text
string_of_path text small is = plain_string text small (object_path_plain text is)
