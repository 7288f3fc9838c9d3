-- The fields that the standard names, after "Message Format" and "Header Fields" of the D-Bus Specification.
use Rattle.std.specs.Prelude.{ℕ, List, [], ◌∷◌}
use Rattle.match_rules.specs.declared.kind.MessageKind.{MessageKind}
use Rattle.match_rules.specs.declared.kind.MessageKind.TheVariants.{MethodCall, MethodReturn, Error, Signal, Unknown}
use Rattle.message_core.specs.declared.header_field.HeaderField.{HeaderField}
use Rattle.message_core.specs.declared.header_field.HeaderField.TheVariants as field

-- the code of a header field
abbrev pub code_of : HeaderField → ℕ
code_of field.Path = 1
code_of field.Interface = 2
code_of field.Member = 3
code_of field.ErrorName = 4
code_of field.ReplySerial = 5
code_of field.Destination = 6
code_of field.Sender = 7
code_of field.Signature = 8
code_of field.UnixFds = 9

-- the fields that a message of a type must have, by rising code
abbrev pub required : MessageKind → List HeaderField
required MethodCall = field.Path ∷ field.Member ∷ []
required MethodReturn = field.ReplySerial ∷ []
required Error = field.ErrorName ∷ field.ReplySerial ∷ []
required Signal = field.Path ∷ field.Interface ∷ field.Member ∷ []
required (Unknown byte) = []
