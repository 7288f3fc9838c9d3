-- How the messages of the bus lie in their bytes.
use Rattle.std.specs.Prelude.{ℕ, ◌+◌, List, [], ◌∷◌, ◌++◌, length}
use Rattle.names.specs.Texts.{Text}
use Rattle.names.specs.BusName.{bus_text}
use Rattle.names.specs.UniqueName.{unique_text, IsUniqueName}
use Rattle.marshal_core.specs.declared.order.Order.TheVariants.{Little}
use Rattle.marshal_core.specs.Types.{Tys}
use Rattle.marshal_core.specs.Values.{a_string}
use Rattle.marshal_core.specs.Spelling.{text_spelling}
use Rattle.message_core.specs.declared.header_field.HeaderField.TheVariants as field
use Rattle.message_core.specs.declared.header.TheConstants.{NO_REPLY_EXPECTED}
use Rattle.message_core.specs.HeaderFields.{Field}
use Rattle.message_core.specs.Headers.{optional_field, signature_field, whole_bytes}
use Rattle.std.specs.Prelude.{Option, Some, None, option_map}

-- the fields that all messages of the bus end with
abbrev pub end_fields : Option ℕ → Tys → List Field
end_fields to types = optional_field field.Destination a_string (option_map unique_text to) ++ optional_field field.Sender a_string (Some bus_text) ++ signature_field types

-- the number, if there is one, is that of a connection that has a name
abbrev pub IsNamed : Option ℕ → Type 0
IsNamed None = Unit {0}
IsNamed (Some number) = IsUniqueName (unique_text number)

-- a message of the bus as it lies in its bytes, with these fields and this body
abbrev pub own_bytes : (kind serial : ℕ) (fields body : List ℕ) → List ℕ
own_bytes kind serial fields body =
    whole_bytes Little kind NO_REPLY_EXPECTED serial fields body

-- strings one after the other, from a place on
abbrev pub spelled_strings : ℕ → List Text → List ℕ
spelled_strings at [] = []
spelled_strings at (text ∷ texts) = text_spelling Little at text ++ spelled_strings (at + length (text_spelling Little at text)) texts
