-- The parts of a message as they lie in its bytes.
use Rattle.std.specs.Prelude.{ℕ, List}
use Rattle.marshal_core.specs.Spelling.{Spells}
use Rattle.message_core.specs.declared.field_place.FieldPlace.{FieldPlace}
use Rattle.message_core.specs.Messages.{IsMessage}
use Rattle.message_core.specs.Said.{said}
use Rattle.message_core.specs.Places.{ArePlaced}

-- a message, the places of its fields by rising code, and the bytes of its body
pub record Lies (bytes body : List ℕ) (ps : List FieldPlace) : Type 0 where
  pub is_message : IsMessage bytes (said bytes)
  pub placed : ArePlaced (said bytes).order bytes ps (said bytes).fields
  pub spelled : Spells (said bytes).order 0 (said bytes).types (said bytes).body body
