-- How contracts see parts that are left.
use Rattle.std.specs.Prelude.{ℕ, Option, Some, None, List, []}
use Rattle.std.specs.Borrow.{Bor}
use Rattle.names.specs.Texts.{Text}
use Rattle.trace_words.specs.Words.{parts}
use Rattle.trace_words.specs.declared.parts.Parts.{Parts}

-- none where nothing is left, not even an empty text
abbrev pub texts_left : ℕ → Option (Bor Text) → List Text
texts_left separator None = []
texts_left separator (Some text) = parts separator text.now

abbrev pub parts_left : Parts → List Text
parts_left left = texts_left left.separator left.rest
