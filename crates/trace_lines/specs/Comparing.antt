-- Whether words are the same.
use Rattle.std.specs.Prelude.{Bool, true, false, ◌&&◌, List, [], ◌∷◌}
use Rattle.names.specs.Texts.{Text, text_eq}

abbrev pub same_words : List Text → List Text → Bool
same_words [] [] = true
same_words [] (word ∷ words) = false
same_words (word ∷ words) [] = false
same_words (word ∷ words) (other ∷ others) = text_eq word other && same_words words others
