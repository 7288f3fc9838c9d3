-- The canonical text of a rule: its keys in order, each with its value as short as it can be written. (D-Bus Specification: "Match Rules")
use Rattle.std.specs.Prelude.{ℕ, Bool, ◌==◌, List, [], ◌∷◌, ◌++◌, if◌then◌else◌}
use Rattle.std.specs.List.{flat_map, list_any, slice_split}
use Rattle.names.specs.Texts.{Text}
use Rattle.match_rules.specs.declared.key.Key.{Key}
use Rattle.match_rules.specs.Keys.{key_text}
use Rattle.match_rules.specs.Rules.{Rule}
use Rattle.match_rules.specs.RuleTexts.{apostrophe, comma, equals, backslash}

abbrev pub is_apostrophe : ℕ → Bool
is_apostrophe b = b == apostrophe

abbrev pub is_comma : ℕ → Bool
is_comma b = b == comma

-- A part of a value that has no apostrophe stands between apostrophes only where it has a comma.
abbrev pub piece_text : Text → Text
piece_text piece = if list_any is_comma piece then apostrophe ∷ piece ++ apostrophe ∷ [] else piece

-- Between two such parts stands an apostrophe behind a backslash.
abbrev pub pieces_text : List Text → Text
pieces_text [] = []
pieces_text (piece ∷ others) = piece_text piece ++ flat_map (λ other. backslash ∷ apostrophe ∷ piece_text other) others

-- The apostrophes of a value part it.
abbrev pub value_text : Text → Text
value_text value = pieces_text (slice_split is_apostrophe value)

abbrev pub entry_text : Key × Text → Text
entry_text entry = key_text entry.0 ++ equals ∷ value_text entry.1

abbrev pub rule_text : Rule → Text
rule_text [] = []
rule_text (first ∷ others) = entry_text first ++ flat_map (λ entry. comma ∷ entry_text entry) others
