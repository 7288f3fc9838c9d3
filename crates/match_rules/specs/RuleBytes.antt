-- How a rule is kept in one run of bytes: for each key a byte, two bytes for the length of its value, the lower first, and the value.
use Rattle.std.specs.Prelude.{ℕ, zero, suc, ◌+◌, ◌*◌, ◌/◌, ◌%◌, [], ◌∷◌, length, take, drop}
use Rattle.std.specs.List.{flat_map, slice_index_or}
use Rattle.names.specs.Texts.{Text}
use Rattle.match_rules.specs.declared.key.Key.{Key}
use Rattle.match_rules.specs.declared.key.Key.TheVariants.{Eavesdrop}
use Rattle.match_rules.specs.Keys.{key_place, all_keys}
use Rattle.match_rules.specs.Rules.{Rule}

abbrev pub entry_bytes : Key × Text → Text
entry_bytes entry = key_place entry.0 ∷ length entry.1 % 256 ∷ length entry.1 / 256 ∷ entry.1

abbrev pub rule_bytes : Rule → Text
rule_bytes rule = flat_map entry_bytes rule

-- the entries that stand in a run of bytes, at most as many as the first number
abbrev pub entries_in : ℕ → Text → Rule
entries_in zero bytes = []
entries_in (suc more) (place ∷ low ∷ high ∷ bytes) = (slice_index_or all_keys place Eavesdrop, take (low + 256 * high) bytes) ∷ entries_in more (drop (low + 256 * high) bytes)
entries_in (suc more) bytes = []

abbrev pub rule_in : Text → Rule
rule_in bytes = entries_in (length bytes) bytes
