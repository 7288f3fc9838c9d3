-- Match rules: keys, each with a value that it takes. (D-Bus Specification: "Match Rules")
use Rattle.std.specs.Prelude.{◌≡◌, ◌<◌, ◌⊎◌, Bool, true, false, ◌&&◌, Option, Some, None, List, [], ◌∷◌, if◌then◌else◌}
use Rattle.std.specs.List.{AllByRecursion}
use Rattle.names.specs.Texts.{Text, text_eq}
use Rattle.match_rules.specs.declared.key.Key.{Key}
use Rattle.match_rules.specs.declared.key.Key.TheVariants.{Path, PathNamespace}
use Rattle.match_rules.specs.Keys.{IsKey, key_place, same_key, Takes}

-- A finite map from keys to values: its keys rise, so that one map is one list.
abbrev pub Rule : Type 0
Rule = List (Key × Text)

-- the value of a key; none where the rule does not have it
abbrev pub value_at : Key → Rule → Option Text
value_at key [] = None
value_at key (entry ∷ rule) = if same_key entry.0 key then Some entry.1 else value_at key rule

abbrev pub IsRising : Rule → Type 0
IsRising [] = Unit {0}
IsRising (entry ∷ rule) = AllByRecursion (λ later. key_place entry.0 < key_place later.0) rule × IsRising rule

abbrev pub IsEntry : Key × Text → Type 0
IsEntry entry = IsKey entry.0 × Takes entry.0 entry.1

-- `path` and `path_namespace` do not stand in a rule together.
abbrev pub HasOnePath : Rule → Type 0
HasOnePath rule = (value_at Path rule ≡ None) ⊎ (value_at PathNamespace rule ≡ None)

abbrev pub IsRule : Rule → Type 0
IsRule rule = IsRising rule × AllByRecursion IsEntry rule × HasOnePath rule

-- the same keys with the same values
abbrev pub same_rule : Rule → Rule → Bool
same_rule [] [] = true
same_rule [] (b ∷ bs) = false
same_rule (a ∷ as') [] = false
same_rule (a ∷ as') (b ∷ bs) = same_key a.0 b.0 && text_eq a.1 b.1 && same_rule as' bs
