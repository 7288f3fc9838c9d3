-- The rules of one connection.
use Rattle.std.specs.Prelude.{List}
use Rattle.std.specs.List.{flat_map}
use Rattle.match_rules.specs.Rules.{Rule}
use Rattle.match_index.specs.Entries.{rule_at}
use Rattle.match_index.specs.PlaceIndexes.{places_in}
use Rattle.match_index.specs.declared.index.RulesOf.{RulesOf}

-- those that are not lent yet
abbrev pub rules_left : RulesOf → List Rule
rules_left r = flat_map (rule_at r.entries.now) (places_in r.places.now)
