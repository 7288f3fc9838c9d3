-- Which text is which match rule. (D-Bus Specification: "Match Rules")
use Rattle.std.specs.Prelude.{◌≡◌, ◌≢◌, ℕ, ◌≤◌, List, [], ◌∷◌, ◌++◌, length, map}
use Rattle.std.specs.List.{flat_map, AllByRecursion}
use Rattle.std.specs.List.Sorted.{IsPermutation}
use Rattle.names.specs.Texts.{Text}
use Rattle.match_rules.specs.declared.key.Key.{Key}
use Rattle.match_rules.specs.declared.room.TheConstants.{MAX_RULE_LENGTH}
use Rattle.match_rules.specs.Keys.{key_text}
use Rattle.match_rules.specs.Rules.{Rule, IsRule}

abbrev pub apostrophe : ℕ
apostrophe = 39

abbrev pub comma : ℕ
comma = 44

abbrev pub equals : ℕ
equals = 61

abbrev pub backslash : ℕ
backslash = 92

-- A value is written in parts: bytes between two apostrophes, an apostrophe behind a backslash, or a byte as it is.
pub data Part : Type 0 where
  Quoted : Text → Part
  Escaped : Part
  Plain : ℕ → Part

abbrev pub part_text : Part → Text
part_text (Quoted bytes) = apostrophe ∷ bytes ++ apostrophe ∷ []
part_text Escaped = backslash ∷ apostrophe ∷ []
part_text (Plain b) = b ∷ []

abbrev pub part_value : Part → Text
part_value (Quoted bytes) = bytes
part_value Escaped = apostrophe ∷ []
part_value (Plain b) = b ∷ []

abbrev pub BeginsWithApostrophe : List Part → Type 0
BeginsWithApostrophe (Quoted bytes ∷ parts) = Unit {0}
BeginsWithApostrophe parts = ⊥

-- No apostrophe stands between apostrophes. No comma and no apostrophe stands as it is, nor a backslash before an apostrophe.
abbrev pub AreParts : List Part → Type 0
AreParts [] = Unit {0}
AreParts (Quoted bytes ∷ parts) = AllByRecursion (λ b. b ≢ apostrophe) bytes × AreParts parts
AreParts (Escaped ∷ parts) = AreParts parts
AreParts (Plain b ∷ parts) = (b ≢ comma) × (b ≢ apostrophe) × (b ≡ backslash → ¬ BeginsWithApostrophe parts) × AreParts parts

-- a key and its value, as they are written
pub record Item : Type 0 where
  pub key : Key
  pub parts : List Part

abbrev pub item_text : Item → Text
item_text item = key_text item.key ++ equals ∷ flat_map part_text item.parts

abbrev pub entry_of : Item → Key × Text
entry_of item = (item.key, flat_map part_value item.parts)

-- items with a comma between each two
abbrev pub joined : List Item → Text
joined [] = []
joined (first ∷ others) = item_text first ++ flat_map (λ item. comma ∷ item_text item) others

-- The text of a rule has an item for each of its keys, in any order.
abbrev pub IsRuleText : Text → Rule → Type 0
IsRuleText text rule =
    IsRule rule × (length text ≤ MAX_RULE_LENGTH)
    × ((items : List Item) × AllByRecursion (λ item. AreParts item.parts) items × IsPermutation (map entry_of items) rule × (text ≡ joined items))

-- The rule has a text.
abbrev pub HasText : Rule → Type 0
HasText rule = (text : Text) × IsRuleText text rule
