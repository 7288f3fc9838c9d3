-- The keys of match rules, and the values that they take. (D-Bus Specification: "Match Rules")
use Rattle.std.specs.Prelude.{ℕ, ◌≡◌, ◌+◌, ◌<◌, ◌⊎◌, Bool, ◌==◌, Some, List, [], ◌∷◌, ◌++◌, map, codes, decimal}
use Rattle.std.specs.List.{range_with_len}
use Rattle.names.specs.Texts.{Text}
use Rattle.names.specs.BusName.{IsBusName}
use Rattle.names.specs.UniqueName.{IsUniqueName}
use Rattle.names.specs.WellKnown.{IsNamespace}
use Rattle.names.specs.Interface.{IsInterface}
use Rattle.names.specs.Member.{IsMember}
use Rattle.names.specs.ObjectPath.{IsObjectPath}
use Rattle.match_rules.specs.declared.kind.MessageKind.{MessageKind}
use Rattle.match_rules.specs.declared.key.Key.{Key}
use Rattle.match_rules.specs.declared.key.Key.TheVariants.{«Type» as MessageType, Sender, Interface, Member, Path, PathNamespace, Destination, Argument, ArgumentPath, Argument0Namespace, Eavesdrop}
use Rattle.match_rules.specs.Kinds.{kind_word}

-- Rules look at the arguments with a number below this.
abbrev pub max_arguments : ℕ
max_arguments = 64

abbrev pub IsKey : Key → Type 0
IsKey (Argument number) = number < max_arguments
IsKey (ArgumentPath number) = number < max_arguments
IsKey key = Unit {0}

-- how a key is written
abbrev pub key_text : Key → Text
key_text MessageType = codes "type"
key_text Sender = codes "sender"
key_text Interface = codes "interface"
key_text Member = codes "member"
key_text Path = codes "path"
key_text PathNamespace = codes "path_namespace"
key_text Destination = codes "destination"
key_text (Argument number) = codes "arg" ++ decimal number
key_text (ArgumentPath number) = codes "arg" ++ decimal number ++ codes "path"
key_text Argument0Namespace = codes "arg0namespace"
key_text Eavesdrop = codes "eavesdrop"

-- the place of a key in the order of keys, in which what costs least to look at comes first
abbrev pub key_place : Key → ℕ
key_place MessageType = 0
key_place Member = 1
key_place Interface = 2
key_place Path = 3
key_place PathNamespace = 4
key_place Sender = 5
key_place Destination = 6
key_place (Argument number) = 7 + number
key_place (ArgumentPath number) = 7 + max_arguments + number
key_place Argument0Namespace = 7 + max_arguments + max_arguments
key_place Eavesdrop = 8 + max_arguments + max_arguments

abbrev pub same_key : Key → Key → Bool
same_key a b = key_place a == key_place b

-- every key, in order
abbrev pub all_keys : List Key
all_keys =
    MessageType ∷ Member ∷ Interface ∷ Path ∷ PathNamespace ∷ Sender ∷ Destination ∷ []
    ++ map Argument (range_with_len 0 max_arguments)
    ++ map ArgumentPath (range_with_len 0 max_arguments)
    ++ Argument0Namespace ∷ Eavesdrop ∷ []

-- a value that a key takes
abbrev pub Takes : Key → Text → Type 0
Takes MessageType value = (kind : MessageKind) × (kind_word kind ≡ Some value)
Takes Sender value = IsBusName value
Takes Interface value = IsInterface value
Takes Member value = IsMember value
Takes Path value = IsObjectPath value
Takes PathNamespace value = IsObjectPath value
Takes Destination value = IsUniqueName value
Takes (Argument number) value = Unit {0}
Takes (ArgumentPath number) value = Unit {0}
Takes Argument0Namespace value = IsNamespace value
Takes Eavesdrop value = (value ≡ codes "true") ⊎ (value ≡ codes "false")

-- keys whose values are names or paths
abbrev pub TakesNames : Key → Type 0
TakesNames MessageType = ⊥
TakesNames (Argument number) = ⊥
TakesNames (ArgumentPath number) = ⊥
TakesNames Eavesdrop = ⊥
TakesNames key = Unit {0}
