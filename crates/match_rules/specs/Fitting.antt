-- Which match rules fit a message. (D-Bus Specification: "Match Rules")
use Rattle.std.specs.Prelude.{ℕ, ◌==◌, Bool, true, false, ◌&&◌, ◌||◌, Option, Some, None, [], ◌∷◌, ◌++◌, slice_get, if◌then◌else◌}
use Rattle.std.specs.List.{list_all, starts_with, ends_with}
use Rattle.names.specs.Texts.{Text, text_eq}
use Rattle.names.specs.BusName.{is_bus, is_unique}
use Rattle.names.specs.UniqueName.{unique_text}
use Rattle.names.specs.Elements.{dot, slash}
use Rattle.match_rules.specs.declared.key.Key.{Key}
use Rattle.match_rules.specs.declared.key.Key.TheVariants.{«Type» as MessageType, Sender, Interface, Member, Path, PathNamespace, Destination, Argument, ArgumentPath, Argument0Namespace, Eavesdrop}
use Rattle.match_rules.specs.Kinds.{kind_word}
use Rattle.match_rules.specs.Rules.{Rule}
use Rattle.match_rules.specs.Facts.{Facts, bus_number, Argument as Value, StringArgument, PathArgument}

-- the connection that a bus name stands for: the owner of a well-known name, the holder of a unique name
abbrev pub Heads : Type 0
Heads = Text → Option ℕ

abbrev pub is_number : ℕ → Option ℕ → Bool
is_number number None = false
is_number number (Some other) = other == number

abbrev pub is_text : Text → Option Text → Bool
is_text value None = false
is_text value (Some text) = text_eq text value

abbrev pub begins : Text → Text → Bool
begins front text = starts_with (λ a b. a == b) text front

abbrev pub is_sender : Heads → Text → ℕ → Bool
is_sender heads name sender =
    if is_bus name then sender == bus_number
    else if sender == bus_number then false
    else if is_unique name then text_eq name (unique_text sender)
    else is_number sender (heads name)

abbrev pub are_one_head : Option ℕ → Option ℕ → Bool
are_one_head None head = false
are_one_head (Some number) head = is_number number head

-- The message goes to a name that stands for the same connection as this one.
abbrev pub is_destination : Heads → Text → Option Text → Bool
is_destination heads name None = false
is_destination heads name (Some destination) = are_one_head (heads name) (heads destination)

abbrev pub root_path : Text
root_path = slash ∷ []

-- The path is this one or lies below it.
abbrev pub is_within_path : Text → Option Text → Bool
is_within_path value None = false
is_within_path value (Some path) = text_eq value root_path || text_eq path value || begins (value ++ slash ∷ []) path

abbrev pub ends_in_slash : Text → Bool
ends_in_slash text = ends_with (λ a b. a == b) text (slash ∷ [])

-- Both are equal, or one ends in a slash and begins the other.
abbrev pub are_paths_alike : Text → Text → Bool
are_paths_alike a b = text_eq a b || (ends_in_slash a && begins a b) || (ends_in_slash b && begins b a)

abbrev pub is_string_argument : Text → Option Value → Bool
is_string_argument value (Some (StringArgument text)) = text_eq text value
is_string_argument value argument = false

abbrev pub is_path_argument : Text → Option Value → Bool
is_path_argument value (Some (StringArgument text)) = are_paths_alike value text
is_path_argument value (Some (PathArgument text)) = are_paths_alike value text
is_path_argument value argument = false

-- The name in the argument is this namespace or lies within it.
abbrev pub is_within_namespace : Text → Option Value → Bool
is_within_namespace value (Some (StringArgument text)) = text_eq text value || begins (value ++ dot ∷ []) text
is_within_namespace value argument = false

-- whether a key with its value holds of a message
abbrev pub holds : Heads → Key → Text → Facts → Bool
holds heads MessageType value facts = is_text value (kind_word facts.kind)
holds heads Sender value facts = is_sender heads value facts.sender
holds heads Interface value facts = is_text value facts.interface
holds heads Member value facts = is_text value facts.member
holds heads Path value facts = is_text value facts.path
holds heads PathNamespace value facts = is_within_path value facts.path
holds heads Destination value facts = is_destination heads value facts.destination
holds heads (Argument number) value facts = is_string_argument value (slice_get facts.arguments number)
holds heads (ArgumentPath number) value facts = is_path_argument value (slice_get facts.arguments number)
holds heads Argument0Namespace value facts = is_within_namespace value (slice_get facts.arguments 0)
holds heads Eavesdrop value facts = true

-- whether every key of a rule holds
abbrev pub fits : Heads → Rule → Facts → Bool
fits heads rule facts = list_all (λ entry. holds heads entry.0 entry.1 facts) rule
