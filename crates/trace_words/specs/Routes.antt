-- The words of routes.
use Rattle.std.specs.Prelude.{ℕ, Bool, ◌==◌, Option, Some, None, is_none, option_map, option_and_then, List, [], ◌∷◌, ◌++◌, length, codes, if◌then◌else◌}
use Rattle.names.specs.Texts.{Text, text_eq}
use Rattle.names.specs.Interface.{interface_fault}
use Rattle.names.specs.Member.{member_fault}
use Rattle.names.specs.ObjectPath.{object_path_fault}
use Rattle.match_rules.specs.Facts.{Argument, StringArgument, PathArgument, OtherArgument, Facts}
use Rattle.match_rules.specs.Keys.{max_arguments}
use Rattle.match_rules.specs.declared.kind.MessageKind.{MessageKind}
use Rattle.match_rules.specs.declared.kind.MessageKind.TheVariants.{MethodCall, MethodReturn, Error, Signal}
use Rattle.trace_words.specs.Hex.{bytes_of, utf8_of}
use Rattle.trace_words.specs.Words.{comma, parts, dash, bit_of, number_of, is_bus_name}

abbrev pub kind_of : Text → Option MessageKind
kind_of word =
    if text_eq word (codes "1") then Some MethodCall
    else if text_eq word (codes "2") then Some MethodReturn
    else if text_eq word (codes "3") then Some Error
    else if text_eq word (codes "4") then Some Signal
    else None

-- a part of a message, or none of it
abbrev pub optional : (Text → Bool) → Text → Option (Option Text)
optional test word = if text_eq word dash then Some None else if test word then Some (Some word) else None

abbrev pub is_path : Text → Bool
is_path word = is_none (object_path_fault word)

abbrev pub is_interface : Text → Bool
is_interface word = is_none (interface_fault word)

abbrev pub is_member : Text → Bool
is_member word = is_none (member_fault word)

-- ## Arguments

abbrev pub string_in : Text → Option Argument
string_in word = option_map StringArgument (option_and_then utf8_of (bytes_of word))

abbrev pub path_in : Text → Option Argument
path_in text = if is_path text then Some (PathArgument text) else None

abbrev pub path_in_hex : Text → Option Argument
path_in_hex word = option_and_then path_in (option_and_then utf8_of (bytes_of word))

abbrev pub argument_in : Text → Option Argument
argument_in [] = None
argument_in (b ∷ word) =
    if b == 115 then string_in word
    else if b == 111 then path_in_hex word
    else None

abbrev pub argument_of : Text → Option Argument
argument_of word = if text_eq word dash then Some OtherArgument else argument_in word

abbrev pub arguments_from : List Argument → List Text → Option (List Argument)
arguments_from arguments [] = Some arguments
arguments_from arguments (word ∷ words) =
    if length arguments == max_arguments then None
    else option_and_then (λ a. arguments_from (arguments ++ a ∷ []) words) (argument_of word)

abbrev pub arguments_of : Text → Option (List Argument)
arguments_of word = if text_eq word (codes ".") then Some [] else arguments_from [] (parts comma word)

-- ## Routes

-- a message without its arguments
abbrev pub header : ℕ → MessageKind → Bool → Option Text → Option Text → Option Text → Option Text → Facts
header sender kind auto path interface member destination = record {
  kind = kind;
  auto_start = auto;
  sender = sender;
  path = path;
  interface = interface;
  member = member;
  destination = destination;
  arguments = [];
}

-- a message without its arguments, the word of these, and the words behind it
abbrev pub header_from : List Text → Option ((Facts × Text) × List Text)
header_from (sender ∷ kind ∷ auto ∷ path ∷ interface ∷ member ∷ destination ∷ arguments ∷ words) =
    option_and_then (λ s. option_and_then (λ k. option_and_then (λ a. option_and_then (λ p. option_and_then (λ i. option_and_then (λ m.
    option_map (λ d. ((header s k a p i m d, arguments), words))
    (optional is_bus_name destination)) (optional is_member member)) (optional is_interface interface)) (optional is_path path))
    (bit_of auto)) (kind_of kind)) (number_of sender)
header_from other = None

abbrev pub with_arguments : (Facts × Text) × List Text → Option (Facts × List Text)
with_arguments read = option_map (λ arguments. (record (read.0.0) { arguments = arguments }, read.1)) (arguments_of read.0.1)

-- what match rules and the choice of recipients look at in a message, and the words behind it
abbrev pub route_from : List Text → Option (Facts × List Text)
route_from words = option_and_then with_arguments (header_from words)
