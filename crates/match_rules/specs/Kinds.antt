-- The types of messages. (D-Bus Specification: "Message Types")
use Rattle.std.specs.Prelude.{ℕ, ◌==◌, Option, Some, None, codes, if◌then◌else◌}
use Rattle.names.specs.Texts.{Text, text_eq}
use Rattle.match_rules.specs.declared.kind.MessageKind.{MessageKind}
use Rattle.match_rules.specs.declared.kind.MessageKind.TheVariants.{MethodCall, MethodReturn, Error, Signal, Unknown}

-- the number in a message's header
abbrev pub kind_number : MessageKind → ℕ
kind_number MethodCall = 1
kind_number MethodReturn = 2
kind_number Error = 3
kind_number Signal = 4
kind_number (Unknown number) = number

abbrev pub kind_of : ℕ → MessageKind
kind_of number =
    if number == 1 then MethodCall
    else if number == 2 then MethodReturn
    else if number == 3 then Error
    else if number == 4 then Signal
    else Unknown number

-- the word for a type in a match rule
abbrev pub kind_word : MessageKind → Option Text
kind_word MethodCall = Some (codes "method_call")
kind_word MethodReturn = Some (codes "method_return")
kind_word Error = Some (codes "error")
kind_word Signal = Some (codes "signal")
kind_word (Unknown number) = None

-- the type that a word names
abbrev pub kind_named : Text → Option MessageKind
kind_named word =
    if text_eq word (codes "method_call") then Some MethodCall
    else if text_eq word (codes "method_return") then Some MethodReturn
    else if text_eq word (codes "error") then Some Error
    else if text_eq word (codes "signal") then Some Signal
    else None
