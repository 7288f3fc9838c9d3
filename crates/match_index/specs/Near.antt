-- Which rules a message is tested by.
use Rattle.std.specs.Prelude.{ℕ, ◌==◌, Bool, true, ◌&&◌, Option, Some, None, List, count_by, slice_get, if◌then◌else◌}
use Rattle.std.specs.Option.{option_and_then}
use Rattle.names.specs.Texts.{Text, text_eq}
use Rattle.names.specs.BusName.{is_unique}
use Rattle.names.specs.UniqueName.{unique_text}
use Rattle.match_rules.specs.Facts.{Facts, Argument as Value}
use Rattle.match_rules.specs.Fitting.{is_string_argument, is_text}
use Rattle.match_rules.specs.Kinds.{kind_named, kind_number}
use Rattle.match_rules.specs.Rules.{Rule, value_at}
use Rattle.match_rules.specs.declared.kind.MessageKind.{MessageKind}
use Rattle.match_rules.specs.declared.key.Key.TheVariants.{«Type» as MessageType, Argument, Sender, Interface, Member}
use Rattle.match_rules.specs.OwnedRules.{OwnedRule}

-- the type of message that a rule asks for
abbrev pub kind_asked : Rule → Option MessageKind
kind_asked rule = option_and_then kind_named (value_at MessageType rule)

abbrev pub is_kind : Option MessageKind → MessageKind → Bool
is_kind None kind = true
is_kind (Some asked) kind = kind_number asked == kind_number kind

-- a key that is not there, or has what the message has
abbrev pub agrees : Option Text → Option Text → Bool
agrees None text = true
agrees (Some value) text = is_text value text

-- no sender, the unique name of the message's sender, any well-known name or the bus
abbrev pub is_near_sender : Option Text → Text → Bool
is_near_sender None sender = true
is_near_sender (Some name) sender = if is_unique name then text_eq name sender else true

-- no first argument, or the string that the message has there
abbrev pub argument_agrees : Option Text → List Value → Bool
argument_agrees None arguments = true
argument_agrees (Some value) arguments = is_string_argument value (slice_get arguments 0)

-- a rule whose type, interface and member, where they are there, are the message's, and whose sender may be
abbrev pub is_near_by_header : Facts → Rule → Bool
is_near_by_header facts rule =
    is_kind (kind_asked rule) facts.kind && agrees (value_at Interface rule) facts.interface && agrees (value_at Member rule) facts.member
    && is_near_sender (value_at Sender rule) (unique_text facts.sender)

-- a rule that is near by the header of the message, and whose first argument, where it is there, is the message's
abbrev pub is_near : Facts → Rule → Bool
is_near facts rule = is_near_by_header facts rule && argument_agrees (value_at (Argument 0) rule) facts.arguments

-- how many rules a message may be tested by
abbrev pub near_rules : Facts → List OwnedRule → ℕ
near_rules facts rules = count_by (λ r. is_near facts r.rule) rules

-- how many rules are near a message by its header alone
abbrev pub near_by_header : Facts → List OwnedRule → ℕ
near_by_header facts rules = count_by (λ r. is_near_by_header facts r.rule) rules
