-- What match rules and the choice of recipients look at in a message. (D-Bus Specification: "Header Fields", "Match Rules")
use Rattle.std.specs.Prelude.{ℕ, Bool, Option, List}
use Rattle.names.specs.Texts.{Text}
use Rattle.match_rules.specs.declared.kind.MessageKind.{MessageKind}

pub data Argument : Type 0 where
  StringArgument : Text → Argument
  PathArgument : Text → Argument
  OtherArgument : Argument

-- the number of the bus among the senders
abbrev pub bus_number : ℕ
bus_number = 0

-- The sender is the number of a connection, or that of the bus. A message with `auto_start` may start a service.
pub record Facts : Type 0 where
  pub kind : MessageKind
  pub auto_start : Bool
  pub sender : ℕ
  pub path : Option Text
  pub interface : Option Text
  pub member : Option Text
  pub destination : Option Text
  pub arguments : List Argument
