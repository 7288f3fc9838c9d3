-- What match rules and routing look at in a message, after "Match Rules" of the D-Bus Specification.
use Rattle.std.specs.Prelude.{ℕ, List, map, take, bit_and, ◌==◌}
use Rattle.match_rules.specs.Facts.{Argument, StringArgument, PathArgument, OtherArgument, Facts, bus_number}
use Rattle.match_rules.specs.Keys.{max_arguments}
use Rattle.match_rules.specs.Kinds.{kind_of}
use Rattle.marshal_check.specs.Arguments.{BodyArgument, string_argument, path_argument, other_argument, arguments}
use Rattle.message_core.specs.declared.header_field.HeaderField.TheVariants as field
use Rattle.message_core.specs.HeaderFields.{text_field}
use Rattle.message_core.specs.Messages.{Message}

-- the flag NO_AUTO_START
abbrev pub no_auto_start : ℕ
no_auto_start = 2

abbrev pub as_argument : BodyArgument → Argument
as_argument (string_argument text) = StringArgument text
as_argument (path_argument text) = PathArgument text
as_argument other_argument = OtherArgument

-- the values of the body, those of type s and o as texts
abbrev pub all_arguments : Message → List Argument
all_arguments m = map as_argument (arguments m.body)

abbrev pub first_arguments : Message → List Argument
first_arguments m = take max_arguments (all_arguments m)

-- Who sent it is not told by the message: the sender is that of the bus until the router puts another in its place.
abbrev pub facts_of : Message → Facts
facts_of m = record {
  kind = kind_of m.kind;
  auto_start = bit_and m.flags no_auto_start == 0;
  sender = bus_number;
  path = text_field field.Path m.fields;
  interface = text_field field.Interface m.fields;
  member = text_field field.Member m.fields;
  destination = text_field field.Destination m.fields;
  arguments = first_arguments m;
}
