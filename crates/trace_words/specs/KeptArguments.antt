-- How contracts see arguments that were read.
use Rattle.std.specs.Prelude.{string_bytes}
use Rattle.match_rules.specs.Facts.{Argument, StringArgument, PathArgument, OtherArgument}
use Rattle.trace_words.specs.declared.kept.KeptArgument.{KeptArgument}
use Rattle.trace_words.specs.declared.kept.KeptArgument.TheVariants.{String, ObjectPath, Other}

abbrev pub kept_argument : KeptArgument → Argument
kept_argument (String text) = StringArgument (string_bytes text)
kept_argument (ObjectPath text) = PathArgument (string_bytes text)
kept_argument Other = OtherArgument
