-- How contracts see an argument that is lent.
use Rattle.match_rules.specs.declared.facts.Argument.{Argument}
use Rattle.match_rules.specs.declared.facts.Argument.TheVariants.{String, ObjectPath, Other}
use Rattle.match_rules.specs.Facts.{Argument as Seen, StringArgument, PathArgument, OtherArgument}

abbrev pub argument_of : Argument → Seen
argument_of (String text) = StringArgument text.now
argument_of (ObjectPath text) = PathArgument text.now
argument_of Other = OtherArgument
