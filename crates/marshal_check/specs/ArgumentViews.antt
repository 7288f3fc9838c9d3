-- How contracts see arguments that are lent.
use Rattle.std.specs.Prelude.{◌≡◌, ℕ, List, Result, Ok, Err}
use Rattle.marshal_core.specs.declared.fault.MarshalFault.{MarshalFault}
use Rattle.marshal_core.specs.Values.{Val}
use Rattle.marshal_core.specs.Reading.{Field}
use Rattle.marshal_check.specs.declared.body_arguments.BodyArgument.{BodyArgument}
use Rattle.marshal_check.specs.declared.body_arguments.BodyArgument.TheVariants.{String, ObjectPath, Other}
use Rattle.marshal_check.specs.declared.body_arguments.Arguments.{Arguments}
use Rattle.marshal_check.specs.declared.checked_arguments.CheckedArguments.{CheckedArguments}
use Rattle.marshal_check.specs.Arguments.{BodyArgument as Seen, string_argument, path_argument, other_argument, argument_of, arguments_at}
use Rattle.marshal_check.specs.SignatureTexts.{types_in}

abbrev pub seen : BodyArgument → Seen
seen (String text) = string_argument text.now
seen (ObjectPath text) = path_argument text.now
seen Other = other_argument

abbrev pub arguments_left : Arguments → List Seen
arguments_left a = arguments_at a.order (types_in a.types.text.now) a.at a.bytes.now

abbrev pub checked_left : CheckedArguments → List Seen
checked_left a = arguments_at a.order (types_in a.types.text.now) a.at a.bytes.now

-- A value is read, and an argument returned that shows it, beside the place and the bytes after it; or it is the same fault.
abbrev pub Shows : {X : Type 0} → (X → Seen × ℕ × List ℕ) → Result X MarshalFault → Field Val → Type 0
Shows view (Ok x) read = (v : Val) × (read ≡ Ok (v, (view x).1, (view x).2)) × ((view x).0 ≡ argument_of v)
Shows view (Err e) read = read ≡ Err e
