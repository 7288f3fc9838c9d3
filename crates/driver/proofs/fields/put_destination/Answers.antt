use Rattle.std.proofs.Common.{ap, ◌∙◌, inl}
use Rattle.marshal_core.specs.Spelling.{has_zero}
use Rattle.message_core.proofs.NameTexts.{name_not_zero}
use Rattle.driver.proofs.fields.put_destination.Goals as goal

pub put_string-requires-clause-string : goal.put_string-requires-clause-string
put_string-requires-clause-string c = ap has_zero c.as_str.ensures.value ∙ name_not_zero _ (inl c.as_str.ensures.name)
