use Rattle.std.proofs.Common.{ap, ◌∙◌}
use Rattle.marshal_core.specs.Spelling.{has_zero}
use Rattle.message_core.proofs.NameTexts.{name_not_zero}
use Rattle.message_core.proofs.writing.BusNameName.as_text.Goals as goal

pub returns-clause-clean : goal.returns-clause-clean
returns-clause-clean c = ap has_zero c.as_str.ensures.value ∙ name_not_zero _ c.as_str.ensures.name
