use Rattle.std.proofs.Common.{subst, sym}
use Rattle.names.specs.BusName.{IsBusName}
use Rattle.marshal_core.specs.Spelling.{IsString}
use Rattle.message_core.proofs.NameTexts.{name_string}
use Rattle.driver.proofs.strings.put_name.Goals as goal

pub returns-clause-string : goal.returns-clause-string
returns-clause-string c = subst IsString c.as_str.ensures.value (name_string _ (subst IsBusName (sym c.as_str.ensures.value) c.as_str.ensures.name) c.put_string.ensures.utf8)
