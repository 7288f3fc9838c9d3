use Rattle.std.proofs.Common.{ap, ◌∙◌}
use Rattle.marshal_core.specs.Spelling.{has_zero}
use Rattle.message_core.proofs.NameTexts.{path_not_zero}
use Rattle.message_core.proofs.Putting.{both_ok, path_put}
use Rattle.message_core.proofs.writing.put_path.Goals as goal

pub returns-in-Some-clause-put : goal.returns-in-Some-clause-put
returns-in-Some-clause-put g c = λ sent h.
    rw c.in-Some.is (both_ok c.put_text.result (path_put g.E.Endian.order sent c.as_str.result.now c.in-Some.path c.args.output.now.items c.put_text.new.output.items c.as_str.ensures.value c.as_str.ensures.name h)
    c.put_text.ensures.put c.put_text.ensures.string)

pub put_text-requires : goal.put_text-requires
put_text-requires g c = record { clean = ap has_zero c.as_str.ensures.value ∙ path_not_zero _ c.as_str.ensures.name }
