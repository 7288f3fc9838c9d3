use Rattle.message_core.proofs.Putting.{both_ok, name_put}
use Rattle.message_core.proofs.writing.put_name.Goals as goal

pub returns-in-Some-clause-put : goal.returns-in-Some-clause-put
returns-in-Some-clause-put g c = λ sent h.
    rw c.in-Some.is (both_ok c.put_text.result (name_put g.E.Endian.order sent c.args.field c.as_text.result.now (g.N.Name.text c.in-Some.name) c.args.output.now.items c.put_text.new.output.items c.as_text.ensures.value h)
    c.put_text.ensures.put c.put_text.ensures.string)
