use Rattle.std.proofs.Common.{refl, arith}
use Rattle.marshal_core.specs.declared.order.Order.TheVariants.{Little}
use Rattle.message_core.proofs.Putting.{name_put}
use Rattle.driver.proofs.fields.put_string.Goals as goal

pub returns-clause-put : goal.returns-clause-put
returns-clause-put c = λ sent h.
    name_put Little sent c.args.field c.args.text.now c.args.text.now c.args.fields.now.items c.put_text.new.fields.items refl h c.put_text.ensures.put (omega (arith, c.requires.room), c.put_text.ensures.utf8, c.requires.string)
