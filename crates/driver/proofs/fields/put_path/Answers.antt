use Rattle.std.proofs.Common.{refl, lit<}
use Rattle.names.proofs.Faults.{none_object_path}
use Rattle.marshal_core.specs.declared.order.Order.TheVariants.{Little}
use Rattle.message_core.proofs.Putting.{path_put}
use Rattle.driver.specs.OwnMessages.{bus_path}
use Rattle.driver.proofs.fields.put_path.Goals as goal

pub returns-clause-put : goal.returns-clause-put
returns-clause-put c = λ sent h.
    path_put Little sent bus_path bus_path c.args.fields.now.items c.put_text.new.fields.items refl (none_object_path bus_path refl) h c.put_text.ensures.put (lit< tt, c.put_text.ensures.utf8, refl)
