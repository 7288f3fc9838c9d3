use Rattle.std.proofs.Common.{◌≡◌, sym, ap, subst, OnOk}
use Rattle.driver.specs.OwnMessages.{Writes}
use Rattle.outbox_core.specs.Contents.{Errs, own_of, bus_message}
use Rattle.outbox_core.proofs.bus_message.BusMessage.write.Goals as goal

pub returns-in-Error-clause-ok : goal.returns-in-Error-clause-ok
returns-in-Error-clause-ok c =
    let same : own_of c.args.self.now ≡ Errs c.in-Error.to c.in-Error.error = ap own_of c.in-Error.is in
    subst (λ o. OnOk c.write_error.result (Writes c.args.out.now.items c.write_error.new.out.items (bus_message c.args.serial o))) (sym same) c.write_error.ensures.ok
