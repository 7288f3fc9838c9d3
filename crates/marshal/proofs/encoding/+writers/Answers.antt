use Rattle.std.proofs.Common.{◌<◌, length}
use Rattle.marshal.proofs.Loops.{some_left}
use Rattle.marshal.proofs.WrittenSteps.{some_values}
use Rattle.marshal.proofs.encoding.+writers.Goals as goal

pub structure-returns : goal.structure-returns
structure-returns g t c =
    let some : 0 < length c.args.of.now = some_left c.is_empty.result (length c.args.of.now) c.is_empty.ensures c.if-is_empty.false in
    rw (some_values c.args.of.now some, ← c.in_ok-padding.ensures) c.fields.ensures
