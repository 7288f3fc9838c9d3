use Rattle.std.proofs.Common.{refl, rules}
use Rattle.driver.specs.OwnMessages.{number_types, number_values}
use Rattle.driver.proofs.Bodies.{number_spelled}
use Rattle.driver.proofs.reply.put_number.Goals as goal

pub returns-clause-ok : goal.returns-clause-ok
returns-clause-ok c =
    c.put_reply.ensures.ok number_types (number_values c.args.number) refl (number_spelled c.args.number _ c.ranges.number.fits (search rules))
