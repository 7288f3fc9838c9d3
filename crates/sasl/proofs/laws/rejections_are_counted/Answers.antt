use Rattle.std.proofs.Common.{arith}
use Rattle.sasl.specs.Conversations.{opening}
use Rattle.sasl.proofs.Counted.{counted, opening_is_fine}
use Rattle.sasl.proofs.laws.rejections_are_counted.Goals as goal

pub returns : goal.returns
returns c = λ s text sent to left d.
    let all = counted s opening text sent to left d in
    let fine = all.fine opening_is_fine in
    (all.replies, all.sent_is, omega (arith, all.count), fine.0, fine.1)
