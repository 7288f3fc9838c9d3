use Rattle.std.proofs.Common.{subst, sym}
use Rattle.message_core.specs.Headers.{AreWritten}
use Rattle.message_core.proofs.writing.put_reply_serial.Goals as goal

pub returns-in_ok-reserve-in-Some-clause-put : goal.returns-in_ok-reserve-in-Some-clause-put
returns-in_ok-reserve-in-Some-clause-put g c = λ sent h.
    rw c.in-Some.is (c.put_reply_serial.ensures.put sent (subst (AreWritten g.E.Endian.order sent) (sym c.reserve.ensures.items) h))
