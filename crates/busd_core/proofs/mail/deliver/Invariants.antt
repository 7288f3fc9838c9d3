-- Those that were taken so far got it.
use Rattle.std.proofs.Common.{Ok}
use Rattle.outbox_core.specs.Contents.{said_of}
use Rattle.busd_core.specs.Happenings.{mail_to_all}
use Rattle.busd_core.specs.Parts.{Delivers}
use Rattle.busd_core.proofs.mail.deliver.Given as goal

abbrev pub invariant-loop-conn : goal.invariant-loop-conn
invariant-loop-conn g l =
    Delivers g.V.BusView.told g.G.Gate.passes g.V.BusView.alone l.endpoint.seat l.endpoint.key l.fn.engine (mail_to_all l.endpoint.seat (said_of l.content) l.yielded) (g.W.Write.contents l.fn.writer) (g.W.Write.contents l.writer) l.engine (Ok tt)
