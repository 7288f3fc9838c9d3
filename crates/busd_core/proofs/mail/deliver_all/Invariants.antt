-- What the first put was brought.
use Rattle.std.proofs.Common.{Ok, take}
use Rattle.busd_core.specs.Happenings.{mails_of}
use Rattle.busd_core.specs.Parts.{Delivers}
use Rattle.busd_core.proofs.mail.deliver_all.Given as goal

abbrev pub invariant-loop-action : goal.invariant-loop-action
invariant-loop-action g l =
    Delivers g.V.BusView.told g.G.Gate.passes g.V.BusView.alone l.endpoint.seat l.endpoint.key l.fn.engine (mails_of l.endpoint.seat (take l.action-index l.actions)) (g.W.Write.contents l.fn.writer) (g.W.Write.contents l.writer) l.engine (Ok tt)
