use Rattle.std.proofs.Common.{◌≡◌, refl}
use Rattle.router_host.proofs.Doings.{does_then}
use Rattle.router_host.proofs.host.Host.take_mail.Goals as goal
use Rattle.router_host.proofs.host.Host.take_mail.Goals.{in-Some+in_ok-deliver, in_default}

pub loop-preserved : goal.loop-preserved
loop-preserved g c = elim c.match-next.branch [
  | in-Some+in_ok-deliver w ↦
      rw w.self-is (does_then c.loop.invariant.0 (rw (← c.self-in-loop.view_is, ← c.self-inside-in-loop.view_is) w.deliver.ensures.does), w.in_ok-deliver.ensures.ok)
  | in_default w ↦ let same : c.match-next.self ≡ c.loop.self = rw (w.self-is, ← c.self-in-loop.view_is, ← c.self-inside-in-loop.view_is) refl in rw same c.loop.invariant
]

pub returns-in_err-deliver-clause-does : goal.returns-in_err-deliver-clause-does
returns-in_err-deliver-clause-does g c = does_then c.loop.invariant.0 (rw (← c.self-in-loop.view_is, ← c.self-inside-in-loop.view_is) c.deliver.ensures.does)
