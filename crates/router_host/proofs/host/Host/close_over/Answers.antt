use Rattle.std.proofs.Common.{◌≡◌, refl}
use Rattle.router_host.proofs.Doings.{does_then}
use Rattle.router_host.proofs.host.Host.close_over.Goals as goal
use Rattle.router_host.proofs.host.Host.close_over.Goals.{in-Some+in_ok-close_in_turn, in_default}

pub loop-preserved : goal.loop-preserved
loop-preserved g c = elim c.match-next_over.branch [
  | in-Some+in_ok-close_in_turn w ↦
      rw w.self-is (does_then c.loop.invariant.0 (rw (← c.self-in-loop.view_is, ← c.self-inside-in-loop.view_is, ← c.next_over.ensures) w.close_in_turn.ensures.does), w.in_ok-close_in_turn.ensures.ok)
  | in_default w ↦ let same : c.match-next_over.self ≡ c.loop.self = rw (w.self-is, ← c.self-in-loop.view_is, ← c.self-inside-in-loop.view_is, ← c.next_over.ensures) refl in rw same c.loop.invariant
]

pub returns-in_err-close_in_turn-clause-does : goal.returns-in_err-close_in_turn-clause-does
returns-in_err-close_in_turn-clause-does g c = does_then c.loop.invariant.0 (rw (← c.self-in-loop.view_is, ← c.self-inside-in-loop.view_is, ← c.next_over.ensures) c.close_in_turn.ensures.does)
