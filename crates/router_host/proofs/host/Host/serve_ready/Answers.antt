use Rattle.std.proofs.Common.{◌≡◌, refl}
use Rattle.router_host.proofs.Doings.{does_then}
use Rattle.router_host.proofs.host.Host.serve_ready.Goals as goal
use Rattle.router_host.proofs.host.Host.serve_ready.Goals.{in-Some+in_ok-serve_in_turn, in_default}

pub loop-preserved : goal.loop-preserved
loop-preserved g c = elim c.match-next_ready.branch [
  | in-Some+in_ok-serve_in_turn w ↦
      rw w.self-is (does_then c.loop.invariant.0 (rw (← c.self-in-loop.view_is, ← c.self-inside-in-loop.view_is, ← c.next_ready.ensures) w.serve_in_turn.ensures.does), w.in_ok-serve_in_turn.ensures.ok)
  | in_default w ↦ let same : c.match-next_ready.self ≡ c.loop.self = rw (w.self-is, ← c.self-in-loop.view_is, ← c.self-inside-in-loop.view_is, ← c.next_ready.ensures) refl in rw same c.loop.invariant
]

pub returns-in_err-serve_in_turn-clause-does : goal.returns-in_err-serve_in_turn-clause-does
returns-in_err-serve_in_turn-clause-does g c = does_then c.loop.invariant.0 (rw (← c.self-in-loop.view_is, ← c.self-inside-in-loop.view_is, ← c.next_ready.ensures) c.serve_in_turn.ensures.does)
