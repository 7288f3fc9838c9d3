use Rattle.std.proofs.Common.{refl, ◌∙◌}
use Rattle.router_host.proofs.Doings.{does_same, does_then}
use Rattle.router_host.proofs.host.Host.serve_line.Goals as goal
use Rattle.router_host.proofs.host.Host.serve_line.Goals.{then-not-has_next+in_ok-read, else-not-has_next}

pub returns-in_err-serve_share-clause-does : goal.returns-in_err-serve_share-clause-does
returns-in_err-serve_share-clause-does g c = elim c.if-not-has_next.branch [
  | then-not-has_next+in_ok-read w ↦
      does_then {b = w.read.new.self} (rw (← c.self.view_is, ← c.self-inside.view_is, ← c.begin.ensures.same) w.read.ensures.does) (rw (← w.self-is) c.serve_share.ensures.does)
  | else-not-has_next w ↦
      does_then {b = c.if-not-has_next.self} (does_same (w.self-is ∙ rw (← c.self.view_is, ← c.self-inside.view_is, ← c.begin.ensures.same) refl)) c.serve_share.ensures.does
]

pub invariant_of-self-3 : goal.invariant_of-self-3
invariant_of-self-3 g c = rw (← c.self-inside-2.view_is) at c.self-2.invariant

pub returns-clause-does : goal.returns-clause-does
returns-clause-does g c = elim c.if-not-has_next.branch [
  | then-not-has_next+in_ok-read w ↦
      does_then {b = c.serve_share.new.self}
      (does_then {b = w.read.new.self} (rw (← c.self.view_is, ← c.self-inside.view_is, ← c.begin.ensures.same) w.read.ensures.does) (rw (← w.self-is) c.serve_share.ensures.does))
      (does_same (rw (← c.self-2.view_is, ← c.self-inside-2.view_is, c.serve_again.ensures) refl))
  | else-not-has_next w ↦
      does_then {b = c.serve_share.new.self}
      (does_then {b = c.if-not-has_next.self} (does_same (w.self-is ∙ rw (← c.self.view_is, ← c.self-inside.view_is, ← c.begin.ensures.same) refl)) c.serve_share.ensures.does)
      (does_same (rw (← c.self-2.view_is, ← c.self-inside-2.view_is, c.serve_again.ensures) refl))
]
