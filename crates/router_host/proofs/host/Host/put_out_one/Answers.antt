use Rattle.std.proofs.Common.{refl, inl, inr}
use Rattle.router_host.specs.Doing.{PutsOut, with_full}
use Rattle.router_host.proofs.Doings.{does_one, does_same, does_then}
use Rattle.router_host.proofs.host.Host.put_out_one.Goals as goal

pub returns-in_err-tell_full-clause-does : goal.returns-in_err-tell_full-clause-does
returns-in_err-tell_full-clause-does g c =
    does_one (PutsOut c.in-Some.conn) (
      rw (← c.self.view_is, ← c.self-inside.view_is) c.in-Some.ensures.untold,
      inr (rw (← c.self.view_is, ← c.self-inside.view_is, ← c.first_untold.ensures.same) c.in_err-tell_full.ensures.err),
    )

pub returns-clause-does : goal.returns-clause-does
returns-clause-does g c =
    does_then {b = with_full c.tell_full.new.self c.note_told.new.self}
    (does_one (PutsOut c.in-Some.conn) (
      rw (← c.self.view_is, ← c.self-inside.view_is) c.in-Some.ensures.untold,
      inl (
        c.tell_full.new.self,
        rw (← c.self.view_is, ← c.self-inside.view_is, ← c.first_untold.ensures.same) c.in_ok-tell_full.ensures.happens,
        rw (← c.self-2.view_is, ← c.self-inside-2.view_is, c.note_told.ensures) refl,
      ),
    ))
    (rw (← c.self-2.view_is, ← c.self-inside-2.view_is) (does_same c.ask_check.ensures))
