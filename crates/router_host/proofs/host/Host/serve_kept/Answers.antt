use Rattle.std.proofs.Common.{refl}
use Rattle.router_core.specs.declared.event.Event.TheVariants.{Bytes}
use Rattle.router_host.specs.Doing.{Resumes}
use Rattle.router_host.proofs.Doings.{does_one}
use Rattle.router_host.proofs.host.Host.serve_kept.Goals as goal

pub returns-in-Some-Happening-clause-does : goal.returns-in-Some-Happening-clause-does
returns-in-Some-Happening-clause-does g c =
    does_one Resumes (
      c.in-Some-Happening.event,
      rw (← c.self.view_is, ← c.take.ensures.value, c.in-Some-Happening.is, c.in-Some-Happening.field-0-is) refl,
      rw (← c.self.view_is) (rw (c.take.ensures.after) at c.serve.ensures.brought),
    )

pub returns-in-Ok-clause-does : goal.returns-in-Ok-clause-does
returns-in-Ok-clause-does g c =
    does_one Resumes (
      Bytes c.in-Some-Piece.key c.in-Ok.piece,
      rw (← c.self.view_is, ← c.take.ensures.value, c.in-Some-Piece.is, c.in-Some-Piece.field-0-is) (refl, rw (c.deref.ensures.value) at c.in-Ok.ensures),
      rw (← c.self.view_is) (rw (c.take.ensures.after) at c.serve-in-Ok.ensures.brought),
    )
