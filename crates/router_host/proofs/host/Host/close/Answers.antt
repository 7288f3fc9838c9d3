use Rattle.std.proofs.Common.{sym}
use Rattle.router_host.specs.Doing.{LetsGo}
use Rattle.router_host.proofs.Doings.{does_one}
use Rattle.router_host.proofs.host.Host.close.Goals as goal

pub returns-clause-does : goal.returns-clause-does
returns-clause-does g c =
    does_one (LetsGo c.args.key) (
      c.requires.none,
      (
        c.in-Some.cause,
        rw (← c.self.view_is, ← c.self-inside.view_is) (sym c.in-Some.ensures.cause),
        rw (← c.self.view_is, ← c.self-inside.view_is, ← c.in-Some.ensures.gone) (rw (c.note_ended.ensures) at c.serve.ensures.brought),
      ),
    )
