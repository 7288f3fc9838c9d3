use Rattle.router_core.specs.declared.event.Event.TheVariants.{Next, Turn}
use Rattle.router_host.specs.Doing.{Hears}
use Rattle.router_host.proofs.Doings.{does_one}
use Rattle.router_host.proofs.host.Host.serve_up_to.Goals as goal

pub returns-then-count-lt2-clause-does : goal.returns-then-count-lt2-clause-does
returns-then-count-lt2-clause-does g c =
    does_one (Hears (Next c.args.key)) (c.requires.none, tt, c.serve.ensures.brought)

pub returns-clause-does : goal.returns-clause-does
returns-clause-does g c =
    does_one (Hears (Turn c.in_ok-keys.keys)) (c.requires.none, tt, c.serve-2.ensures.brought)
