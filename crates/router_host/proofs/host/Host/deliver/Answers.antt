use Rattle.router_host.proofs.Doings.{does_then}
use Rattle.router_host.proofs.host.Host.deliver.Goals as goal

pub returns-clause-does : goal.returns-clause-does
returns-clause-does g c = does_then c.relieve.ensures.does c.take_mail_of.ensures.does
