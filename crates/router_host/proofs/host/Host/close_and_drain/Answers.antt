use Rattle.router_host.proofs.Doings.{does_same, does_then}
use Rattle.router_host.proofs.host.Host.close_and_drain.Goals as goal

pub returns-in_err-close-clause-does : goal.returns-in_err-close-clause-does
returns-in_err-close-clause-does g c = does_then (does_same c.note_slot.ensures) c.close.ensures.does

pub returns-clause-does : goal.returns-clause-does
returns-clause-does g c =
    does_then (does_same c.note_slot.ensures) (does_then c.close.ensures.does c.take_mail.ensures.does)
