use Rattle.router_host.specs.Doing.{Catches}
use Rattle.router_host.proofs.Doings.{does_one, does_then}
use Rattle.router_host.proofs.host.Host.serve_all.Goals as goal

pub returns-in_err-catch_up-clause-does : goal.returns-in_err-catch_up-clause-does
returns-in_err-catch_up-clause-does g c = does_one Catches c.catch_up.ensures.catches_up

pub returns-in_err-serve_kept-clause-does : goal.returns-in_err-serve_kept-clause-does
returns-in_err-serve_kept-clause-does g c =
    does_then (does_one Catches c.catch_up.ensures.catches_up) c.serve_kept.ensures.does

pub returns-in_err-close_over-clause-does : goal.returns-in_err-close_over-clause-does
returns-in_err-close_over-clause-does g c =
    does_then (does_one Catches c.catch_up.ensures.catches_up)
    (does_then c.serve_kept.ensures.does (does_then c.flush_all.ensures.does c.close_over.ensures.does))

pub returns-in_err-take_mail-clause-does : goal.returns-in_err-take_mail-clause-does
returns-in_err-take_mail-clause-does g c =
    does_then (does_one Catches c.catch_up.ensures.catches_up)
    (does_then c.serve_kept.ensures.does
    (does_then c.flush_all.ensures.does
    (does_then c.close_over.ensures.does c.take_mail.ensures.does)))

pub returns-clause-does : goal.returns-clause-does
returns-clause-does g c =
    does_then (does_one Catches c.catch_up.ensures.catches_up)
    (does_then c.serve_kept.ensures.does
    (does_then c.flush_all.ensures.does
    (does_then c.close_over.ensures.does
    (does_then c.take_mail.ensures.does c.serve_ready.ensures.does))))
