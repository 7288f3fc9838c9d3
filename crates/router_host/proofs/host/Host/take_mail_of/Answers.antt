use Rattle.std.proofs.Common.{subst, sym, ◌∙◌}
use Rattle.router_host.specs.Happening.{IsSlotBlocked}
use Rattle.router_host.proofs.Doings.{does_then}
use Rattle.router_host.proofs.host.Host.take_mail_of.Goals as goal

pub loop-preserved : goal.loop-preserved
loop-preserved g c = (
  does_then c.loop.invariant.0 c.take_one.ensures.does,
  c.in_ok-take_one.ensures.ok,
  (λ blocked. c.take_one.ensures.blocked (subst (λ s. IsSlotBlocked s c.args.slot) (sym (c.loop.invariant.2 blocked)) blocked) ∙ c.loop.invariant.2 blocked),
)

pub returns-in_err-take_one-clause-does : goal.returns-in_err-take_one-clause-does
returns-in_err-take_one-clause-does g c = does_then c.loop.invariant.0 c.take_one.ensures.does

pub returns-then-not-branch-clause-does : goal.returns-then-not-branch-clause-does
returns-then-not-branch-clause-does g c = does_then c.loop.invariant.0 c.take_one.ensures.does

pub invariant_of-self-2 : goal.invariant_of-self-2
invariant_of-self-2 g c = rw (← c.self-inside-2.view_is) at c.self-2.invariant
