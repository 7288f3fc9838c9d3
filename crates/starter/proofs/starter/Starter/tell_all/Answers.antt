use Rattle.starter.proofs.Steps.{learns, learns_nothing, learns_time, makes_then}
use Rattle.starter.proofs.starter.Starter.tell_all.Goals as goal

pub returns-in_err-go_on-clause-steps : goal.returns-in_err-go_on-clause-steps
returns-in_err-go_on-clause-steps g c = c.go_on.ensures.steps c.args.now

pub returns-in_err-tell-clause-steps : goal.returns-in_err-tell-clause-steps
returns-in_err-tell-clause-steps g c =
    makes_then (c.go_on.ensures.steps c.args.now) (learns_time c.in_ok-go_on.ensures.all (c.tell.ensures.steps c.args.now))

pub loop-init : goal.loop-init
loop-init g c = (
  makes_then (c.go_on.ensures.steps c.args.now) (learns_time c.in_ok-go_on.ensures.all (c.tell.ensures.steps c.args.now)),
  c.in_ok-tell.ensures.all,
)

pub loop-preserved : goal.loop-preserved
loop-preserved g c = (
  makes_then c.loop.invariant.0 (rw (← c.self.view_is) (learns c.in-Some.event c.next.new.self (rw (← c.self.view_is) at c.loop.invariant.1) c.in-Some.ensures (c.tell-in-loop.ensures.steps c.args.now))),
  c.in_ok-tell-2.ensures.all,
)

pub returns-in_err-tell-2-clause-steps : goal.returns-in_err-tell-2-clause-steps
returns-in_err-tell-2-clause-steps g c =
    makes_then c.loop.invariant.0 (rw (← c.self.view_is) (learns c.in-Some.event c.next.new.self (rw (← c.self.view_is) at c.loop.invariant.1) c.in-Some.ensures (c.tell-in-loop.ensures.steps c.args.now)))

pub returns-in_default-clause-steps : goal.returns-in_default-clause-steps
returns-in_default-clause-steps g c =
    makes_then c.loop.invariant.0 (rw (← c.self.view_is) (learns_nothing c.next.new.self (rw (← c.self.view_is) at c.loop.invariant.1) c.in_default.ensures))
