use Rattle.std.proofs.Common.{sym, subst}
use Rattle.settling.specs.Settlings.{IsSomeBus, Settling, SettlesAt}
use Rattle.settling.proofs.settling.Settling.settle.Goals as goal

pub settle-requires-clause-step : goal.settle-requires-clause-step
settle-requires-clause-step c =
    let some = subst (λ (x : Settling). IsSomeBus c.args.change.now x c.args.calls.now) (sym c.self.view_is) c.requires in
    (some.0, (some.1.0, record { holding = some.1.1.0; called = some.1.1.1.called; stepped = some.1.1.1.outcome }))

pub settle-requires-clause-room : goal.settle-requires-clause-room
settle-requires-clause-room c =
    let some = subst (λ (x : Settling). IsSomeBus c.args.change.now x c.args.calls.now) (sym c.self.view_is) c.requires in
    some.1.1.1.room

pub returns : goal.returns
returns c b seat holding settles =
    let here = subst (λ (x : Settling). SettlesAt b.state seat c.args.change.now x) (sym c.self.view_is) settles in
    c.settle.ensures b seat (record { holding = holding; called = here.called; stepped = here.outcome })
