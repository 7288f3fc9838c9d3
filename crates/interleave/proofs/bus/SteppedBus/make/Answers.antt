use Rattle.std.proofs.Common.{◌≡◌, ◌∙◌, ap, sym, subst}
use Rattle.seq_bus_core.specs.BusState.{BusState}
use Rattle.seq_bus_core.specs.Steps.{step}
use Rattle.seq_bus_core.specs.Tickets.{WholeBus, bus_step}
use Rattle.activation.specs.Holdings.{IsHolding}
use Rattle.registry.proofs.Along.{absorbed_one}
use Rattle.interleave.specs.Stepping.{whole_of}
use Rattle.interleave.proofs.Stepping.{stepped}
use Rattle.interleave.proofs.bus.SteppedBus.make.Goals as goal

pub settle-requires : goal.settle-requires
settle-requires c = (whole_of c.self.inside.registry c.self.inside.calls, (c.args.seat, (c.self.invariant, c.in_ok-prepared.ensures.settles)))

pub invariant_of-self : goal.invariant_of-self
invariant_of-self c =
    let s : BusState = c.self.inside.registry in
    let calls = c.self.inside.calls in
    let t_is : c.absorb.new.self ≡ (step s c.args.seat c.args.change.now).0 = c.absorb.ensures ∙ absorbed_one s c.args.seat c.args.change.now c.in_ok-prepared.prepared c.in_ok-prepared.ensures.prepared in
    let settled = c.settle.ensures (whole_of s calls) c.args.seat c.self.invariant c.in_ok-prepared.ensures.settles in
    subst (λ (b : WholeBus). IsHolding b c.settle.new.calls) (sym (stepped s c.absorb.new.self calls c.settle.new.calls c.args.seat c.args.change.now t_is settled.0)) settled.0

pub returns-clause-made : goal.returns-clause-made
returns-clause-made c =
    let s : BusState = c.self.inside.registry in
    let calls = c.self.inside.calls in
    let t_is : c.absorb.new.self ≡ (step s c.args.seat c.args.change.now).0 = c.absorb.ensures ∙ absorbed_one s c.args.seat c.args.change.now c.in_ok-prepared.prepared c.in_ok-prepared.ensures.prepared in
    let settled = c.settle.ensures (whole_of s calls) c.args.seat c.self.invariant c.in_ok-prepared.ensures.settles in
    stepped s c.absorb.new.self calls c.settle.new.calls c.args.seat c.args.change.now t_is settled.0 ∙ ap (λ (b : WholeBus). (bus_step b c.args.seat c.args.change.now).0) c.self.view_is

pub returns-clause-told : goal.returns-clause-told
returns-clause-told c =
    let s : BusState = c.self.inside.registry in
    let calls = c.self.inside.calls in
    let settled = c.settle.ensures (whole_of s calls) c.args.seat c.self.invariant c.in_ok-prepared.ensures.settles in
    settled.1 ∙ ap (λ (b : WholeBus). (bus_step b c.args.seat c.args.change.now).1) c.self.view_is
