use Rattle.std.proofs.Common.{◌≡◌, ap, sym, ◌∙◌}
use Rattle.seq_bus_core.specs.BusState.{BusState}
use Rattle.seq_bus_core.specs.Recipients.{recipients}
use Rattle.seq_bus.specs.PlainBus.{PlainBus, bus_now}
use Rattle.seq_bus.proofs.bus.SeqBus.route_into.Goals as goal

pub returns : goal.returns
returns c =
    let now : (bus_now c.args.self.now).state ≡ c.self.inside.registry = ap (λ (b : PlainBus). (bus_now b).state) (sym c.self.view_is) ∙ c.self.invariant.now in
    c.tell_route.ensures ∙ ap (λ (b : BusState). recipients b c.args.from c.args.facts.now) (sym now)
