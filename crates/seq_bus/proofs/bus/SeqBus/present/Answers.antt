use Rattle.std.proofs.Common.{◌≡◌, ap, sym, ◌∙◌, is_some}
use Rattle.seq_bus_core.specs.BusState.{BusState, connection_of}
use Rattle.seq_bus.specs.PlainBus.{PlainBus, bus_now}
use Rattle.seq_bus.proofs.bus.SeqBus.present.Goals as goal

pub returns : goal.returns
returns c =
    let now : (bus_now c.args.self.now).state ≡ c.self.inside.registry = ap (λ (b : PlainBus). (bus_now b).state) (sym c.self.view_is) ∙ c.self.invariant.now in
    c.present.ensures ∙ ap (λ (b : BusState). is_some (connection_of b c.args.number)) (sym now)
