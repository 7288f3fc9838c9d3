use Rattle.std.proofs.Common.{sym, ap, ◌∙◌}
use Rattle.seq_bus_core.specs.BusState.{BusState, head_of}
use Rattle.registry.specs.Pendings.{state_after}
use Rattle.registry.proofs.MonitorLemmas.{head_becoming}
use Rattle.registry.proofs.after.AfterOwners.head.Goals as goal

pub returns-in-Becoming : goal.returns-in-Becoming
returns-in-Becoming c =
    let s : BusState = c.self.inside.registry.now in
    c.head_without-in-Becoming.ensures ∙ head_becoming s c.in-Becoming.connection c.in-Becoming.rules.now c.args.name.now
    ∙ ap (λ (t : BusState). head_of t c.args.name.now) (ap (λ p. state_after p s) (sym c.in-Becoming.is) ∙ c.self.view_is)
