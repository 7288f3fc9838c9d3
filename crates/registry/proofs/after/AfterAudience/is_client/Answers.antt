use Rattle.std.proofs.Common.{sym, ap, ◌∙◌}
use Rattle.seq_bus_core.specs.BusState.{BusState, is_client}
use Rattle.registry.specs.Pendings.{state_after}
use Rattle.registry.proofs.LeaveLemmas.{client_left}
use Rattle.registry.proofs.MonitorLemmas.{becoming_client}
use Rattle.registry.proofs.after.AfterAudience.is_client.Goals as goal

pub returns-in-Left : goal.returns-in-Left
returns-in-Left c =
    let s : BusState = c.self.inside.registry.now in
    c.is_client_without.ensures ∙ sym (client_left s.connections c.in-Left.connection c.args.number)
    ∙ ap (λ (t : BusState). is_client t.connections c.args.number) (ap (λ p. state_after p s) (sym c.in-Left.is) ∙ c.self.view_is)

pub returns-in-Becoming : goal.returns-in-Becoming
returns-in-Becoming c =
    let s : BusState = c.self.inside.registry.now in
    c.is_client_without-in-Becoming.ensures ∙ sym (becoming_client s.connections c.in-Becoming.connection c.in-Becoming.rules.now c.args.number)
    ∙ ap (λ (t : BusState). is_client t.connections c.args.number) (ap (λ p. state_after p s) (sym c.in-Becoming.is) ∙ c.self.view_is)
