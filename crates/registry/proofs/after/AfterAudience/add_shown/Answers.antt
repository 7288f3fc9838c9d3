use Rattle.std.proofs.Common.{sym, ap, ◌∙◌, subst}
use Rattle.seq_bus_core.specs.BusState.{BusState, head_of}
use Rattle.seq_bus_core.specs.Recipients.{monitors_shown, conns_that, watches_by}
use Rattle.registry.specs.Pendings.{IsDue, state_after}
use Rattle.registry.proofs.LeaveLemmas.{left_shown}
use Rattle.registry.proofs.MonitorLemmas.{client_out, few_with, no_more_than}
use Rattle.registry.proofs.after.AfterAudience.add_shown.Goals as goal

pub returns-in-Joined-clause-few : goal.returns-in-Joined-clause-few
returns-in-Joined-clause-few c = rw c.add_monitors_shown.ensures.value (no_more_than _ _ 256 c.add_monitors_shown.ensures.few)

pub returns-in-Requeued-clause-few : goal.returns-in-Requeued-clause-few
returns-in-Requeued-clause-few c = rw c.add_monitors_shown-in-Requeued.ensures.value (no_more_than _ _ 256 c.add_monitors_shown-in-Requeued.ensures.few)

pub returns-in-Left-clause-few : goal.returns-in-Left-clause-few
returns-in-Left-clause-few c = rw c.add_monitors_shown-in-Left.ensures.value (no_more_than _ _ 256 c.add_monitors_shown-in-Left.ensures.few)

pub returns-in-Left-clause-value : goal.returns-in-Left-clause-value
returns-in-Left-clause-value c =
    let s : BusState = c.self.inside.registry.now in
    let n = c.in-Left.connection in
    let facts = c.args.facts.now in
    let is_after = ap (λ p. state_after p s) (sym c.in-Left.is) ∙ c.self.view_is in
    c.add_monitors_shown-in-Left.ensures.value
    ∙ ap (λ (t : BusState). conns_that (watches_by (head_of t) facts) s.connections) (sym is_after)
    ∙ client_out _ facts n s.connections c.add_monitors_shown-in-Left.ensures.consistent.connections_rise (subst (λ p. IsDue p s) c.in-Left.is c.self.invariant)
    ∙ sym (left_shown s n facts) ∙ ap (λ (t : BusState). monitors_shown t facts) is_after

pub returns-in-Becoming-clause-few : goal.returns-in-Becoming-clause-few
returns-in-Becoming-clause-few c =
    rw c.add_shown_with.ensures.value (few_with _ c.in-Becoming.connection c.in-Becoming.rules.now c.self.inside.registry.now.connections 256 c.add_shown_with.ensures.few)
