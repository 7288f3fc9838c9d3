use Rattle.std.proofs.Common.{sym, ap, ◌∙◌}
use Rattle.seq_bus_core.specs.BusState.{BusState}
use Rattle.seq_bus_core.specs.Recipients.{monitors_shown}
use Rattle.seq_bus_core.specs.Steps.{without_connection}
use Rattle.registry.specs.Pendings.{state_after}
use Rattle.registry.specs.Requests.{requeued}
use Rattle.registry.proofs.HelloLemmas.{joined_shown}
use Rattle.registry.proofs.LeaveLemmas.{left_unwatched}
use Rattle.registry.proofs.ListeningLemmas.{nobody_shown, nobody_watches}
use Rattle.registry.proofs.after.AfterAudience.has_monitors.Goals as goal

pub returns-in-Joined : goal.returns-in-Joined
returns-in-Joined c none facts =
    let s : BusState = c.self.inside.registry.now in
    ap (λ (t : BusState). monitors_shown t facts) (sym c.self.view_is ∙ ap (λ p. state_after p s) c.in-Joined.is)
    ∙ joined_shown s c.in-Joined.conn c.in-Joined.privileged facts ∙ nobody_watches _ facts s.connections (sym c.has_monitors.ensures ∙ none)

pub returns-in-Requeued : goal.returns-in-Requeued
returns-in-Requeued c none facts =
    let s : BusState = c.self.inside.registry.now in
    ap (λ (t : BusState). monitors_shown t facts) (sym c.self.view_is ∙ ap (λ p. state_after p s) c.in-Requeued.is)
    ∙ nobody_shown (requeued s c.in-Requeued.name.now c.in-Requeued.queue.now) facts (sym c.has_monitors-in-Requeued.ensures ∙ none)

pub returns-in-Left : goal.returns-in-Left
returns-in-Left c none facts =
    let s : BusState = c.self.inside.registry.now in
    let n = c.in-Left.connection in
    ap (λ (t : BusState). monitors_shown t facts) (sym c.self.view_is ∙ ap (λ p. state_after p s) c.in-Left.is)
    ∙ nobody_shown (without_connection s n) facts (left_unwatched n s.connections (sym c.has_monitors-in-Left.ensures ∙ none))
