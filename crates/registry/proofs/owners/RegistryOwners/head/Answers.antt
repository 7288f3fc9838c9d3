use Rattle.std.proofs.Common.{Bool, None, sym, ap, ◌∙◌, if◌then◌else◌}
use Rattle.owner_queues.specs.Queues.{queue_head}
use Rattle.seq_bus_core.specs.BusState.{BusState, queue_of}
use Rattle.registry.proofs.HeadLemmas.{head_of_unique, head_of_other}
use Rattle.registry.proofs.owners.RegistryOwners.head.Goals as goal

pub returns-then-is_unique : goal.returns-then-is_unique
returns-then-is_unique c = c.client_named.ensures ∙ sym (head_of_unique c.args.self.now c.args.name.now (sym c.if-is_unique.ensures))

pub returns-then-eq : goal.returns-then-eq
returns-then-eq c =
    let s : BusState = c.args.self.now in
    let name = c.args.name.now in
    sym (head_of_other s name (sym c.if-is_unique.ensures) ∙ ap (λ (b : Bool). if b then None else queue_head (queue_of s.names name)) (sym c.if-eq.ensures))

pub returns : goal.returns
returns c =
    let s : BusState = c.args.self.now in
    let name = c.args.name.now in
    c.head.ensures ∙ ap (λ (t : BusState). queue_head (queue_of t.names name)) c.self.view_is
    ∙ sym (head_of_other s name (sym c.if-is_unique.ensures) ∙ ap (λ (b : Bool). if b then None else queue_head (queue_of s.names name)) (sym c.if-eq.ensures))
