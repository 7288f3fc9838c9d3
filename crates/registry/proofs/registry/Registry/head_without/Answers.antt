use Rattle.std.proofs.Common.{ℕ, ◌<◌, ◌^◌, ◌==◌, not, Bool, Some, None, sym, ap, ◌∙◌, subst, if◌then◌else◌}
use Rattle.std.specs.List.{AllByRecursion as Each}
use Rattle.names.specs.BusName.{is_bus}
use Rattle.owner_queues.specs.Queues.{queue_head}
use Rattle.seq_bus_core.specs.BusState.{BusState}
use Rattle.seq_bus_core.specs.Steps.{without_connection}
use Rattle.seq_bus_core.proofs.Lists.{each_filter}
use Rattle.registry_core.specs.NameTables.{NamesRise}
use Rattle.registry.proofs.HeadLemmas.{head_client, head_nobody, head_of_other}
use Rattle.registry.proofs.QueueLemmas.{queue_left}
use Rattle.registry.proofs.Kept.{given_below}
use Rattle.registry.proofs.LeaveLemmas.{client_left}
use Rattle.registry.proofs.registry.Registry.head_without.Goals as goal

abbrev Below : BusState → Type 0
Below s = Each (λ d. d.number < 2 ^ 64) s.connections

below : (s : BusState) (n : ℕ) → Below s → Below (without_connection s n)
below s n h = each_filter (λ d. d.number < 2 ^ 64) (λ d. not (d.number == n)) s.connections h

pub returns-then-not-is_unique : goal.returns-then-not-is_unique
returns-then-not-is_unique c =
    let s : BusState = c.args.self.now in
    let n = c.args.leaver in
    let name = c.args.name.now in
    c.owner_without.ensures
    ∙ ap (λ q. if is_bus name then None else queue_head q) (sym (queue_left n s.names name (subst (λ (t : BusState). NamesRise t.names) c.self.view_is c.self.invariant.consistent.names_rise)))
    ∙ sym (head_of_other (without_connection s n) name (sym c.if-not-is_unique.ensures))

pub returns-then-is_client_without : goal.returns-then-is_client_without
returns-then-is_client_without c =
    let s = c.args.self.now in
    let n = c.args.leaver in
    let m = c.in-Some.number in
    sym (head_client (without_connection s n) c.args.name.now m (sym c.if-not-is_unique.ensures) (below s n (subst Below c.self.view_is (given_below c.self.inside c.self.invariant))) c.in-Some.ensures
    ∙ ap (λ (b : Bool). if b then Some m else None) (client_left s.connections n m ∙ sym c.if-is_client_without.ensures))

pub returns-else-is_client_without : goal.returns-else-is_client_without
returns-else-is_client_without c =
    let s = c.args.self.now in
    let n = c.args.leaver in
    let m = c.in-Some.number in
    sym (head_client (without_connection s n) c.args.name.now m (sym c.if-not-is_unique.ensures) (below s n (subst Below c.self.view_is (given_below c.self.inside c.self.invariant))) c.in-Some.ensures
    ∙ ap (λ (b : Bool). if b then Some m else None) (client_left s.connections n m ∙ sym c.if-is_client_without.ensures))

pub returns-in-None : goal.returns-in-None
returns-in-None c =
    let s = c.args.self.now in
    let n = c.args.leaver in
    sym (head_nobody (without_connection s n) c.args.name.now (sym c.if-not-is_unique.ensures) (below s n (subst Below c.self.view_is (given_below c.self.inside c.self.invariant))) c.in-None.ensures)
