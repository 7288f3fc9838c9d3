use Rattle.std.proofs.Common.{◌≡◌, ◌∙◌, ℕ, ◌+◌, List, length, ap, sym, arith}
use Rattle.registry_snapshots_core.specs.Copies.{PrefixView, SnapView}
use Rattle.registry_snapshots_core.specs.Seating.{all_parts}
use Rattle.registry_snapshots.specs.Seats.{SeatView}
use Rattle.registry_snapshots.specs.Tallies.{made_by, parts_by}
use Rattle.registry_snapshots.proofs.Gatherings.{all_have_all}
use Rattle.registry_snapshots.proofs.registrar.Registrar.whole_history.Goals as goal

pub returns-clause-made : goal.returns-clause-made
returns-clause-made g c =
    let routers : ℕ = g.J.Naming.opening.state.routers in
    let seats : List SeatView = c.args.seats.items in
    let gathered : c.gather.new.all.parts ≡ c.empty-all.result.parts + parts_by routers seats = c.in_ok-gather.ensures.parts in
    let no_part : c.empty-all.result.parts ≡ 0 = c.empty-all.ensures.parts in
    let all : parts_by routers seats ≡ all_parts = all_have_all routers seats c.requires.routers c.requires.all in
    let parts : c.gather.new.all.parts ≡ all_parts = omega arith in
    let whole : c.gather.new.all.amount ≡ c.self.inside.ledger.total = c.audit.ensures.whole (parts ∙ sym c.requires.parts) in
    let made : c.gather.new.all.amount ≡ c.empty-all.result.amount + made_by seats = c.in_ok-gather.ensures.amount in
    let none : c.empty-all.result.amount ≡ 0 = c.empty-all.ensures.amount in
    let counted : c.self.inside.ledger.total ≡ length c.self.inside.copies.0.prefix.log = c.self.invariant.1 in
    let log : length c.copy-whole.result.log ≡ length c.self.inside.copies.0.prefix.log =
    ap (λ (f : PrefixView). length f.log) (c.copy-whole.ensures ∙ c.prefix.ensures) ∙ ap (λ (s : SnapView). length s.prefix.log) c.published.ensures.value in
    let same : length c.copy-whole.result.log ≡ made_by seats = omega arith in
    same
