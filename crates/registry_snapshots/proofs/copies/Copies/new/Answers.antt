use Rattle.std.proofs.Common.{◌≡◌, sym, subst, rules}
use Rattle.registry_snapshots_core.specs.Copies.{IsSnapOf, SnapView}
use Rattle.registry_snapshots.proofs.copies.Copies.new.Goals as goal

pub warm-requires-2-clause-kept : goal.warm-requires-2-clause-kept
warm-requires-2-clause-kept g c =
    let shown : c.in_ok-warm.field-0.desk.shown.value ≡ c.in_ok-writer.writer.desk.shown.value = search rules in
    subst (λ (t : SnapView). IsSnapOf g.J.Naming.book g.J.Naming.opening t) (sym shown) c.in_ok-writer.ensures.kept
