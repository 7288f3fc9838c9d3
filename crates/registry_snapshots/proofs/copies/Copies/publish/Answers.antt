use Rattle.std.proofs.Common.{Bool, subst, sym}
use Rattle.seq_bus_core.specs.declared.entry.Entry.{Entry}
use Rattle.registry_snapshots_core.specs.Copies.{SnapView, IsSnapOf, absorbed}
use Rattle.registry_snapshots_core.proofs.Steps.{next_legal}
use Rattle.registry_snapshots.proofs.Changes.{shown_next}
use Rattle.registry_snapshots.proofs.copies.Copies.publish.Goals as goal

pub add-requires-clause-legal : goal.add-requires-clause-legal
add-requires-clause-legal g c = next_legal c.args.prefix.now.log c.args.entry.now c.requires.legal c.requires.alone c.requires.number

pub show-requires-clause-kept : goal.show-requires-clause-kept
show-requires-clause-kept g c =
    let s : SnapView = c.args.self.now.0 in
    let kept : IsSnapOf g.J.Naming.book g.J.Naming.opening s = subst (λ (v : SnapView × Bool). IsSnapOf g.J.Naming.book g.J.Naming.opening v.0) c.self.view_is c.self.invariant.1 in
    let next = shown_next g.J.Naming.book g.J.Naming.opening s c.args.prefix.now c.args.entry.now c.args.prepared c.in-Some.next c.copy.result kept
    c.requires.prefix c.requires.alone c.requires.number c.requires.prepared.seat_is c.requires.prepared.change_is c.in-Some.ensures c.copy.ensures in
    subst (λ (e : Entry). IsSnapOf g.J.Naming.book g.J.Naming.opening (absorbed s e.seat e.number c.args.prepared c.copy.result)) (sym c.entry.view_is) next
