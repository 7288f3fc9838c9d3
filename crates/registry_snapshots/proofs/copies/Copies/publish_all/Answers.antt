use Rattle.std.proofs.Common.{◌≡◌, ◌+◌, ◌-◌, length, Bool, subst, arith, rules}
use Rattle.seq_bus_core.specs.Histories.{numbers_of}
use Rattle.seq_bus_core.proofs.Extending.{legal_more}
use Rattle.registry_snapshots_core.specs.Copies.{SnapView, IsSnapOf}
use Rattle.registry_snapshots.proofs.Changes.{shown_next_all}
use Rattle.registry_snapshots.proofs.copies.Copies.publish_all.Goals as goal

pub add_all-requires-clause-legal : goal.add_all-requires-clause-legal
add_all-requires-clause-legal g c =
    let batch = c.args.batch.now in
    legal_more c.args.prefix.now.log batch.seat batch.first batch.changes.items c.requires.legal c.requires.first

pub show-requires-clause-kept : goal.show-requires-clause-kept
show-requires-clause-kept g c =
    let s : SnapView = c.args.self.now.0 in
    let batch = c.args.batch.now in
    let kept : IsSnapOf g.J.Naming.book g.J.Naming.opening s = subst (λ (v : SnapView × Bool). IsSnapOf g.J.Naming.book g.J.Naming.opening v.0) c.self.view_is c.self.invariant.1 in
    let long : c.len.result ≡ length batch.changes.items = search rules in
    let count : batch.first - 1 + c.len.result ≡ length (numbers_of batch.seat c.args.prefix.now.log) + length batch.changes.items = omega (arith, c.requires.first, long) in
    shown_next_all g.J.Naming.book g.J.Naming.opening s c.args.prefix.now batch.seat batch.first (batch.first - 1 + c.len.result) batch.changes.items c.args.prepared.items c.in-Some.next c.copy.result kept
    c.requires.prefix count c.requires.prepared c.in-Some.ensures c.copy.ensures
