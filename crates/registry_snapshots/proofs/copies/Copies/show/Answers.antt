use Rattle.std.proofs.Common.{◌≡◌, ◌∙◌, Bool, false, drop, ap, sym, subst, ◌++◌, ◌∷◌, [], List}
use Rattle.registry_snapshots_core.specs.Copies.{SnapView, IsSnapOf}
use Rattle.registry_snapshots_core.specs.Pending.{brought_up}
use Rattle.registry_snapshots_core.specs.declared.snap.Op.{Op}
use Rattle.registry_snapshots.proofs.copies.Copies.show.Goals as goal

pub publish_in_place-requires : goal.publish_in_place-requires
publish_in_place-requires g c =
    let s : SnapView = c.self.inside.writer.desk.shown.value in
    let unspent : c.self.inside.spent ≡ false = ap (λ (v : SnapView × Bool). v.1) c.self.view_is ∙ c.requires.settled in
    let ready : IsSnapOf g.J.Naming.book g.J.Naming.opening (brought_up s c.args.op) =
    subst (λ (v : SnapView × Bool). IsSnapOf g.J.Naming.book g.J.Naming.opening (brought_up v.0 c.args.op)) (sym c.self.view_is) c.requires.kept in
    let pending : drop c.append.new.self.behind c.append.new.self.log.items ≡ c.args.op ∷ [] = subst (λ (ops : List Op). drop c.append.new.self.behind c.append.new.self.log.items ≡ ops ++ c.args.op ∷ []) (c.self.invariant.2 unspent) c.in-Ok.ensures.pending in
    rw (pending, c.in-Ok.ensures.desk) ready

pub invariant_of-self : goal.invariant_of-self
invariant_of-self g c =
    let s : SnapView = c.self.inside.writer.desk.shown.value in
    let unspent : c.self.inside.spent ≡ false = ap (λ (v : SnapView × Bool). v.1) c.self.view_is ∙ c.requires.settled in
    let ready : IsSnapOf g.J.Naming.book g.J.Naming.opening (brought_up s c.args.op) =
    subst (λ (v : SnapView × Bool). IsSnapOf g.J.Naming.book g.J.Naming.opening (brought_up v.0 c.args.op)) (sym c.self.view_is) c.requires.kept in
    let pending : drop c.append.new.self.behind c.append.new.self.log.items ≡ c.args.op ∷ [] = subst (λ (ops : List Op). drop c.append.new.self.behind c.append.new.self.log.items ≡ ops ++ c.args.op ∷ []) (c.self.invariant.2 unspent) c.in-Ok.ensures.pending in
    let shown : c.publish_in_place.new.writer.desk.shown.value ≡ brought_up s c.args.op = rw (pending, c.in-Ok.ensures.desk) at c.publish_in_place.ensures.shown in
    (c.self.invariant.0, rw shown ready, λ _. c.publish_in_place.ensures.settled)
