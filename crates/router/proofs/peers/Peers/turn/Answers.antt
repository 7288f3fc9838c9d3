use Rattle.std.proofs.Common.{◌≡◌, ◌<◌, ◌+◌, [], ℕ, Bool, false, ◌||◌, OnOk, OnErr, List, length, drop, sym, ap, ◌∙◌, subst, arith}
use Rattle.std.proofs.lemmas.List.{drop_all}
use Rattle.router_core.specs.declared.joint.Joint.{Joint}
use Rattle.router_core.specs.Events.{Gathered, making_all, turning}
use Rattle.router_core.specs.Scripts.{Comes}
use Rattle.router_core.specs.Standing.{Standing}
use Rattle.router_steps.specs.Work.{Work}
use Rattle.router.proofs.Turnings.{neither, on_ok, on_err, turns_more, turns_end}
use Rattle.router.proofs.peers.Peers.turn.Goals as goal
use Rattle.router.proofs.peers.Peers.turn.Goals.{then-begun, else-begun, then-begun-2, else-begun-2}

pub loop-key-preserved : goal.loop-key-preserved
loop-key-preserved g c =
    let told = g.V.BusView.told in
    let registry_of = g.V.BusView.registry_of in
    let passes = g.G.Gate.passes in
    let alone = g.V.BusView.alone in
    let at = c.loop-key in
    let keys = c.args.keys.now in
    let served = c.in-Ok.served in
    let inside : at.key-index < length keys = omega arith in
    let after : Gathered = record { joints = c.gather.new.joints.items; standing = c.gather.new.self.standing; served = served } in
    let m = c.gather.new.self.work.world in
    let both : c.if-begun.begun ≡ (at.begun || served) = elim c.if-begun.branch [
      | then-begun w ↦ w.begun-is ∙ w.if-begun.true ∙ sym (ap (λ (b : Bool). b || served) w.if-begun.true)
      | else-begun w ↦ w.begun-is ∙ sym (ap (λ (b : Bool). b || served) w.if-begun.false)
    ] in
    record {
      few = omega arith;
      capacity = omega arith;
      room = c.gather.ensures.room;
      spare_verdicts = c.gather.ensures.spare_verdicts;
      joints = λ none. c.in-Ok.ensures.joints (neither at.begun served (sym both ∙ none)).1 ∙ at.invariant.joints (neither at.begun served (sym both ∙ none)).0;
      standing = λ none. c.in-Ok.ensures.standing (neither at.begun served (sym both ∙ none)).1 ∙ at.invariant.standing (neither at.begun served (sym both ∙ none)).0;
      world = λ none. c.in-Ok.ensures.world (neither at.begun served (sym both ∙ none)).1 ∙ at.invariant.world (neither at.begun served (sym both ∙ none)).0;
      keys = c.gather.ensures.keys ∙ at.invariant.keys;
      comes = λ end v later.
          at.invariant.comes end v
          (turns_more told registry_of passes alone keys at.key-index inside at.begun at.joints.items at.self.standing end after at.self.work.world m v c.in-Ok.ensures.comes
          (subst (λ (b : Bool). Comes told registry_of passes alone (turning after.joints (drop (at.key-index + 1) keys) b after.standing) m end v) both later));
    }

pub returns-in-Err-clause-comes : goal.returns-in-Err-clause-comes
returns-in-Err-clause-comes g c =
    let told = g.V.BusView.told in
    let registry_of = g.V.BusView.registry_of in
    let passes = g.G.Gate.passes in
    let alone = g.V.BusView.alone in
    let at = c.loop-key in
    let keys = c.args.keys.now in
    let inside : at.key-index < length keys = omega arith in
    let end = c.gather.new.self.standing in
    let v = c.gather.new.self.work.world in
    elim c.if-begun-2.branch [
      | then-begun-2 w ↦
          let ended = turns_end told registry_of passes alone keys at.key-index inside at.joints.items at.self.standing end at.self.work.world v c.in-Err.ensures.refused in
          let here = subst (λ (b : Bool). Comes told registry_of passes alone (turning at.joints.items (drop at.key-index keys) b at.self.standing) at.self.work.world end v) (sym w.if-begun-2.true) ended in
          let of_work = subst (λ (k : Work g.row.V-Note.Denot g.row.G.Denot). Comes told registry_of passes alone (turning [] keys false c.read_ahead.new.self.standing) k.world end v) c.read_ahead.ensures.work (at.invariant.comes end v here) in
          on_ok c.if-begun-2.result (subst (λ (s : Standing). Comes told registry_of passes alone (turning [] keys false s) c.args.self.now.work.world end v) c.read_ahead.ensures.standing of_work)
      | else-begun-2 w ↦ subst (λ r. OnOk r (Comes told registry_of passes alone (turning [] keys false c.args.self.now.standing) c.args.self.now.work.world end v)) (sym w.result-is) tt
    ]

pub returns-in-Err-clause-err : goal.returns-in-Err-clause-err
returns-in-Err-clause-err g c =
    let at = c.loop-key in
    let end = c.gather.new.self.standing in
    let v = c.gather.new.self.work.world in
    elim c.if-begun-2.branch [
      | then-begun-2 w ↦ subst (λ r. OnErr r (end ≡ c.args.self.now.standing)) (sym w.result-is) tt
      | else-begun-2 w ↦
          let made : (end ≡ at.self.standing) × (v ≡ at.self.work.world) =
          subst (λ (js : List Joint). Comes g.V.BusView.told g.V.BusView.registry_of g.G.Gate.passes g.V.BusView.alone (making_all js at.self.standing) at.self.work.world end v) (at.invariant.joints w.if-begun-2.false) c.in-Err.ensures.refused in
          on_err c.if-begun-2.result (made.0 ∙ at.invariant.standing w.if-begun-2.false ∙ c.read_ahead.ensures.standing)
    ]

pub returns-in-Err-clause-world : goal.returns-in-Err-clause-world
returns-in-Err-clause-world g c =
    let at = c.loop-key in
    let end = c.gather.new.self.standing in
    let v = c.gather.new.self.work.world in
    elim c.if-begun-2.branch [
      | then-begun-2 w ↦ subst (λ r. OnErr r (v ≡ c.args.self.now.work.world)) (sym w.result-is) tt
      | else-begun-2 w ↦
          let made : (end ≡ at.self.standing) × (v ≡ at.self.work.world) =
          subst (λ (js : List Joint). Comes g.V.BusView.told g.V.BusView.registry_of g.G.Gate.passes g.V.BusView.alone (making_all js at.self.standing) at.self.work.world end v) (at.invariant.joints w.if-begun-2.false) c.in-Err.ensures.refused in
          on_err c.if-begun-2.result (made.1 ∙ at.invariant.world w.if-begun-2.false ∙ ap (λ (k : Work g.row.V-Note.Denot g.row.G.Denot). k.world) c.read_ahead.ensures.work)
    ]

pub returns-clause-comes : goal.returns-clause-comes
returns-clause-comes g c =
    let told = g.V.BusView.told in
    let registry_of = g.V.BusView.registry_of in
    let passes = g.G.Gate.passes in
    let alone = g.V.BusView.alone in
    let at = c.loop-key in
    let keys = c.args.keys.now in
    let end = c.make_all.new.self.standing in
    let v = c.make_all.new.self.work.world in
    let none : drop at.key-index keys ≡ [] = drop_all at.key-index keys (omega arith) in
    let last = subst (λ (ks : List ℕ). Comes told registry_of passes alone (turning at.joints.items ks at.begun at.self.standing) at.self.work.world end v) (sym none) c.make_all.ensures.comes in
    let of_work = subst (λ (k : Work g.row.V-Note.Denot g.row.G.Denot). Comes told registry_of passes alone (turning [] keys false c.read_ahead.new.self.standing) k.world end v) c.read_ahead.ensures.work (at.invariant.comes end v last) in
    subst (λ (s : Standing). Comes told registry_of passes alone (turning [] keys false s) c.args.self.now.work.world end v) c.read_ahead.ensures.standing of_work
