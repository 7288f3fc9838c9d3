use Rattle.std.proofs.Common.{◌≡◌, [], ◌∷◌, ◌++◌, Some, true, List, refl, sym, ap, ◌∙◌, subst}
use Rattle.message_core.specs.Said.{said}
use Rattle.router_core.specs.declared.joint.Joint.{Joint}
use Rattle.router_core.specs.declared.joint.RuleCall.{RuleCall}
use Rattle.router_core.specs.Events.{Gathered, work_for, after_joining}
use Rattle.router_core.specs.Scripts.{Comes, and_then}
use Rattle.router_core.specs.Standing.{Standing, trimmed}
use Rattle.router_core.specs.Together.{Joins, Parts, joining}
use Rattle.router_steps.proofs.Sequels.{comes_then}
use Rattle.router.specs.Joinings.{joining_of, parting_of}
use Rattle.router.specs.declared.joining.Joining.{Joining}
use Rattle.router.specs.Tables.{Table}
use Rattle.router.proofs.Turnings.{parts_from}
use Rattle.router.proofs.peers.Peers.join_one.Goals as goal

same_some : {A : Type 0} (x y : A) → Some x ≡ Some y → x ≡ y
same_some x y is = cc

pub returns-in-Joins-clause-comes : goal.returns-in-Joins-clause-comes
returns-in-Joins-clause-comes g c call is =
    let told = g.V.BusView.told in
    let registry_of = g.V.BusView.registry_of in
    let passes = g.G.Gate.passes in
    let alone = g.V.BusView.alone in
    let key = c.args.key in
    let m = said c.args.message in
    let conn = c.args.conn in
    let joints = c.args.joints.now.items in
    let s : Standing = record { peers = trimmed c.self.inside.peers.slots; due_leaves = c.self.inside.due_leaves.items; login = c.self.inside.login } in
    let w = c.self.inside.context.world in
    let v = c.join.new.context.world in
    let joint = λ (r : RuleCall). let j : Joint = record { key = key; message = c.args.message; caller = conn; call = r } in j in
    let same : call ≡ c.rule_call_of.result = same_some call c.rule_call_of.result (sym is ∙ c.rule_call_of.ensures) in
    let all : c.push_reserved.new.joints.items ≡ joints ++ joint call ∷ [] = c.push_reserved.ensures.items ∙ ap (λ (r : RuleCall). joints ++ joint r ∷ []) (sym same) in
    let end : Gathered = record { joints = joints ++ joint call ∷ []; standing = s; served = true } in
    let came = subst (λ (r : Joining). Comes told registry_of passes alone (joining m conn call) w (joining_of m conn r) v) c.in-Joins.is (c.join.ensures.comes call is) in
    let done = comes_then told registry_of passes alone (λ it. after_joining joints s (joint call) it) Joins v end v (refl, refl) (joining m conn call) w came in
    let kept = subst (λ (js : List Joint). let x : Gathered = record { joints = js; standing = s; served = true } in Comes told registry_of passes alone (and_then (joining m conn call) (λ it. after_joining joints s (joint call) it)) w x v) (sym all) done in
    subst
    (λ (k : Table g.row.V-Note.Denot g.row.G.Denot). let x : Gathered = record { joints = c.push_reserved.new.joints.items; standing = s; served = true } in Comes told registry_of passes alone (and_then (joining m conn call) (λ it. after_joining joints k.standing (joint call) it)) k.work.world x v)
    c.self.view_is kept

pub returns-in-Parts-clause-comes : goal.returns-in-Parts-clause-comes
returns-in-Parts-clause-comes g c call is =
    let told = g.V.BusView.told in
    let registry_of = g.V.BusView.registry_of in
    let passes = g.G.Gate.passes in
    let alone = g.V.BusView.alone in
    let key = c.args.key in
    let m = said c.args.message in
    let conn = c.args.conn in
    let joints = c.args.joints.now.items in
    let s : Standing = record { peers = trimmed c.self.inside.peers.slots; due_leaves = c.self.inside.due_leaves.items; login = c.self.inside.login } in
    let t = c.make_all.new.self.standing in
    let u = c.part_one.new.self.standing in
    let w = c.self.inside.context.world in
    let n = c.join.new.context.world in
    let q = c.make_all.new.self.work.world in
    let v = c.part_one.new.self.work.world in
    let work = parting_of m conn c.in-Parts.parting in
    let joint : Joint = record { key = key; message = c.args.message; caller = conn; call = call } in
    let end : Gathered = record { joints = []; standing = u; served = true } in
    let came = subst (λ (r : Joining). Comes told registry_of passes alone (joining m conn call) w (joining_of m conn r) n) c.in-Parts.is (c.join.ensures.comes call is) in
    let later = parts_from told registry_of passes alone joints s t u (λ (x : Standing). work_for x key work) n q v c.make_all.ensures.comes c.part_one.ensures.comes in
    let done = comes_then told registry_of passes alone (λ it. after_joining joints s joint it) (Parts work) n end v later (joining m conn call) w came in
    let kept = subst (λ (js : List Joint). let x : Gathered = record { joints = js; standing = u; served = true } in Comes told registry_of passes alone (and_then (joining m conn call) (λ it. after_joining joints s joint it)) w x v) (sym c.make_all.ensures.none) done in
    subst
    (λ (k : Table g.row.V-Note.Denot g.row.G.Denot). let x : Gathered = record { joints = c.make_all.new.joints.items; standing = u; served = true } in Comes told registry_of passes alone (and_then (joining m conn call) (λ it. after_joining joints k.standing joint it)) k.work.world x v)
    c.self.view_is kept
