use Rattle.std.proofs.Common.{◌≡◌, true, false, List, [], refl, ap, ◌∙◌, subst}
use Rattle.seq_bus_core.specs.declared.connection.Conn.{Conn}
use Rattle.seq_bus_core.specs.declared.verdict.Verdict.{Verdict}
use Rattle.outbox_core.specs.Contents.{said_of}
use Rattle.outbox_core.specs.Deliveries.{deliveries_of}
use Rattle.router_core.specs.Addressed.{Addressed}
use Rattle.router_core.specs.Deeds.{Puts}
use Rattle.router_core.specs.Scripts.{World, Does, putting, Comes}
use Rattle.router_core.specs.Serving.{nothing}
use Rattle.router_steps.proofs.Putting.{put_to_somebody}
use Rattle.router_steps.proofs.Signing.{deliveries_of_one}
use Rattle.router_steps.proofs.Tellings.{put_to_alone}
use Rattle.router_steps.proofs.context.Context.put_to.Goals as goal

pub returns-in-Some-clause-comes : goal.returns-in-Some-clause-comes
returns-in-Some-clause-comes g c =
    let said = said_of c.args.content in
    let verdict = c.args.verdict.value in
    let kept = c.keep_verdict in
    let done = c.put in
    let put = put_to_alone g.V.BusView.told g.V.BusView.registry_of g.G.Gate.passes g.V.BusView.alone said kept.new.self.world done.new.self.world c.in-Some.conn c.one.result [] refl c.one.ensures done.ensures.does in
    let to_all = subst (λ (to : List Conn). Comes g.V.BusView.told g.V.BusView.registry_of g.G.Gate.passes g.V.BusView.alone (putting to said nothing) kept.new.self.world tt done.new.self.world) (deliveries_of_one c.deref.result.now.to c.deref.result.now.monitors c.in-Some.conn c.in-Some.ensures ∙ ap (λ (v : Verdict). deliveries_of v.to v.monitors) c.deref.ensures) put in
    subst (λ (w : World g.row.V-Note.Denot g.row.G.Denot). Comes g.V.BusView.told g.V.BusView.registry_of g.G.Gate.passes g.V.BusView.alone (putting (deliveries_of verdict.to verdict.monitors) said nothing) w tt done.new.self.world) kept.ensures.world to_all

pub returns-clause-comes : goal.returns-clause-comes
returns-clause-comes g c =
    let verdict = c.args.verdict.value in
    let said = said_of c.args.content in
    let now = c.args.self.now.world in
    let never = λ (none : (verdict.to ≡ []) × (verdict.monitors ≡ [])). let bad : ⊥ = let e : false ≡ true = c.if-is_for_nobody.ensures.1 (ap (λ (v : Verdict). v.to) c.deref-2.ensures ∙ none.0, ap (λ (v : Verdict). v.monitors) c.deref-2.ensures ∙ none.1) in cc in bad in
    let does = subst (λ (a : Addressed). Does g.V.BusView.told g.V.BusView.registry_of g.V.BusView.alone (Puts (deliveries_of a.to a.monitors) said) now c.put-2.new.self.world) c.shown.ensures c.put-2.ensures.does in
    put_to_somebody g.V.BusView.told g.V.BusView.registry_of g.G.Gate.passes g.V.BusView.alone said now c.put-2.new.self.world verdict.to verdict.monitors never does
