use Rattle.std.proofs.Common.{◌≡◌, ℕ, Option, Some, None, IfSome, set, refl, sym, ap, ◌∙◌, subst}
use Rattle.std.specs.Option.{option_copied_mut}
use Rattle.std.proofs.lemmas.List.{get_or-set_same}
use Rattle.slab.specs.Slab.{get}
use Rattle.message_core.specs.Said.{said}
use Rattle.router_core.specs.Events.{serving_next, serving_hello}
use Rattle.router_core.specs.Scripts.{World, RunsTo}
use Rattle.router_core.specs.Standing.{Peer, Stage, Standing, Unnamed, next_serial, peer_at, with_peer}
use Rattle.router_steps.specs.Reading.{ComesOfNext}
use Rattle.router_steps.specs.declared.first.HelloCall.{HelloCall}
use Rattle.router_steps.specs.Refusing.{AreRefusals}
use Rattle.router.specs.Indexed.{IsNameless, AwaitsHello}
use Rattle.router.specs.Tables.{Table}
use Rattle.router.proofs.HelloTaken.{serves_hello, hello_next, no_slot}
use Rattle.router.proofs.Indexing.{Keeps, index_at, like_keeps}
use Rattle.router.proofs.Keeping.{next_keeps}
use Rattle.router.proofs.Slabs.{standing_of, stands, there_within, written}
use Rattle.router.proofs.peers.Peers.next.Goals as goal

pub returns-in_default-clause-comes : goal.returns-in_default-clause-comes
returns-in_default-clause-comes g c =
    let key = c.args.key in
    let slab = c.self.inside.peers in
    let s = standing_of slab c.self.inside.due_leaves.items c.self.inside.login in
    let w = c.self.inside.context.world in
    let none = stands slab c.self.inside.due_leaves.items c.self.inside.login key None (sym c.get_mut.ensures.value ∙ ap option_copied_mut c.in_default.is) in
    let done = subst (λ (o : Option Peer). RunsTo g.V.BusView g.G.Gate (serving_next s key o) w s w) (sym none) (refl, refl) in
    subst (λ (k : Table g.row.V-Note.Denot g.row.G.Denot). RunsTo g.V.BusView g.G.Gate (serving_next k.standing key (peer_at k.standing key)) k.work.world s w) c.self.view_is done

pub returns-in-None-clause-comes : goal.returns-in-None-clause-comes
returns-in-None-clause-comes g c =
    let key = c.args.key in
    let slab = c.self.inside.peers in
    let due = c.self.inside.due_leaves.items in
    let login = c.self.inside.login in
    let s = standing_of slab due login in
    let w = c.self.inside.context.world in
    let v = c.next_in.new.context.world in
    let p = c.in-Some.peer.now in
    let q = c.next_in.new.peer in
    let t = standing_of (record slab { slots = set slab.slots key (Some q) }) due login in
    let there : get slab key ≡ Some p = sym c.get_mut.ensures.value ∙ ap option_copied_mut c.in-Some.is in
    let here : peer_at s key ≡ Some p = stands slab due login key (Some p) there in
    let next_is = subst (λ (o : Option HelloCall). ComesOfNext g.V.BusView g.G.Gate key o (Some p) (Some q) c.reserve_verdicts.new.self.world v) c.in-None.is c.in_ok-next_in.ensures.next in
    let done = subst (λ (k : World g.row.V-Note.Denot g.row.G.Denot). RunsTo g.V.BusView g.G.Gate (serving_next s key (Some p)) k (with_peer s key (Some q)) v) (c.reserve_verdicts.ensures.world ∙ c.reserve.ensures.world) (next_is s here) in
    let found = subst (λ (o : Option Peer). RunsTo g.V.BusView g.G.Gate (serving_next s key o) w (with_peer s key (Some q)) v) (sym here) done in
    let is = subst (λ (x : Standing). RunsTo g.V.BusView g.G.Gate (serving_next s key (peer_at s key)) w x v) (written slab due login key p q there) found in
    subst (λ (k : Table g.row.V-Note.Denot g.row.G.Denot). RunsTo g.V.BusView g.G.Gate (serving_next k.standing key (peer_at k.standing key)) k.work.world t v) c.self.view_is is

pub returns-in-Some-2-clause-comes : goal.returns-in-Some-2-clause-comes
returns-in-Some-2-clause-comes g c =
    let told = g.V.BusView.told in
    let registry_of = g.V.BusView.registry_of in
    let passes = g.G.Gate.passes in
    let alone = g.V.BusView.alone in
    let key = c.args.key in
    let slab = c.self.inside.peers in
    let due = c.self.inside.due_leaves.items in
    let login = c.self.inside.login in
    let s = standing_of slab due login in
    let w = c.self.inside.context.world in
    let was = c.in-Some.peer.now in
    let left = c.next_in.new.peer in
    let t = c.serve_hello.new.self.standing in
    let v = c.serve_hello.new.self.work.world in
    let hello = c.in-Some-2.field-0 in
    let there : get slab key ≡ Some was = sym c.get_mut.ensures.value ∙ ap option_copied_mut c.in-Some.is in
    let next_is = subst (λ (o : Option HelloCall). ComesOfNext g.V.BusView g.G.Gate key o (Some was) (Some left) c.reserve_verdicts.new.self.world c.next_in.new.context.world) (c.in-Some-2.is ∙ ap (λ x. Some x) c.in-Some-2.field-0-is) c.in_ok-next_in.ensures.next in
    let p = next_is.0 in
    let q = next_is.1 in
    let says = next_is.4 in
    let is_there : peer_at s key ≡ Some p = stands slab due login key (Some was) there ∙ next_is.2 in
    let after = standing_of (record slab { slots = set slab.slots key (Some left) }) due login in
    let is_after : with_peer s key (Some left) ≡ after = written slab due login key was left there in
    let left_there : peer_at after key ≡ Some q = stands (record slab { slots = set slab.slots key (Some left) }) due login key (Some left) (get_or-set_same slab.slots key (Some left) None (there_within slab.slots key was there)) ∙ next_is.3 in
    let unnamed : q.stage ≡ Unnamed hello.privileged = ap (λ (x : Peer). x.stage) says.rest ∙ says.stage in
    let slotless = λ (slot : ℕ). no_slot slot (Some left) q hello.privileged next_is.3 unnamed in
    let m = said hello.hello in
    let served = subst (λ k. RunsTo g.V.BusView g.G.Gate (serving_hello after key m q hello.privileged) k t v) (next_is.5 ∙ c.reserve_verdicts.ensures.world ∙ c.reserve.ensures.world) (c.serve_hello.ensures.comes q left_there) in
    let begun = subst (λ (x : Standing). RunsTo g.V.BusView g.G.Gate (serving_hello x key m q hello.privileged) w t v) (sym is_after) served in
    let done = serves_hello s key (Some left) m q p hello.privileged is_there says.stage slotless told registry_of passes alone hello.privileged w t v begun in
    subst (λ (k : Table g.row.V-Note.Denot g.row.G.Denot). RunsTo g.V.BusView g.G.Gate (serving_next k.standing key (peer_at k.standing key)) k.work.world t v) c.self.view_is
    (hello_next told registry_of passes alone s key p q hello.privileged hello.hello w t v is_there says.stage says.bytes says.rest says.is_hello done)

pub invariant_of-self-in-None : goal.invariant_of-self-in-None
invariant_of-self-in-None g c =
    let key = c.args.key in
    let p = c.in-Some.peer.now in
    let q = c.next_in.new.peer in
    let there : get c.self.inside.peers key ≡ Some p = sym c.get_mut.ensures.value ∙ ap option_copied_mut c.in-Some.is in
    let w = c.reserve_verdicts.new.self.world in
    let v = c.next_in.new.context.world in
    let comes = subst (λ (o : Option HelloCall). ComesOfNext g.V.BusView g.G.Gate key o (Some p) (Some q) w v) c.in-None.is c.in_ok-next_in.ensures.next in
    let keeps = next_keeps g.V.BusView.told g.V.BusView.registry_of g.G.Gate.passes g.V.BusView.alone key (Some p) (Some q) w v comes in
    index_at c.self.inside.peers.slots c.self.inside.key_of_slot key (Some p) (Some q) (sym there) keeps c.self.invariant

pub serve_hello-requires-clause-nameless : goal.serve_hello-requires-clause-nameless
serve_hello-requires-clause-nameless g c =
    let key = c.args.key in
    let slab = c.self.inside.peers in
    let was = c.in-Some.peer.now in
    let left = c.next_in.new.peer in
    let there : get slab key ≡ Some was = sym c.get_mut.ensures.value ∙ ap option_copied_mut c.in-Some.is in
    let next_is = subst (λ (o : Option HelloCall). ComesOfNext g.V.BusView g.G.Gate key o (Some was) (Some left) c.reserve_verdicts.new.self.world c.next_in.new.context.world) (c.in-Some-2.is ∙ ap (λ x. Some x) c.in-Some-2.field-0-is) c.in_ok-next_in.ensures.next in
    let q = next_is.1 in
    let after = record slab { slots = set slab.slots key (Some left) } in
    let left_there = stands after c.self.inside.due_leaves.items c.self.inside.login key (Some left) (get_or-set_same slab.slots key (Some left) None (there_within slab.slots key was there)) ∙ next_is.3 in
    let unnamed : q.stage ≡ Unnamed c.in-Some-2.field-0.privileged = ap (λ (x : Peer). x.stage) next_is.4.rest ∙ next_is.4.stage in
    subst (λ (o : Option Peer). IsNameless o) (sym left_there) (subst (λ (stage : Stage). AwaitsHello stage) (sym unnamed) tt)

pub serve_hello-requires-clause-written : goal.serve_hello-requires-clause-written
serve_hello-requires-clause-written g c =
    let key = c.args.key in
    let slab = c.self.inside.peers in
    let was = c.in-Some.peer.now in
    let left = c.next_in.new.peer in
    let there : get slab key ≡ Some was = sym c.get_mut.ensures.value ∙ ap option_copied_mut c.in-Some.is in
    let next_is = subst (λ (o : Option HelloCall). ComesOfNext g.V.BusView g.G.Gate key o (Some was) (Some left) c.reserve_verdicts.new.self.world c.next_in.new.context.world) (c.in-Some-2.is ∙ ap (λ x. Some x) c.in-Some-2.field-0-is) c.in_ok-next_in.ensures.next in
    let after = record slab { slots = set slab.slots key (Some left) } in
    let left_there = stands after c.self.inside.due_leaves.items c.self.inside.login key (Some left) (get_or-set_same slab.slots key (Some left) None (there_within slab.slots key was there)) ∙ next_is.3 in
    subst (λ (o : Option Peer). IfSome o (λ x. AreRefusals (said c.in-Some-2.field-0.hello) (next_serial x.serial) c.in-Some-2.field-0.errors)) (sym left_there) next_is.4.errors

-- its stage is as it was
pub invariant_of-self-in-Some-2 : goal.invariant_of-self-in-Some-2
invariant_of-self-in-Some-2 g c =
    let key = c.args.key in
    let was = c.in-Some.peer.now in
    let left = c.next_in.new.peer in
    let there : get c.self.inside.peers key ≡ Some was = sym c.get_mut.ensures.value ∙ ap option_copied_mut c.in-Some.is in
    let next_is = subst (λ (o : Option HelloCall). ComesOfNext g.V.BusView g.G.Gate key o (Some was) (Some left) c.reserve_verdicts.new.self.world c.next_in.new.context.world) (c.in-Some-2.is ∙ ap (λ x. Some x) c.in-Some-2.field-0-is) c.in_ok-next_in.ensures.next in
    let p = next_is.0 in
    let q = next_is.1 in
    let like : q.stage ≡ p.stage = ap (λ (x : Peer). x.stage) next_is.4.rest in
    let keeps = subst (λ (o : Option Peer). Keeps o (Some left)) (sym next_is.2) (subst (λ (o : Option Peer). Keeps (Some p) o) (sym next_is.3) (like_keeps p q like)) in
    index_at c.self.inside.peers.slots c.self.inside.key_of_slot key (Some was) (Some left) (sym there) keeps c.self.invariant
