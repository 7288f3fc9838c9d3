use Rattle.std.proofs.Common.{◌≡◌, Some, None, option_map, position, set, refl, sym, ap, subst}
use Rattle.std.proofs.lemmas.List.Quantifiers.{position-Some}
use Rattle.std.proofs.lemmas.Result.{on_ok_weaker}
use Rattle.slab.specs.Slab.{get}
use Rattle.outbox_core.specs.Contents.{said_of}
use Rattle.router_core.specs.Events.{writing, for_entry, mail_delivery, after_note}
use Rattle.router_core.specs.Scripts.{Comes}
use Rattle.router_core.specs.Standing.{Peer, Standing, is_conn, peer_at}
use Rattle.router_steps.specs.Noting.{after_noting, IsNoteTaken}
use Rattle.router.specs.Tables.{Table}
use Rattle.router.proofs.FoundMail.{dropped, delivered}
use Rattle.router.proofs.Indexing.{index_at, same_keeps, either_way, conn_there}
use Rattle.router.proofs.Keeping.{brought_keeps}
use Rattle.router.proofs.Slabs.{for_one_noted, is_there, standing_of, stands, stood, written}
use Rattle.router.proofs.peers.Peers.mail.Goals as goal

pub index_mut-requires : goal.index_mut-requires
index_mut-requires g c =
    let test = is_conn c.args.slot c.args.envelope.now.number in
    let slab = c.self.inside.peers in
    let s = standing_of slab c.self.inside.due_leaves.items c.self.inside.login in
    let some : position test s.peers ≡ Some c.in-Some.key = sym c.in-Some.ensures in
    let found = conn_there c.args.slot c.args.envelope.now.number (peer_at s c.in-Some.key) (position-Some test s.peers c.in-Some.key None some).1 in
    is_there (get slab c.in-Some.key) found.0 (stood slab c.self.inside.due_leaves.items c.self.inside.login c.in-Some.key (Some found.0) found.1)

pub returns-in-None-clause-comes : goal.returns-in-None-clause-comes
returns-in-None-clause-comes g c =
    let told = g.V.BusView.told in
    let registry_of = g.V.BusView.registry_of in
    let passes = g.G.Gate.passes in
    let alone = g.V.BusView.alone in
    let held = option_map told c.args.envelope.now.note in
    let said = said_of c.args.envelope.now.content in
    let test = is_conn c.args.slot c.args.envelope.now.number in
    let s = standing_of c.self.inside.peers c.self.inside.due_leaves.items c.self.inside.login in
    let m = c.take_note_of.new.self.world in
    let none : position test s.peers ≡ None = sym c.in-None.ensures in
    let takes_note = subst (λ k. IsNoteTaken alone held k m) c.reserve.ensures.world c.take_note_of.ensures.takes_note in
    subst (λ (k : Table g.row.V-Note.Denot g.row.G.Denot). Comes told registry_of passes alone (after_note held (mail_delivery k.standing said (position test k.standing.peers))) k.work.world s m) c.self.view_is
    (dropped told registry_of passes alone held c.self.inside.context.world m s s said (position test s.peers) none refl takes_note)

pub returns-in-Some-clause-comes : goal.returns-in-Some-clause-comes
returns-in-Some-clause-comes g c =
    let told = g.V.BusView.told in
    let registry_of = g.V.BusView.registry_of in
    let passes = g.G.Gate.passes in
    let alone = g.V.BusView.alone in
    let held = option_map told c.args.envelope.now.note in
    let said = said_of c.args.envelope.now.content in
    let test = is_conn c.args.slot c.args.envelope.now.number in
    let key = c.in-Some.key in
    let slab = c.self.inside.peers in
    let due = c.self.inside.due_leaves.items in
    let login = c.self.inside.login in
    let s = standing_of slab due login in
    let w = c.self.inside.context.world in
    let v = c.deliver.new.self.world in
    let p = c.index_mut.result.now in
    let q = c.deliver.new.peer in
    let t = standing_of (record slab { slots = set slab.slots key (Some q) }) due login in
    let some : position test s.peers ≡ Some key = sym c.in-Some.ensures in
    let there : get slab key ≡ Some p = c.index_mut.ensures.value in
    on_ok_weaker c.deliver.result
    (λ brought.
    let here = subst (λ k. Comes told registry_of passes alone (after_noting held (writing key said p)) k q v) c.reserve.ensures.world brought in
    let of_entry = for_one_noted told registry_of passes alone w v held p q (writing key said) here in
    let found = subst (λ o. Comes told registry_of passes alone (after_noting held (for_entry o (writing key said))) w (Some q) v) (sym (stands slab due login key (Some p) there)) of_entry in
    let done = delivered told registry_of passes alone w v held s said (position test s.peers) key (Some q) some found in
    let is = subst (λ (x : Standing). Comes told registry_of passes alone (after_note held (mail_delivery s said (position test s.peers))) w x v) (written slab due login key p q there) done in
    subst (λ (k : Table g.row.V-Note.Denot g.row.G.Denot). Comes told registry_of passes alone (after_note held (mail_delivery k.standing said (position test k.standing.peers))) k.work.world t v) c.self.view_is is)
    c.deliver.ensures.comes

pub invariant_of-self-in-Some : goal.invariant_of-self-in-Some
invariant_of-self-in-Some g c =
    let told = g.V.BusView.told in
    let registry_of = g.V.BusView.registry_of in
    let passes = g.G.Gate.passes in
    let alone = g.V.BusView.alone in
    let key = c.in-Some.key in
    let p = c.index_mut.result.now in
    let q = c.deliver.new.peer in
    let held = option_map told c.args.envelope.now.note in
    let said = said_of c.args.envelope.now.content in
    let w = c.reserve.new.self.world in
    let v = c.deliver.new.self.world in
    let keeps =
    either_way c.deliver.result c.deliver.ensures.comes c.deliver.ensures.err
    (λ came. brought_keeps told registry_of passes alone w v held key said (Some p) (Some q) (for_one_noted told registry_of passes alone w v held p q (writing key said) came)) (λ same. same_keeps (Some p) (Some q) (ap (λ (x : Peer). Some x) same))
    in
    index_at c.self.inside.peers.slots c.self.inside.key_of_slot key (Some p) (Some q) (sym c.index_mut.ensures.value) keeps c.self.invariant
