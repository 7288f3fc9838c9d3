use Rattle.std.proofs.Common.{◌≡◌, true, sym, subst, ◌∙◌}
use Rattle.message_core.specs.Said.{said}
use Rattle.router_core.specs.Events.{work_for}
use Rattle.router_core.specs.Scripts.{Comes}
use Rattle.router_core.specs.Standing.{peer_at}
use Rattle.router.specs.Joinings.{parting_of}
use Rattle.router.specs.Named.{is_named}
use Rattle.router.specs.Tables.{Table}
use Rattle.router.proofs.Turnings.{does_nothing}
use Rattle.router.proofs.peers.Peers.part_one.Goals as goal

pub returns-then-not-has_name-clause-comes : goal.returns-then-not-has_name-clause-comes
returns-then-not-has_name-clause-comes g c =
    does_nothing g.V.BusView.told g.V.BusView.registry_of g.G.Gate.passes g.V.BusView.alone c.args.self.now.standing c.args.key
    (parting_of (said c.args.message.now) c.args.caller c.args.parting) c.args.self.now.work.world (sym c.has_name.ensures ∙ c.if-not-has_name.true)

pub settle-requires-clause-named : goal.settle-requires-clause-named
settle-requires-clause-named g c =
    subst (λ (k : Table g.row.V-Note.Denot g.row.G.Denot). is_named (peer_at k.standing c.args.key) ≡ true) (sym c.self.view_is) (sym c.has_name.ensures ∙ c.if-not-has_name.false)

pub returns-clause-comes : goal.returns-clause-comes
returns-clause-comes g c =
    let work = parting_of (said c.args.message.now) c.args.caller c.args.parting in
    subst (λ (k : Table g.row.V-Note.Denot g.row.G.Denot). Comes g.V.BusView.told g.V.BusView.registry_of g.G.Gate.passes g.V.BusView.alone (work_for k.standing c.args.key work) k.work.world c.settle.new.self.standing c.settle.new.self.work.world) c.self.view_is
    (c.settle.ensures.comes work c.self.inside.context.world c.part-fate.ensures.comes)
