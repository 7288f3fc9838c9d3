use Rattle.std.proofs.Common.{◌≡◌, List, length, refl, ap, ◌∙◌, subst, arith}
use Rattle.std.proofs.lemmas.List.{length-map}
use Rattle.seq_bus_core.specs.declared.change.Change.{Change}
use Rattle.seq_bus_core.specs.declared.change.Change.TheVariants.{Leave}
use Rattle.router_core.specs.Answers.{Says, Refuses, refusal_of_batch}
use Rattle.router_core.specs.Events.{announcing_all}
use Rattle.router_core.specs.Scripts.{Gives, ChangesAll}
use Rattle.router_core.specs.Standing.{Standing}
use Rattle.router_steps.proofs.Gathering.{as_many}
use Rattle.router_steps.proofs.Sequels.{comes_then}
use Rattle.router_steps.proofs.context.Context.leave_batch.Goals as goal

pub announce_all-requires : goal.announce_all-requires
announce_all-requires g c =
    let many : length c.in-Ok.outcomes.items ≡ length c.args.numbers.now =
    ap length c.in-Ok.ensures.changes.hears.told ∙ as_many _ _ c.args.changes.items ∙ ap length c.requires.leaves ∙ length-map c.args.numbers.now Leave in
    record { few = c.in-Ok.ensures.few; room = omega (arith, many, c.in-Ok.ensures.room, c.requires.room) }

pub returns-in-Ok-clause-comes : goal.returns-in-Ok-clause-comes
returns-in-Ok-clause-comes g c s =
    let told = g.V.BusView.told in
    let registry_of = g.V.BusView.registry_of in
    let passes = g.G.Gate.passes in
    let alone = g.V.BusView.alone in
    let kept : Standing = record s { due_leaves = c.args.due_leaves.now.items } in (
      Says c.in-Ok.outcomes.items,
      c.change_all.new.self.world,
      subst (λ (cs : List Change). ChangesAll alone cs c.args.self.now.world (Says c.in-Ok.outcomes.items) c.change_all.new.self.world) c.requires.leaves c.in-Ok.ensures.changes,
      comes_then told registry_of passes alone (λ done. Gives kept) tt c.announce_all.new.self.world kept c.announce_all.new.self.world (refl, refl)
          (announcing_all c.in-Ok.outcomes.items) c.change_all.new.self.world c.announce_all.ensures.comes,
    )

pub returns-in-Ok-clause-room : goal.returns-in-Ok-clause-room
returns-in-Ok-clause-room g c =
    let many : length c.in-Ok.outcomes.items ≡ length c.args.numbers.now =
    ap length c.in-Ok.ensures.changes.hears.told ∙ as_many _ _ c.args.changes.items ∙ ap length c.requires.leaves ∙ length-map c.args.numbers.now Leave in
    omega (arith, many, c.in-Ok.ensures.room, c.announce_all.ensures.room)

pub returns-clause-comes : goal.returns-clause-comes
returns-clause-comes g c s =
    let alone = g.V.BusView.alone in
    let refused = Refuses (refusal_of_batch c.in-Err.field-0.cause) in (
      refused,
      c.change_all.new.self.world,
      subst (λ (cs : List Change). ChangesAll alone cs c.args.self.now.world refused c.change_all.new.self.world) c.requires.leaves c.in-Err.ensures.changes,
      c.leave_each.ensures.comes s,
    )
