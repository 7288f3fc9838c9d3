use Rattle.std.proofs.Common.{◌≡◌, List, refl, sym, ap, ◌∙◌}
use Rattle.owner_queues.specs.Queues.{Queue}
use Rattle.seq_bus_core.specs.BusState.{BusState, OwnedName}
use Rattle.seq_bus_core.specs.Steps.{step}
use Rattle.seq_bus_core.specs.declared.change.Change.{Change}
use Rattle.seq_bus_core.specs.declared.change.Change.TheVariants.{Release}
use Rattle.registry.specs.declared.registry.Registry.TheInside.{Inside}
use Rattle.registry.specs.Requests.{requeued}
use Rattle.registry.specs.Tables.{state_of}
use Rattle.registry.proofs.Kept.{kept}
use Rattle.registry.proofs.RequestLemmas.{limits_after, release_made, release_unmade}
use Rattle.registry.proofs.registry.Registry.make_release.Goals as goal
use Rattle.registry.proofs.registry.Registry.make_release.Goals.{After-set_queue_at, in-Ok, in-Err}

pub set_queue_at-requires-clause-few_names : goal.set_queue_at-requires-clause-few_names
set_queue_at-requires-clause-few_names c =
    let s : BusState = state_of c.self.inside in
    let name = c.args.name.now in
    let queue : Queue = c.ask_release.new.queue in
    let change : Change = Release c.args.connection name in
    (limits_after s c.args.seat change (requeued s name queue) c.self.invariant.consistent c.self.invariant.within_limits
    (release_made s c.args.self.now c.args.seat c.args.connection name queue _ c.in-Ok.field-0 c.self.view_is c.in_ok-asked.ensures.change c.in-Ok.is)).names

pub set_queue_at-requires-clause-few_places : goal.set_queue_at-requires-clause-few_places
set_queue_at-requires-clause-few_places c =
    let s : BusState = state_of c.self.inside in
    let name = c.args.name.now in
    let queue : Queue = c.ask_release.new.queue in
    let change : Change = Release c.args.connection name in
    (limits_after s c.args.seat change (requeued s name queue) c.self.invariant.consistent c.self.invariant.within_limits
    (release_made s c.args.self.now c.args.seat c.args.connection name queue _ c.in-Ok.field-0 c.self.view_is c.in_ok-asked.ensures.change c.in-Ok.is)).queued

next : After-set_queue_at → Inside
next c = record c.self.inside { names = c.set_queue_at.new.self }

after : (c : After-set_queue_at) → (step (state_of c.self.inside) c.args.seat (Release c.args.connection c.args.name.now)).0 ≡ state_of (next c)
unfolding next
after c =
    let s : BusState = state_of c.self.inside in
    let name = c.args.name.now in
    let queue : Queue = c.ask_release.new.queue in
    release_made s c.args.self.now c.args.seat c.args.connection name queue _ c.in-Ok.field-0 c.self.view_is c.in_ok-asked.ensures.change c.in-Ok.is
    ∙ ap (λ (names : List OwnedName). record s { names = names }) (sym c.set_queue_at.ensures)

pub invariant_of-self : goal.invariant_of-self
unfolding next
invariant_of-self c = kept c.self.inside (next c) c.self.invariant c.args.seat (Release c.args.connection c.args.name.now) (after c) refl

pub returns-clause-made : goal.returns-clause-made
returns-clause-made c =
    let s : BusState = state_of c.self.inside in
    let name = c.args.name.now in
    let queue : Queue = c.ask_release.new.queue in
    elim c.match-asked.branch [
      | in-Ok w ↦
          w.self-is
          ∙ rw (← c.self.view_is) (sym (release_made s c.args.self.now c.args.seat c.args.connection name queue _ w.in-Ok.field-0 c.self.view_is c.in_ok-asked.ensures.change w.in-Ok.is
          ∙ ap (λ (names : List OwnedName). record s { names = names }) (sym w.set_queue_at.ensures)))
      | in-Err w ↦
          w.self-is
          ∙ sym (release_unmade c.args.self.now c.args.seat c.args.connection name queue _ w.in-Err.field-0 c.in_ok-asked.ensures.change w.in-Err.is)
    ]
