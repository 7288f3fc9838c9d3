use Rattle.std.proofs.Common.{◌≡◌, ◌&&◌, not, true, List, refl, sym, ap, ◌∙◌}
use Rattle.owner_queues.specs.Queues.{Queue, released}
use Rattle.seq_bus_core.specs.BusState.{BusState, OwnedName, is_client}
use Rattle.seq_bus_core.specs.Consistency.{IsWithinLimits}
use Rattle.seq_bus_core.specs.Steps.{is_reserved, step}
use Rattle.seq_bus_core.specs.declared.change.Change.TheVariants.{Release}
use Rattle.registry.specs.declared.registry.Registry.TheInside.{Inside}
use Rattle.registry.specs.Requests.{requeued}
use Rattle.registry.specs.Tables.{state_of}
use Rattle.registry.proofs.Kept.{kept}
use Rattle.registry.proofs.RequestLemmas.{limits_after, release_done, release_refused}
use Rattle.registry.proofs.registry.Registry.release.Goals as goal
use Rattle.registry.proofs.registry.Registry.release.Goals.{After-deref, After-set_queue_at}

-- the state with the queue that the name is about to have
done : (c : After-deref) → (step (state_of c.self.inside) c.args.seat (Release c.args.connection c.args.name.now)).0 ≡ requeued (state_of c.self.inside) c.args.name.now c.deref.result.now
done c =
    let s : BusState = state_of c.self.inside in
    let name = c.args.name.now in
    let may : (is_client s.connections c.args.connection && not (is_reserved name)) ≡ true = ap (λ (t : BusState). is_client t.connections c.args.connection && not (is_reserved name)) c.self.view_is ∙ sym c.if-not-may_wait.ensures in
    release_done s c.args.seat c.args.connection name may
    ∙ ap (λ (queue : Queue). requeued s name (released c.args.connection queue).0) (sym (c.deref_mut-2.ensures.value ∙ c.copy_queue-found.ensures.queue))
    ∙ ap (requeued s name) (sym (c.deref.ensures ∙ c.release.ensures.queue))

next : After-set_queue_at → Inside
next c = record c.self.inside { names = c.set_queue_at.new.self; room = record c.self.inside.room { value = c.release.new.self } }

after : (c : After-set_queue_at) → (step (state_of c.self.inside) c.args.seat (Release c.args.connection c.args.name.now)).0 ≡ state_of (next c)
unfolding next
after c =
    done (goal.at.invariant_of-self c).After-deref
    ∙ ap (λ (names : List OwnedName). record (state_of c.self.inside) { names = names }) (sym c.set_queue_at.ensures)

pub invariant_of-self : goal.invariant_of-self
unfolding next
invariant_of-self c = kept c.self.inside (next c) c.self.invariant c.args.seat (Release c.args.connection c.args.name.now) (after c) refl

pub returns : goal.returns
unfolding next
returns c = rw (← c.self.view_is) (sym (after c))

pub returns-then-not-may_wait : goal.returns-then-not-may_wait
returns-then-not-may_wait c = sym (release_refused c.args.self.now c.args.seat c.args.connection c.args.name.now (sym c.if-not-may_wait.ensures))

limits : (c : After-deref) → IsWithinLimits (requeued (state_of c.self.inside) c.args.name.now c.deref.result.now)
limits c = limits_after (state_of c.self.inside) c.args.seat (Release c.args.connection c.args.name.now) _ c.self.invariant.consistent c.self.invariant.within_limits (done c)

pub set_queue_at-requires-clause-few_names : goal.set_queue_at-requires-clause-few_names
set_queue_at-requires-clause-few_names c = (limits (goal.at.set_queue_at-requires-clause-few_names c).After-deref).names

pub set_queue_at-requires-clause-few_places : goal.set_queue_at-requires-clause-few_places
set_queue_at-requires-clause-few_places c = (limits (goal.at.set_queue_at-requires-clause-few_places c).After-deref).queued
