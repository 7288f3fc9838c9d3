use Rattle.std.proofs.Common.{◌≡◌, ◌&&◌, not, true, List, filter, refl, sym, ap, ◌∙◌, subst}
use Rattle.names.specs.Texts.{text_eq}
use Rattle.owner_queues.specs.Queues.{HasRoom, Queue, requested}
use Rattle.seq_bus_core.specs.BusState.{BusState, OwnedName, RunningStart, is_client, queue_of, with_queue}
use Rattle.seq_bus_core.specs.Steps.{is_reserved, step, with_owned}
use Rattle.seq_bus_core.specs.declared.change.Change.TheVariants.{Request}
use Rattle.registry_core.specs.NameTables.{are_within}
use Rattle.registry.specs.declared.registry.Registry.TheInside.{Inside}
use Rattle.registry.specs.Tables.{state_of}
use Rattle.registry.proofs.Kept.{kept}
use Rattle.registry.proofs.RequestLemmas.{is_of_client, request_fits, request_refused, room_for}
use Rattle.registry.proofs.registry.Registry.request.Goals as goal
use Rattle.registry.proofs.registry.Registry.request.Goals.{After-leave}

pub request-requires : goal.request-requires
request-requires c =
    let s : BusState = state_of c.self.inside in
    let name = c.args.name.now in
    let allowed : (is_client s.connections c.args.connection && not (is_reserved name)) ≡ true = ap (λ (t : BusState). is_client t.connections c.args.connection && not (is_reserved name)) c.self.view_is ∙ sym c.if-not-may_wait.ensures in
    subst (HasRoom c.args.connection) (sym (c.deref_mut-2.ensures.value ∙ c.copy_queue-found.ensures.queue))
    (room_for s c.args.connection name c.self.invariant.consistent c.self.invariant.within_limits (is_of_client (is_client s.connections c.args.connection) (is_reserved name) allowed))

next : After-leave → Inside
next c = record c.self.inside { names = c.set_queue_at.new.self; starts = c.end.new.self; room = record c.self.inside.room { value = c.leave.new.self } }

after : (c : After-leave) → (step (state_of c.self.inside) c.args.seat (Request c.args.connection c.args.name.now c.args.flags)).0 ≡ state_of (next c)
unfolding next
after c =
    let s : BusState = state_of c.self.inside in
    let name = c.args.name.now in
    let may : (is_client s.connections c.args.connection && not (is_reserved name)) ≡ true = ap (λ (t : BusState). is_client t.connections c.args.connection && not (is_reserved name)) c.self.view_is ∙ sym c.if-not-may_wait.ensures in
    let queue_is : c.request.new.self ≡ (requested s.profile c.args.connection c.args.flags (queue_of s.names name)).0 =
    c.request.ensures.queue ∙ ap (λ (queue : Queue). (requested s.profile c.args.connection c.args.flags queue).0) (c.deref_mut-2.ensures.value ∙ c.copy_queue-found.ensures.queue) in
    let within : are_within (with_queue name (requested s.profile c.args.connection c.args.flags (queue_of s.names name)).0 s.names) c.args.connection ≡ true =
    ap (λ (queue : Queue). are_within (with_queue name queue s.names) c.args.connection) (sym (c.deref.ensures ∙ queue_is)) ∙ sym (c.if-would_fit_at.ensures name c.copy_queue-found.ensures.found) in
    request_fits s c.args.seat c.args.connection name c.args.flags may within
    ∙ ap (with_owned s name) (sym (c.deref-then-would_fit_at.ensures ∙ queue_is))
    ∙ ap (λ (names : List OwnedName). record s { names = names; starts = filter (λ r. not (text_eq r.name name)) s.starts }) (sym c.set_queue_at.ensures)
    ∙ ap (λ (starts : List RunningStart). record s { names = c.set_queue_at.new.self; starts = starts }) (sym c.end.ensures)

pub invariant_of-self : goal.invariant_of-self
unfolding next
invariant_of-self c = kept c.self.inside (next (goal.at.invariant_of-self c).After-leave) c.self.invariant c.args.seat (Request c.args.connection c.args.name.now c.args.flags) (after (goal.at.invariant_of-self c).After-leave) refl

pub returns-then-would_fit_at : goal.returns-then-would_fit_at
unfolding next
returns-then-would_fit_at c = rw (← c.self.view_is) (sym (after (goal.at.returns-then-would_fit_at c).After-leave))

pub returns-then-not-may_wait : goal.returns-then-not-may_wait
returns-then-not-may_wait c = sym (request_refused c.args.self.now c.args.seat c.args.connection c.args.name.now c.args.flags (sym c.if-not-may_wait.ensures))
