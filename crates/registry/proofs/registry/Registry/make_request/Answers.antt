use Rattle.std.proofs.Common.{◌≡◌, not, List, filter, refl, sym, ap, ◌∙◌}
use Rattle.names.specs.Texts.{text_eq}
use Rattle.owner_queues.specs.Queues.{Queue}
use Rattle.seq_bus_core.specs.BusState.{BusState, OwnedName, RunningStart}
use Rattle.seq_bus_core.specs.Steps.{step, with_owned}
use Rattle.seq_bus_core.specs.declared.change.Change.{Change}
use Rattle.seq_bus_core.specs.declared.change.Change.TheVariants.{Request}
use Rattle.registry.specs.declared.registry.Registry.TheInside.{Inside}
use Rattle.registry.specs.Tables.{state_of}
use Rattle.registry.proofs.Kept.{kept}
use Rattle.registry.proofs.RequestLemmas.{limits_after, request_made, request_unmade}
use Rattle.registry.proofs.registry.Registry.make_request.Goals as goal
use Rattle.registry.proofs.registry.Registry.make_request.Goals.{After-end, in-Ok, in-Err}

pub set_queue_at-requires-clause-few_places : goal.set_queue_at-requires-clause-few_places
set_queue_at-requires-clause-few_places c =
    let s : BusState = state_of c.self.inside in
    let name = c.args.name.now in
    let queue : Queue = c.ask_request.new.queue in
    let change : Change = Request c.args.connection name c.args.flags in
    (limits_after s c.args.seat change (with_owned s name queue) c.self.invariant.consistent c.self.invariant.within_limits
    (request_made s c.args.self.now c.args.seat c.args.connection name c.args.flags queue _ c.in-Ok.field-0 c.self.view_is c.in_ok-asked.ensures.change c.in-Ok.is)).queued

next : After-end → Inside
next c = record c.self.inside { names = c.set_queue_at.new.self; starts = c.end.new.self }

after : (c : After-end) → (step (state_of c.self.inside) c.args.seat (Request c.args.connection c.args.name.now c.args.flags)).0 ≡ state_of (next c)
unfolding next
after c =
    let s : BusState = state_of c.self.inside in
    let name = c.args.name.now in
    let queue : Queue = c.ask_request.new.queue in
    request_made s c.args.self.now c.args.seat c.args.connection name c.args.flags queue _ c.in-Ok.field-0 c.self.view_is c.in_ok-asked.ensures.change c.in-Ok.is
    ∙ ap (λ (names : List OwnedName). record s { names = names; starts = filter (λ r. not (text_eq r.name name)) s.starts }) (sym c.set_queue_at.ensures)
    ∙ ap (λ (starts : List RunningStart). record s { names = c.set_queue_at.new.self; starts = starts }) (sym c.end.ensures)

pub invariant_of-self : goal.invariant_of-self
unfolding next
invariant_of-self c = kept c.self.inside (next c) c.self.invariant c.args.seat (Request c.args.connection c.args.name.now c.args.flags) (after c) refl

pub returns-clause-made : goal.returns-clause-made
returns-clause-made c =
    let s : BusState = state_of c.self.inside in
    let name = c.args.name.now in
    let queue : Queue = c.ask_request.new.queue in
    elim c.match-asked.branch [
      | in-Ok w ↦
          w.self-is
          ∙ rw (← c.self.view_is) (sym (request_made s c.args.self.now c.args.seat c.args.connection name c.args.flags queue _ w.in-Ok.field-0 c.self.view_is c.in_ok-asked.ensures.change w.in-Ok.is
          ∙ ap (λ (names : List OwnedName). record s { names = names; starts = filter (λ r. not (text_eq r.name name)) s.starts }) (sym w.set_queue_at.ensures)
          ∙ ap (λ (starts : List RunningStart). record s { names = w.set_queue_at.new.self; starts = starts }) (sym w.end.ensures)))
      | in-Err w ↦
          w.self-is
          ∙ sym (request_unmade c.args.self.now c.args.seat c.args.connection name c.args.flags queue _ w.in-Err.field-0 c.in_ok-asked.ensures.change w.in-Err.is)
    ]
