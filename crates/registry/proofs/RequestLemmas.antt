-- What RequestName and ReleaseName do.
use Rattle.std.proofs.Common.{◌≡◌, ℕ, Bool, true, false, not, ◌&&◌, Result, Ok, Err, refl, sym, ap, ◌∙◌, subst, if◌then◌else◌}
use Rattle.std.specs.List.{list_all}
use Rattle.std.proofs.lemmas.Bool.{true≢false}
use Rattle.names.specs.Texts.{Text}
use Rattle.owner_queues.specs.Queues.{Queue, HasRoom, IsQueue, queue_head, requested, released}
use Rattle.owner_queues.specs.declared.reply.Reply.{Reply as QueueReply}
use Rattle.owner_queues.specs.declared.request.RequestFlags.{RequestFlags}
use Rattle.seq_bus_core.specs.BusState.{BusState, is_client, queue_of, with_queue}
use Rattle.seq_bus_core.specs.Consistency.{IsConsistent, IsOwned, IsWithinLimits}
use Rattle.seq_bus_core.specs.Steps.{Stepped, announced, is_reserved, owned_outcome, owner_signals, release, request, request_with_queue, step, unchanged, with_owned}
use Rattle.seq_bus_core.specs.declared.change.Change.{Change}
use Rattle.seq_bus_core.specs.declared.change.Change.TheVariants.{Request, Release}
use Rattle.seq_bus_core.specs.declared.outcome.Reply.{Reply}
use Rattle.seq_bus_core.specs.declared.outcome.Reply.TheVariants.{Gone, LimitsExceeded, InvalidName, OfQueue}
use Rattle.seq_bus_core.proofs.LimitLaws.{steps_keep_limits}
use Rattle.seq_bus_core.proofs.Lists.{each_weaker}
use Rattle.seq_bus_core.proofs.OwnedLemmas.{queue_of_each}
use Rattle.registry_core.specs.NameTables.{are_within}
use Rattle.registry.specs.Requests.{changed, requeued, if_within, when_requested, when_released, request_state, request_outcome, requeue_state, requeue_outcome}
use Rattle.registry.proofs.MatchLemmas.{of_client}
use Rattle.registry.proofs.QueueLemmas.{has_room}

-- ## The steps

-- what a change of a queue does
abbrev pub requeue_step : BusState → Text → Result (Queue × QueueReply) Reply → Stepped
requeue_step s name (Ok change) = announced (requeued s name change.0) (OfQueue change.1) (owner_signals name (queue_head (queue_of s.names name)) (queue_head change.0))
requeue_step s name (Err reply) = unchanged s reply

-- what a request does
abbrev pub owned_step : BusState → Text → Result (Queue × QueueReply) Reply → Stepped
owned_step s name (Ok change) = (with_owned s name change.0, owned_outcome s (with_owned s name change.0) name change)
owned_step s name (Err reply) = unchanged s reply

pub request_step : (s : BusState) (seat number : ℕ) (name : Text) (flags : RequestFlags) → step s seat (Request number name flags) ≡ owned_step s name (when_requested s number name flags)
request_step s seat number name flags =
    of_client s number (request s number name flags) ∙ by_client (is_client s.connections number)
  where
    by_limits : (b : Bool) → (if b then (with_owned s name (requested s.profile number flags (queue_of s.names name)).0, owned_outcome s (with_owned s name (requested s.profile number flags (queue_of s.names name)).0) name (requested s.profile number flags (queue_of s.names name))) else unchanged s LimitsExceeded)
        ≡ owned_step s name (if b then Ok (requested s.profile number flags (queue_of s.names name)) else Err LimitsExceeded)
    by_limits true = refl
    by_limits false = refl

    by_name : (b : Bool) → (if b then unchanged s InvalidName else request_with_queue s number name (requested s.profile number flags (queue_of s.names name))) ≡ owned_step s name (if b then Err InvalidName else if_within s number name (requested s.profile number flags (queue_of s.names name)))
    by_name true = refl
    by_name false = by_limits _

    by_client : (b : Bool) → (if not b then unchanged s Gone else request s number name flags)
        ≡ owned_step s name (if not b then Err Gone else if is_reserved name then Err InvalidName else if_within s number name (requested s.profile number flags (queue_of s.names name)))
    by_client true = by_name (is_reserved name)
    by_client false = refl

pub release_step : (s : BusState) (seat number : ℕ) (name : Text) → step s seat (Release number name) ≡ requeue_step s name (when_released s number name)
release_step s seat number name = of_client s number (release s number name) ∙ by_client (is_client s.connections number)
  where
    by_name : (b : Bool) → (if b then unchanged s InvalidName else (requeue_step s name (Ok (released number (queue_of s.names name)))))
        ≡ requeue_step s name (if b then Err InvalidName else Ok (released number (queue_of s.names name)))
    by_name true = refl
    by_name false = refl

    by_client : (b : Bool) → (if not b then unchanged s Gone else release s number name)
        ≡ requeue_step s name (if not b then Err Gone else if is_reserved name then Err InvalidName else Ok (released number (queue_of s.names name)))
    by_client true = by_name (is_reserved name)
    by_client false = refl

pub state_after : (s : BusState) (name : Text) (change : Result (Queue × QueueReply) Reply) → (requeue_step s name change).0 ≡ requeue_state s name change
state_after s name (Ok change) = refl
state_after s name (Err reply) = refl

told_after : (s : BusState) (name : Text) (change : Result (Queue × QueueReply) Reply) → (requeue_step s name change).1 ≡ requeue_outcome s name change
told_after s name (Ok change) = refl
told_after s name (Err reply) = refl

pub owned_after : (s : BusState) (name : Text) (change : Result (Queue × QueueReply) Reply) → (owned_step s name change).0 ≡ request_state s name change
owned_after s name (Ok change) = refl
owned_after s name (Err reply) = refl

-- signals see nothing of starts
owned_told : (s : BusState) (name : Text) (change : Result (Queue × QueueReply) Reply) → (owned_step s name change).1 ≡ request_outcome s name change
owned_told s name (Ok change) = refl
owned_told s name (Err reply) = refl

pub request_told : (s : BusState) (seat number : ℕ) (name : Text) (flags : RequestFlags) →
    (step s seat (Request number name flags)).1 ≡ request_outcome s name (when_requested s number name flags)
request_told s seat number name flags = ap (λ r. r.1) (request_step s seat number name flags) ∙ owned_told s name (when_requested s number name flags)

pub release_told : (s : BusState) (seat number : ℕ) (name : Text) → (step s seat (Release number name)).1 ≡ requeue_outcome s name (when_released s number name)
release_told s seat number name = ap (λ r. r.1) (release_step s seat number name) ∙ told_after s name (when_released s number name)

-- ## By who may stand in a queue

-- what a change of a queue is told, where its connection and its name are tested before
tested : Bool → Bool → Result (Queue × QueueReply) Reply → Result (Queue × QueueReply) Reply
tested client reserved change = if not client then Err Gone else if reserved then Err InvalidName else change

admitted : (client reserved : Bool) (change : Result (Queue × QueueReply) Reply) → (client && not reserved) ≡ true → tested client reserved change ≡ change
unfolding tested
admitted true false change may = refl
admitted true true change may = absurd (true≢false (sym may))
admitted false reserved change may = absurd (true≢false (sym may))

pub request_state_is : (s : BusState) (seat number : ℕ) (name : Text) (flags : RequestFlags) →
    (step s seat (Request number name flags)).0 ≡ request_state s name (when_requested s number name flags)
request_state_is s seat number name flags = ap (λ r. r.0) (request_step s seat number name flags) ∙ owned_after s name (when_requested s number name flags)

pub release_state_is : (s : BusState) (seat number : ℕ) (name : Text) → (step s seat (Release number name)).0 ≡ requeue_state s name (when_released s number name)
release_state_is s seat number name = ap (λ r. r.0) (release_step s seat number name) ∙ state_after s name (when_released s number name)

-- ## The steps, by what a change of a queue is told

pub request_made : (s t : BusState) (seat number : ℕ) (name : Text) (flags : RequestFlags) (queue : Queue) (change : Result QueueReply Reply) (reply : QueueReply) →
    s ≡ t → changed queue change ≡ when_requested t number name flags → change ≡ Ok reply → (step s seat (Request number name flags)).0 ≡ with_owned s name queue
request_made s t seat number name flags queue change reply same told done =
    request_state_is s seat number name flags
    ∙ ap (request_state s name) (sym (ap (changed queue) (sym done) ∙ told ∙ ap (λ u. when_requested u number name flags) (sym same)))

pub request_unmade : (s : BusState) (seat number : ℕ) (name : Text) (flags : RequestFlags) (queue : Queue) (change : Result QueueReply Reply) (reply : Reply) →
    changed queue change ≡ when_requested s number name flags → change ≡ Err reply → (step s seat (Request number name flags)).0 ≡ s
request_unmade s seat number name flags queue change reply told refused =
    request_state_is s seat number name flags ∙ ap (request_state s name) (sym (ap (changed queue) (sym refused) ∙ told))

pub release_made : (s t : BusState) (seat number : ℕ) (name : Text) (queue : Queue) (change : Result QueueReply Reply) (reply : QueueReply) →
    s ≡ t → changed queue change ≡ when_released t number name → change ≡ Ok reply → (step s seat (Release number name)).0 ≡ requeued s name queue
release_made s t seat number name queue change reply same told done =
    release_state_is s seat number name
    ∙ ap (requeue_state s name) (sym (ap (changed queue) (sym done) ∙ told ∙ ap (λ u. when_released u number name) (sym same)))

pub release_unmade : (s : BusState) (seat number : ℕ) (name : Text) (queue : Queue) (change : Result QueueReply Reply) (reply : Reply) →
    changed queue change ≡ when_released s number name → change ≡ Err reply → (step s seat (Release number name)).0 ≡ s
release_unmade s seat number name queue change reply told refused =
    release_state_is s seat number name ∙ ap (requeue_state s name) (sym (ap (changed queue) (sym refused) ∙ told))

pub request_refused : (s : BusState) (seat number : ℕ) (name : Text) (flags : RequestFlags) → (is_client s.connections number && not (is_reserved name)) ≡ false → (step s seat (Request number name flags)).0 ≡ s
unfolding tested
request_refused s seat number name flags may = request_state_is s seat number name flags ∙ by_tests (is_client s.connections number) (is_reserved name) may
  where
    by_tests : (client reserved : Bool) → (client && not reserved) ≡ false → request_state s name (tested client reserved (if_within s number name (requested s.profile number flags (queue_of s.names name)))) ≡ s
    by_tests true false may = absurd (true≢false may)
    by_tests true true may = refl
    by_tests false reserved may = refl

pub release_refused : (s : BusState) (seat number : ℕ) (name : Text) → (is_client s.connections number && not (is_reserved name)) ≡ false → (step s seat (Release number name)).0 ≡ s
unfolding tested
release_refused s seat number name may = release_state_is s seat number name ∙ by_tests (is_client s.connections number) (is_reserved name) may
  where
    by_tests : (client reserved : Bool) → (client && not reserved) ≡ false → requeue_state s name (tested client reserved (Ok (released number (queue_of s.names name)))) ≡ s
    by_tests true false may = absurd (true≢false may)
    by_tests true true may = refl
    by_tests false reserved may = refl

-- the request of a connection that may wait for the name
pub request_by_limits : (s : BusState) (seat number : ℕ) (name : Text) (flags : RequestFlags) → (is_client s.connections number && not (is_reserved name)) ≡ true →
    (step s seat (Request number name flags)).0 ≡ request_state s name (if_within s number name (requested s.profile number flags (queue_of s.names name)))
unfolding tested
request_by_limits s seat number name flags may =
    request_state_is s seat number name flags
    ∙ ap (request_state s name) (admitted (is_client s.connections number) (is_reserved name) (if_within s number name (requested s.profile number flags (queue_of s.names name))) may)

pub release_done : (s : BusState) (seat number : ℕ) (name : Text) → (is_client s.connections number && not (is_reserved name)) ≡ true →
    (step s seat (Release number name)).0 ≡ requeued s name (released number (queue_of s.names name)).0
unfolding tested
release_done s seat number name may =
    release_state_is s seat number name
    ∙ ap (requeue_state s name) (admitted (is_client s.connections number) (is_reserved name) (Ok (released number (queue_of s.names name))) may)

pub request_fits : (s : BusState) (seat number : ℕ) (name : Text) (flags : RequestFlags) → (is_client s.connections number && not (is_reserved name)) ≡ true →
    are_within (with_queue name (requested s.profile number flags (queue_of s.names name)).0 s.names) number ≡ true → (step s seat (Request number name flags)).0 ≡ with_owned s name (requested s.profile number flags (queue_of s.names name)).0
request_fits s seat number name flags may within =
    request_by_limits s seat number name flags may
    ∙ ap (λ b. request_state s name (if b then Ok (requested s.profile number flags (queue_of s.names name)) else Err LimitsExceeded)) within

-- ## What a queue and the tables have room for

pub room_for : (s : BusState) (number : ℕ) (name : Text) → IsConsistent s → IsWithinLimits s → is_client s.connections number ≡ true → HasRoom number (queue_of s.names name)
room_for s number name h limits client =
    let once : IsQueue (queue_of s.names name) = queue_of_each IsQueue tt s.names name (each_weaker (IsOwned s.connections) (λ n. IsQueue n.queue) (λ n o. o.once) s.names h.names_owned) in
    let clients = queue_of_each (λ q. list_all (λ p. is_client s.connections p.connection) q ≡ true) refl s.names name (each_weaker (IsOwned s.connections) (λ n. list_all (λ p. is_client s.connections p.connection) n.queue ≡ true) (λ n o. o.clients) s.names h.names_owned) in
    has_room s.connections number (queue_of s.names name) once clients client limits.connections

pub is_of_client : (client reserved : Bool) → (client && not reserved) ≡ true → client ≡ true
is_of_client true reserved may = refl
is_of_client false reserved may = may

-- the limits hold of a queue that is set
pub limits_after : (s : BusState) (seat : ℕ) (change : Change) (t : BusState) → IsConsistent s → IsWithinLimits s → (step s seat change).0 ≡ t → IsWithinLimits t
limits_after s seat change t h limits is = subst IsWithinLimits is (steps_keep_limits s seat change h limits)
