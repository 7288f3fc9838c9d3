-- What holds of queues, whatever is requested, released and left.
use Rattle.std.specs.Prelude.{◌≡◌, ◌≢◌, ℕ, ◌+◌, ◌≤◌, Bool, true, false, ◌↔◌, Some, IsSome, [], ◌∷◌, length}
use Rattle.std.specs.List.{list_all}
use Rattle.owner_queues.specs.declared.owner.QueuedOwner.{QueuedOwner}
use Rattle.owner_queues.specs.declared.request.RequestFlags.{RequestFlags}
use Rattle.owner_queues.specs.declared.request.Profile.{Profile}
use Rattle.owner_queues.specs.declared.request.Profile.TheVariants.{One, Two}
use Rattle.owner_queues.specs.declared.reply.Reply.{Reply}
use Rattle.owner_queues.specs.declared.reply.Reply.TheVariants.{PrimaryOwner, InQueue, Exists, AlreadyOwner, Released, NonExistent, NotOwner}
use Rattle.owner_queues.specs.Queues.{Queue, IsQueue, queue_head, is_in, without, entry_of, requested, released}

-- a fact about every request: of its connection, its flags, the queue before, the queue after, and the reply
abbrev pub OfEachRequest : (ℕ → RequestFlags → Queue → Queue → Reply → Type 0) → Type 0
OfEachRequest Fact =
    (profile : Profile) (connection : ℕ) (flags : RequestFlags) (queue : Queue) →
    let after = requested profile connection flags queue in Fact connection flags queue after.0 after.1

-- A request leaves each connection in a queue once.
abbrev pub RequestsKeepQueues : Type 0
RequestsKeepQueues = OfEachRequest (λ c flags before after reply. IsQueue before → IsQueue after)

-- What the reply to a request says of its connection.
abbrev pub HoldsBy : Reply → ℕ → Queue → Queue → Type 0
HoldsBy PrimaryOwner c before after = (queue_head before ≢ Some c) × (queue_head after ≡ Some c)
HoldsBy AlreadyOwner c before after = (queue_head before ≡ Some c) × (queue_head after ≡ Some c)
HoldsBy InQueue c before after = (queue_head before ≢ Some c) × (queue_head after ≡ queue_head before) × (is_in c after ≡ true)
HoldsBy Exists c before after = (queue_head before ≢ Some c) × (queue_head after ≡ queue_head before) × (is_in c after ≡ false)
HoldsBy Released c before after = ⊥
HoldsBy NonExistent c before after = ⊥
HoldsBy NotOwner c before after = ⊥

-- A name that was requested has an owner, and the reply tells where its connection stands.
abbrev pub RequestsAreToldTheOwner : Type 0
RequestsAreToldTheOwner = OfEachRequest (λ c flags before after reply. IsSome (queue_head after) × HoldsBy reply c before after)

-- A request adds no entry but its own, and at most one.
abbrev pub RequestsAddOneEntry : Type 0
RequestsAddOneEntry =
    ((test : QueuedOwner → Bool) → OfEachRequest (λ c flags before after reply.
    list_all test (entry_of c flags ∷ before) ≡ true → list_all test after ≡ true))
    × OfEachRequest (λ c flags before after reply. length after ≤ length before + 1)

-- A release takes its connection out of the queue and no other; the reply tells whether it was in.
abbrev pub ReleasesTakeOut : Type 0
ReleasesTakeOut =
    (c : ℕ) (queue : Queue) → IsQueue queue →
    let after = released c queue in
    IsQueue after.0 × (after.0 ≡ without c queue) × (is_in c after.0 ≡ false) × ((after.1 ≡ Released) ↔ (is_in c queue ≡ true)) × ((after.1 ≡ NonExistent) ↔ (queue ≡ []))

-- Where REPLACE_EXISTING isn't asked for, both profiles answer alike.
abbrev pub ProfilesAgree : Type 0
ProfilesAgree = (c : ℕ) (flags : RequestFlags) (queue : Queue) → flags.replace_existing ≡ false → requested One c flags queue ≡ requested Two c flags queue
