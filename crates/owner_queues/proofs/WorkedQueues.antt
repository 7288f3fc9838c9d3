-- Runs of requests and releases, computed from the definitions.
use Rattle.std.proofs.Common.{◌≡◌, ℕ, List, [], ◌∷◌, refl, map}
use Rattle.owner_queues.specs.declared.request.Profile.{Profile}
use Rattle.owner_queues.specs.declared.request.Profile.TheVariants.{One, Two}
use Rattle.owner_queues.specs.declared.reply.Reply.{Reply}
use Rattle.owner_queues.specs.Requests.{flags_of}
use Rattle.owner_queues.specs.Replies.{code_of}
use Rattle.owner_queues.specs.Queues.{Queue, requested, released}

-- A connection requests the name with flags, or releases it.
pub data Act : Type 0 where
  requests : ℕ → ℕ → Act
  releases : ℕ → Act

abbrev pub after : Profile → Act → Queue → Queue × Reply
after profile (requests c flags) queue = requested profile c (flags_of flags) queue
after profile (releases c) queue = released c queue

-- the code of each reply, and the connections that are then in the queue
abbrev pub run : Profile → List Act → Queue → List (ℕ × List ℕ)
run profile [] queue = []
run profile (act ∷ acts) queue =
    let step = after profile act queue in
    (code_of step.1, map (λ o. o.connection) step.0) ∷ run profile acts step.0

-- The owner allows replacement and stays to wait.
pub replaced_owner_waits : (profile : Profile) →
    run profile (requests 1 1 ∷ requests 2 0 ∷ requests 3 2 ∷ []) []
    ≡ (1, 1 ∷ []) ∷ (2, 1 ∷ 2 ∷ []) ∷ (1, 3 ∷ 1 ∷ 2 ∷ []) ∷ []
replaced_owner_waits One = refl
replaced_owner_waits Two = refl

-- The owner allows replacement and does not wait; the next in the queue then does not wait either; releases.
pub replaced_owner_leaves : (profile : Profile) →
    run profile (requests 1 5 ∷ requests 2 0 ∷ requests 3 2 ∷ requests 2 4 ∷ releases 2 ∷ releases 3 ∷ releases 3 ∷ []) []
    ≡ (1, 1 ∷ []) ∷ (2, 1 ∷ 2 ∷ []) ∷ (1, 3 ∷ 2 ∷ []) ∷ (3, 3 ∷ []) ∷ (3, 3 ∷ []) ∷ (1, []) ∷ (2, []) ∷ []
replaced_owner_leaves One = refl
replaced_owner_leaves Two = refl

-- Who would replace an owner that does not allow it waits first under profile two.
pub refused_replacement_under_one :
    run One (requests 1 0 ∷ requests 2 0 ∷ requests 3 2 ∷ requests 2 2 ∷ []) []
    ≡ (1, 1 ∷ []) ∷ (2, 1 ∷ 2 ∷ []) ∷ (2, 1 ∷ 2 ∷ 3 ∷ []) ∷ (2, 1 ∷ 2 ∷ 3 ∷ []) ∷ []
refused_replacement_under_one = refl

pub refused_replacement_under_two :
    run Two (requests 1 0 ∷ requests 2 0 ∷ requests 3 2 ∷ requests 2 2 ∷ []) []
    ≡ (1, 1 ∷ []) ∷ (2, 1 ∷ 2 ∷ []) ∷ (2, 1 ∷ 3 ∷ 2 ∷ []) ∷ (2, 1 ∷ 2 ∷ 3 ∷ []) ∷ []
refused_replacement_under_two = refl
