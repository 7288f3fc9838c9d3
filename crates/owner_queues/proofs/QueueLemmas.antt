-- Lemmas on the queue of a name.
use Rattle.std.proofs.Common.{◌≡◌, ℕ, ◌+◌, ◌≤◌, Bool, true, false, not, ◌&&◌, ◌||◌, ◌==◌, cond, [], ◌∷◌, ◌++◌, length, refl, sym, ap, ◌∙◌, arith}
use Rattle.std.specs.List.{list_all}
use Rattle.std.proofs.lemmas.Bool.{eqb-true, eqb-false, eq-eqb, ne_eqb, not-true, cond_both, or_parts, or_from, or_left, or_right, and_parts, and_from}
use Rattle.owner_queues.specs.declared.owner.QueuedOwner.{QueuedOwner}
use Rattle.owner_queues.specs.declared.request.RequestFlags.{RequestFlags}
use Rattle.owner_queues.specs.declared.request.Profile.{Profile}
use Rattle.owner_queues.specs.declared.request.Profile.TheVariants.{One, Two}
use Rattle.owner_queues.specs.declared.reply.Reply.{Reply}
use Rattle.owner_queues.specs.declared.reply.Reply.TheVariants.{PrimaryOwner, InQueue, Exists, AlreadyOwner}
use Rattle.owner_queues.specs.Queues.{Queue, IsQueue, is_in, without, entry_of, renewed, demoted, joined, joined_to_replace, requested}

pub differ-swapped : (a b : ℕ) → (a == b) ≡ false → (b == a) ≡ false
differ-swapped a b h = ne_eqb b a (λ e. eqb-false a b h (sym e))

-- A connection that is taken out is in no longer, and no other comes in.
pub is_in-without : (c : ℕ) (queue : Queue) → is_in c (without c queue) ≡ false
is_in-without c [] = refl
is_in-without c (o ∷ os) =
    cond_both (not (o.connection == c)) (o ∷ without c os) (without c os) (λ q. is_in c q ≡ false)
    (λ kept. or_from (o.connection == c) (is_in c (without c os)) (not-true (o.connection == c) kept) (is_in-without c os)) (λ gone. is_in-without c os)

pub absent-without : (c d : ℕ) (queue : Queue) → is_in c queue ≡ false → is_in c (without d queue) ≡ false
absent-without c d [] h = refl
absent-without c d (o ∷ os) h =
    let parts : ((o.connection == c) ≡ false) × (is_in c os ≡ false) = or_parts (o.connection == c) (is_in c os) h in
    cond_both (not (o.connection == d)) (o ∷ without d os) (without d os) (λ q. is_in c q ≡ false)
    (λ kept. or_from (o.connection == c) (is_in c (without d os)) parts.0 (absent-without c d os parts.1)) (λ gone. absent-without c d os parts.1)

pub queue-without : (c : ℕ) (queue : Queue) → IsQueue queue → IsQueue (without c queue)
queue-without c [] h = tt
queue-without c (o ∷ os) h =
    cond_both (not (o.connection == c)) (o ∷ without c os) (without c os) (λ q. IsQueue q)
    (λ kept. (absent-without o.connection c os h.0, queue-without c os h.1)) (λ gone. queue-without c os h.1)

pub without-absent : (c : ℕ) (queue : Queue) → is_in c queue ≡ false → without c queue ≡ queue
without-absent c [] h = refl
without-absent c (o ∷ os) h =
    let parts : ((o.connection == c) ≡ false) × (is_in c os ≡ false) = or_parts (o.connection == c) (is_in c os) h in
    rw parts.0 (ap (λ q. o ∷ q) (without-absent c os parts.1))

pub length-without : (c : ℕ) (queue : Queue) → length (without c queue) ≤ length queue
length-without c [] = omega arith
length-without c (o ∷ os) =
    let rest : length (without c os) ≤ length os = length-without c os in
    cond_both (not (o.connection == c)) (o ∷ without c os) (without c os) (λ q. length q ≤ length (o ∷ os)) (λ kept. omega (arith, rest)) (λ gone. omega (arith, rest))

pub all-without : (test : QueuedOwner → Bool) (c : ℕ) (queue : Queue) → list_all test queue ≡ true → list_all test (without c queue) ≡ true
all-without test c [] h = refl
all-without test c (o ∷ os) h =
    let parts : (test o ≡ true) × (list_all test os ≡ true) = and_parts (test o) (list_all test os) h in
    cond_both (not (o.connection == c)) (o ∷ without c os) (without c os) (λ q. list_all test q ≡ true)
    (λ kept. and_from (test o) (list_all test (without c os)) parts.0 (all-without test c os parts.1)) (λ gone. all-without test c os parts.1)

-- A renewed queue has the same connections.
pub is_in-renewed : (c : ℕ) (e : QueuedOwner) (queue : Queue) → is_in c (renewed e queue) ≡ is_in c queue
is_in-renewed c e [] = refl
is_in-renewed c e (o ∷ os) =
    cond_both (o.connection == e.connection) e o (λ n. ((n.connection == c) || is_in c (renewed e os)) ≡ ((o.connection == c) || is_in c os))
    (λ same. rw (eqb-true o.connection e.connection same) (ap (λ b. (e.connection == c) || b) (is_in-renewed c e os)))
    (λ other. ap (λ b. (o.connection == c) || b) (is_in-renewed c e os))

pub queue-renewed : (e : QueuedOwner) (queue : Queue) → IsQueue queue → IsQueue (renewed e queue)
queue-renewed e [] h = tt
queue-renewed e (o ∷ os) h = (
  cond_both (o.connection == e.connection) e o (λ n. is_in n.connection (renewed e os) ≡ false)
      (λ same. is_in-renewed e.connection e os ∙ (rw (sym (eqb-true o.connection e.connection same)) h.0))
      (λ other. is_in-renewed o.connection e os ∙ h.0),
  queue-renewed e os h.1,
)

pub length-renewed : (e : QueuedOwner) (queue : Queue) → length (renewed e queue) ≡ length queue
length-renewed e [] = refl
length-renewed e (o ∷ os) = let rest : length (renewed e os) ≡ length os = length-renewed e os in omega (arith, rest)

pub all-renewed : (test : QueuedOwner → Bool) (e : QueuedOwner) (queue : Queue) → test e ≡ true → list_all test queue ≡ true → list_all test (renewed e queue) ≡ true
all-renewed test e [] he h = refl
all-renewed test e (o ∷ os) he h =
    let parts : (test o ≡ true) × (list_all test os ≡ true) = and_parts (test o) (list_all test os) h in
    and_from (test (cond (o.connection == e.connection) e o)) (list_all test (renewed e os))
    (cond_both (o.connection == e.connection) e o (λ n. test n ≡ true) (λ same. he) (λ other. parts.0)) (all-renewed test e os he parts.1)

-- An entry at the end.
pub absent-last : (c : ℕ) (queue : Queue) (e : QueuedOwner) → is_in c queue ≡ false → (e.connection == c) ≡ false → is_in c (queue ++ e ∷ []) ≡ false
absent-last c [] e h differs = or_from (e.connection == c) false differs refl
absent-last c (o ∷ os) e h differs =
    let parts : ((o.connection == c) ≡ false) × (is_in c os ≡ false) = or_parts (o.connection == c) (is_in c os) h in
    or_from (o.connection == c) (is_in c (os ++ e ∷ [])) parts.0 (absent-last c os e parts.1 differs)

pub queue-last : (queue : Queue) (e : QueuedOwner) → IsQueue queue → is_in e.connection queue ≡ false → IsQueue (queue ++ e ∷ [])
queue-last [] e h absent = (refl, tt)
queue-last (o ∷ os) e h absent =
    let parts : ((o.connection == e.connection) ≡ false) × (is_in e.connection os ≡ false) = or_parts (o.connection == e.connection) (is_in e.connection os) absent in
    (absent-last o.connection os e h.0 (differ-swapped o.connection e.connection parts.0), queue-last os e h.1 parts.1)

pub is_in-last : (queue : Queue) (e : QueuedOwner) → is_in e.connection (queue ++ e ∷ []) ≡ true
is_in-last [] e = or_left (e.connection == e.connection) false (eq-eqb e.connection e.connection refl)
is_in-last (o ∷ os) e = or_right (o.connection == e.connection) (is_in e.connection (os ++ e ∷ [])) (is_in-last os e)

pub length-last : (queue : Queue) (e : QueuedOwner) → length (queue ++ e ∷ []) ≡ length queue + 1
length-last [] e = omega arith
length-last (o ∷ os) e = let rest : length (os ++ e ∷ []) ≡ length os + 1 = length-last os e in omega (arith, rest)

pub all-last : (test : QueuedOwner → Bool) (queue : Queue) (e : QueuedOwner) → list_all test queue ≡ true → test e ≡ true → list_all test (queue ++ e ∷ []) ≡ true
all-last test [] e h he = and_from (test e) true he refl
all-last test (o ∷ os) e h he =
    let parts : (test o ≡ true) × (list_all test os ≡ true) = and_parts (test o) (list_all test os) h in
    and_from (test o) (list_all test (os ++ e ∷ [])) parts.0 (all-last test os e parts.1 he)

-- The cases of a request of a name that has an owner.
pub requested_cases :
    (P : Queue × Reply → Type 0) (profile : Profile) (c : ℕ) (flags : RequestFlags) (owner : QueuedOwner) (waiting : Queue) →
    ((owner.connection == c) ≡ true → P (entry_of c flags ∷ waiting, AlreadyOwner)) →
    ((owner.connection == c) ≡ false → P (entry_of c flags ∷ demoted owner ++ without c waiting, PrimaryOwner)) →
    ((owner.connection == c) ≡ false → P (owner ∷ without c waiting, Exists)) →
    ((owner.connection == c) ≡ false → P (owner ∷ entry_of c flags ∷ without c waiting, InQueue)) →
    ((owner.connection == c) ≡ false → is_in c waiting ≡ true → P (owner ∷ renewed (entry_of c flags) waiting, InQueue)) →
    ((owner.connection == c) ≡ false → is_in c waiting ≡ false → P (owner ∷ waiting ++ entry_of c flags ∷ [], InQueue)) →
    P (requested profile c flags (owner ∷ waiting))
requested_cases P profile c flags owner waiting renews replaces exists ahead stays last =
    cond_both (owner.connection == c) _ _ P renews
    (λ other.
    cond_both (owner.allow_replacement && flags.replace_existing) _ _ P (λ _. replaces other)
    (λ _.
    cond_both flags.do_not_queue _ _ P (λ _. exists other)
    (λ _. cond_both flags.replace_existing _ _ P (λ _. queued_to_replace profile other) (λ _. queued other))))
  where
    queued : (owner.connection == c) ≡ false → P (owner ∷ joined (entry_of c flags) waiting, InQueue)
    queued other =
        cond_both (is_in c waiting) (renewed (entry_of c flags) waiting) (waiting ++ entry_of c flags ∷ []) (λ q. P (owner ∷ q, InQueue)) (stays other) (last other)

    queued_to_replace : (v : Profile) → (owner.connection == c) ≡ false → P (owner ∷ joined_to_replace v (entry_of c flags) waiting, InQueue)
    queued_to_replace One other = queued other
    queued_to_replace Two other = ahead other
