-- The places of a queue that is kept in an array.
use Rattle.std.proofs.Common.{◌≡◌, ℕ, suc, ◌+◌, ◌<◌, ◌≤◌, Bool, true, false, ◌==◌, nat_lt, cond, Option, Some, None, [], ◌∷◌, ◌++◌, length, refl, sym, ap, arith, slice_set}
use Rattle.std.specs.List.{position, position_or_len}
use Rattle.std.proofs.lemmas.Bool.{eqb-true, or_parts, true≢false}
use Rattle.std.proofs.lemmas.Bool.Decides.{nat_tests}
use Rattle.owner_queues.specs.declared.owner.QueuedOwner.{QueuedOwner}
use Rattle.owner_queues.specs.declared.request.RequestFlags.{RequestFlags}
use Rattle.owner_queues.specs.declared.request.Profile.{Profile}
use Rattle.owner_queues.specs.Queues.{Queue, IsQueue, HasRoom, max_places, is_in, without, renewed, joined, requested}
use Rattle.owner_queues.proofs.QueueLemmas.{length-without, without-absent}
use Rattle.owner_queues.proofs.QueueLaws.{requests_keep}

pub shorter : (c : ℕ) (queue : Queue) → is_in c queue ≡ true → length (without c queue) < length queue
shorter c [] is = absurd (true≢false (sym is))
shorter c (o ∷ os) is = by_test (o.connection == c) refl (shorter c os)
  where
    fewer : length (without c os) ≤ length os
    fewer = length-without c os

    by_test : (b : Bool) → (o.connection == c) ≡ b → (is_in c os ≡ true → length (without c os) < length os) → length (without c (o ∷ os)) < length (o ∷ os)
    by_test true e others = rw e (omega (arith, fewer))
    by_test false e others = let behind : is_in c os ≡ true = rw e at is in let less = others behind in rw e (omega (arith, less))

-- a place is free once the connection has given up its own
pub room-without : (c : ℕ) (queue : Queue) → length queue ≤ max_places → HasRoom c queue → length (without c queue) < max_places
room-without c queue bound room = by_test (is_in c queue) refl
  where
    by_test : (b : Bool) → is_in c queue ≡ b → length (without c queue) < max_places
    by_test true e = omega (arith, shorter c queue e)
    by_test false e = omega (arith, ap length (without-absent c queue e), room e)

renewed-absent : (e : QueuedOwner) (queue : Queue) → is_in e.connection queue ≡ false → renewed e queue ≡ queue
renewed-absent e [] absent = refl
renewed-absent e (o ∷ os) absent =
    let parts : ((o.connection == e.connection) ≡ false) × (is_in e.connection os ≡ false) = or_parts (o.connection == e.connection) (is_in e.connection os) absent in
    rw parts.0 (ap (λ q. o ∷ q) (renewed-absent e os parts.1))

-- the place of the connection in a queue
abbrev pub place : ℕ → Queue → ℕ
place c queue = position_or_len (λ o. o.connection == c) queue

pub set_at_place : (e : QueuedOwner) (queue : Queue) → IsQueue queue → place e.connection queue < length queue →
    (slice_set queue (place e.connection queue) e ≡ renewed e queue) × (is_in e.connection queue ≡ true)
set_at_place e [] once h = absurd (omega (arith, h))
set_at_place e (o ∷ os) once h = by_test (o.connection == e.connection) refl (set_at_place e os once.1)
  where
    by_test : (b : Bool) → (o.connection == e.connection) ≡ b →
        (place e.connection os < length os → (slice_set os (place e.connection os) e ≡ renewed e os) × (is_in e.connection os ≡ true)) →
        (slice_set (o ∷ os) (place e.connection (o ∷ os)) e ≡ renewed e (o ∷ os)) × (is_in e.connection (o ∷ os) ≡ true)
    by_test true is behind =
        let absent : is_in e.connection os ≡ false = rw (← eqb-true o.connection e.connection is) once.0 in
        rw is (ap (λ q. e ∷ q) (sym (renewed-absent e os absent)), refl)
    by_test false is behind =
        let later : 1 + place e.connection os < suc (length os) = rw is at h in
        let others = behind (omega (arith, later)) in
        let next : 1 + place e.connection os ≡ suc (place e.connection os) = omega arith in
        rw (is, next) (ap (λ q. o ∷ q) others.0, others.1)

pub no_place : (c : ℕ) (queue : Queue) → length queue ≤ place c queue → is_in c queue ≡ false
no_place c [] h = refl
no_place c (o ∷ os) h = by_test (o.connection == c) refl (no_place c os)
  where
    by_test : (b : Bool) → (o.connection == c) ≡ b → (length os ≤ place c os → is_in c os ≡ false) → is_in c (o ∷ os) ≡ false
    by_test true is behind = let first : suc (length os) ≤ 0 = rw is at h in absurd (omega (arith, first))
    by_test false is behind = let later : suc (length os) ≤ 1 + place c os = rw is at h in rw is (behind (omega (arith, later)))

same_number : (m n : ℕ) → ◌≡◌ {A = Option ℕ} (Some m) (Some n) → m ≡ n
same_number m n e = cc

pub place_some : (c : ℕ) (queue : Queue) (i : ℕ) → ◌≡◌ {A = Option ℕ} (position (λ o. o.connection == c) queue) (Some i) → (i ≡ place c queue) × (i < length queue)
place_some c queue i e = by_test (nat_lt (place c queue) (length queue)) refl
  where
    by_test : (b : Bool) → nat_lt (place c queue) (length queue) ≡ b → (i ≡ place c queue) × (i < length queue)
    by_test true t =
        let at : i ≡ place c queue = sym (same_number (place c queue) i (rw t at e)) in
        let within : place c queue < length queue = grind (arith, nat_tests) in
        (at, omega (arith, at, within))
    by_test false t = let never : ◌≡◌ {A = Option ℕ} None (Some i) = rw t at e in absurd cc

pub place_none : (c : ℕ) (queue : Queue) → ◌≡◌ {A = Option ℕ} (position (λ o. o.connection == c) queue) None → length queue ≤ place c queue
place_none c queue e = by_test (nat_lt (place c queue) (length queue)) refl
  where
    by_test : (b : Bool) → nat_lt (place c queue) (length queue) ≡ b → length queue ≤ place c queue
    by_test true t = let never : ◌≡◌ {A = Option ℕ} (Some (place c queue)) None = rw t at e in absurd cc
    by_test false t = grind (arith, nat_tests)

-- whoever waits does so behind the owner
pub joined_behind : (owner e : QueuedOwner) (waiting : Queue) → (owner.connection == e.connection) ≡ false → joined e (owner ∷ waiting) ≡ owner ∷ joined e waiting
joined_behind owner e waiting differs = rw differs (by_test (is_in e.connection waiting))
  where
    by_test : (b : Bool) → cond b (owner ∷ renewed e waiting) (owner ∷ (waiting ++ e ∷ [])) ≡ owner ∷ cond b (renewed e waiting) (waiting ++ e ∷ [])
    by_test true = refl
    by_test false = refl

pub kept_by : (profile : Profile) (c : ℕ) (flags : RequestFlags) (queue after : Queue) → IsQueue queue → after ≡ (requested profile c flags queue).0 → IsQueue after
kept_by profile c flags queue after once same = rw same (requests_keep profile c flags queue once)
