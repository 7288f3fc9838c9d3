-- How often a connection stands in a queue.
use Rattle.std.proofs.Common.{◌≡◌, ℕ, ◌+◌, ◌<◌, ◌≤◌, ◌==◌, Bool, true, false, if◌then◌else◌, [], ◌∷◌, length, take, get_or, count_by, refl, ap, ◌∙◌, subst, arith}
use Rattle.std.proofs.lemmas.Bool.{eqb-true, eq-eqb}
use Rattle.std.proofs.lemmas.List.Sums.{sum_by-cons, sum_by_more_le}
use Rattle.owner_queues.specs.Queues.{Queue, IsQueue, is_in, without}
use Rattle.owner_queues.specs.declared.owner.QueuedOwner.{QueuedOwner}
use Rattle.owner_queues.proofs.QueueLemmas.{is_in-without, without-absent}

abbrev pub one_if_in : ℕ → Queue → ℕ
one_if_in c queue = if is_in c queue then 1 else 0

-- a connection stands in a queue once
pub once : (c : ℕ) (queue : Queue) → IsQueue queue → count_by (λ o. o.connection == c) queue ≡ one_if_in c queue
once c [] h = refl
once c (o ∷ os) h = by_test (o.connection == c) refl (once c os h.1)
  where
    whole : count_by (λ p. p.connection == c) (o ∷ os) ≡ (if o.connection == c then 1 else 0) + count_by (λ p. p.connection == c) os
    whole = sum_by-cons (λ (p : QueuedOwner). if p.connection == c then 1 else 0) o os

    by_test : (b : Bool) → (o.connection == c) ≡ b → count_by (λ p. p.connection == c) os ≡ one_if_in c os → count_by (λ p. p.connection == c) (o ∷ os) ≡ one_if_in c (o ∷ os)
    by_test true e rest =
        let none : is_in c os ≡ false = subst (λ k. is_in k os ≡ false) (eqb-true o.connection c e) h.0 in
        whole ∙ rw (e, rest, none) refl
    by_test false e rest = whole ∙ rw (e, rest) (omega arith)

is_in_others : (c d : ℕ) (queue : Queue) → (d == c) ≡ false → is_in c (without d queue) ≡ is_in c queue
is_in_others c d [] h = refl
is_in_others c d (o ∷ os) h = by_test (o.connection == d) refl (is_in_others c d os h)
  where
    by_test : (b : Bool) → (o.connection == d) ≡ b → is_in c (without d os) ≡ is_in c os → is_in c (without d (o ∷ os)) ≡ is_in c (o ∷ os)
    by_test true e rest = let other : (o.connection == c) ≡ false = ap (λ k. k == c) (eqb-true o.connection d e) ∙ h in rw (e, other) rest
    by_test false e rest = rw (e, rest) refl

pub left_counts : (c d : ℕ) (queue : Queue) → is_in d queue ≡ true → one_if_in c queue ≡ (if d == c then 1 else 0) + one_if_in c (without d queue)
left_counts c d queue is = by_test (d == c) refl
  where
    by_test : (b : Bool) → (d == c) ≡ b → one_if_in c queue ≡ (if d == c then 1 else 0) + one_if_in c (without d queue)
    by_test true e =
        let same : d ≡ c = eqb-true d c e in
        let before : is_in c queue ≡ true = subst (λ k. is_in k queue ≡ true) same is in
        let after : is_in c (without d queue) ≡ false = subst (λ k. is_in k (without d queue) ≡ false) same (is_in-without d queue) in
        rw (e, before, after) refl
    by_test false e = let same : is_in c (without d queue) ≡ is_in c queue = is_in_others c d queue e in rw (e, same) (omega arith)

pub left_length : (d : ℕ) (queue : Queue) → IsQueue queue → is_in d queue ≡ true → length queue ≡ length (without d queue) + 1
left_length d [] h is = cc
left_length d (o ∷ os) h is = by_test (o.connection == d) refl (left_length d os h.1)
  where
    by_test : (b : Bool) → (o.connection == d) ≡ b → (is_in d os ≡ true → length os ≡ length (without d os) + 1) → length (o ∷ os) ≡ length (without d (o ∷ os)) + 1
    by_test true e others =
        let none : is_in d os ≡ false = subst (λ k. is_in k os ≡ false) (eqb-true o.connection d e) h.0 in
        let same : length (without d os) ≡ length os = ap length (without-absent d os none) in
        rw e (omega (arith, same))
    by_test false e others = let behind : is_in d os ≡ true = rw e at is in let less = others behind in rw e (omega (arith, less))

-- a place of a queue is counted by its connection
pub own_place : (queue : Queue) (i : ℕ) (d : QueuedOwner) → i < length queue →
    count_by (λ o. o.connection == (get_or queue i d).connection) (take i queue) + 1 ≤ count_by (λ o. o.connection == (get_or queue i d).connection) queue
own_place queue i d lt =
    let c : ℕ = (get_or queue i d).connection in
    let own : ◌≡◌ {A = ℕ} (if c == c then 1 else 0) 1 = rw (eq-eqb c c refl) refl in
    let more : count_by (λ o. o.connection == c) (take i queue) + (if c == c then 1 else 0) ≤ count_by (λ o. o.connection == c) queue = sum_by_more_le (λ (o : QueuedOwner). if o.connection == c then 1 else 0) queue i d lt in
    omega (arith, own, more)
