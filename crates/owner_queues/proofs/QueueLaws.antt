-- The laws of a queue.
use Rattle.std.proofs.Common.{◌≡◌, ℕ, ◌+◌, ◌≤◌, Bool, true, false, ◌==◌, ◌↔◌, Some, [], ◌∷◌, ◌++◌, length, refl, sym, ap, ◌∙◌, arith, IsSome, ◌≢◌}
use Rattle.std.specs.List.{list_all}
use Rattle.std.proofs.lemmas.Bool.{true≢false, eqb-true, eqb-false, eq-eqb, cond_both, or_from, or_left, or_right, and_parts, and_from}
use Rattle.owner_queues.specs.declared.owner.QueuedOwner.{QueuedOwner}
use Rattle.owner_queues.specs.declared.request.RequestFlags.{RequestFlags}
use Rattle.owner_queues.specs.declared.request.Profile.{Profile}
use Rattle.owner_queues.specs.declared.reply.Reply.{Reply}
use Rattle.owner_queues.specs.declared.reply.Reply.TheVariants.{Released, NonExistent, NotOwner}
use Rattle.owner_queues.specs.Queues.{Queue, IsQueue, queue_head, is_in, is_free, without, entry_of, renewed, requested}
use Rattle.owner_queues.specs.Laws.{RequestsKeepQueues, RequestsAreToldTheOwner, HoldsBy, ReleasesTakeOut, ProfilesAgree}
use Rattle.owner_queues.proofs.QueueLemmas.{differ-swapped, is_in-without, absent-without, queue-without, without-absent, length-without, all-without, is_in-renewed, queue-renewed, length-renewed, all-renewed, absent-last, queue-last, is_in-last, length-last, all-last, requested_cases}

pub requests_keep : RequestsKeepQueues
requests_keep profile c flags [] h = (refl, tt)
requests_keep profile c flags (owner ∷ waiting) h =
    requested_cases (λ after. IsQueue after.0) profile c flags owner waiting
    (λ same. (rw (sym (eqb-true owner.connection c same)) h.0, h.1))
    (λ other.
    cond_both owner.do_not_queue [] (owner ∷ []) (λ d. IsQueue (entry_of c flags ∷ d ++ without c waiting))
    (λ _. (is_in-without c waiting, queue-without c waiting h.1))
    (λ _. (
      or_from (owner.connection == c) (is_in c (without c waiting)) other (is_in-without c waiting),
      (absent-without owner.connection c waiting h.0, queue-without c waiting h.1),
    )))
    (λ other. (absent-without owner.connection c waiting h.0, queue-without c waiting h.1))
    (λ other. (
      or_from (c == owner.connection) (is_in owner.connection (without c waiting)) (differ-swapped owner.connection c other) (absent-without owner.connection c waiting h.0),
      (is_in-without c waiting, queue-without c waiting h.1),
    ))
    (λ other waits. (is_in-renewed owner.connection (entry_of c flags) waiting ∙ h.0, queue-renewed (entry_of c flags) waiting h.1))
    (λ other new. (absent-last owner.connection waiting (entry_of c flags) h.0 (differ-swapped owner.connection c other), queue-last waiting (entry_of c flags) h.1 new))

some-differ : (a b : ℕ) → (a == b) ≡ false → Some a ≢ Some b
some-differ a b differ same = eqb-false a b differ (some_same same)
  where
    some_same : {x y : ℕ} → Some x ≡ Some y → x ≡ y
    some_same {x} {y} e = cc

pub requests_told : RequestsAreToldTheOwner
requests_told profile c flags [] = (refl, (λ none. cc, refl))
requests_told profile c flags (owner ∷ waiting) =
    requested_cases (λ after. IsSome (queue_head after.0) × HoldsBy after.1 c (owner ∷ waiting) after.0) profile c flags owner waiting
    (λ same. (refl, (ap Some (eqb-true owner.connection c same), refl)))
    (λ other. (refl, (some-differ owner.connection c other, refl)))
    (λ other. (refl, (some-differ owner.connection c other, refl, or_from (owner.connection == c) (is_in c (without c waiting)) other (is_in-without c waiting))))
    (λ other. (refl, (some-differ owner.connection c other, refl, or_right (owner.connection == c) _ (or_left (c == c) _ (eq-eqb c c refl)))))
    (λ other waits. (refl, (some-differ owner.connection c other, refl, or_right (owner.connection == c) _ (is_in-renewed c (entry_of c flags) waiting ∙ waits))))
    (λ other new. (refl, (some-differ owner.connection c other, refl, or_right (owner.connection == c) _ (is_in-last waiting (entry_of c flags)))))

pub requests_add :
    (test : QueuedOwner → Bool) (profile : Profile) (c : ℕ) (flags : RequestFlags) (queue : Queue) →
    list_all test (entry_of c flags ∷ queue) ≡ true → list_all test (requested profile c flags queue).0 ≡ true
requests_add test profile c flags [] h = h
requests_add test profile c flags (owner ∷ waiting) h =
    let e : (test (entry_of c flags) ≡ true) × (list_all test (owner ∷ waiting) ≡ true) = and_parts (test (entry_of c flags)) (list_all test (owner ∷ waiting)) h in
    let w : (test owner ≡ true) × (list_all test waiting ≡ true) = and_parts (test owner) (list_all test waiting) e.1 in
    let rest : list_all test (without c waiting) ≡ true = all-without test c waiting w.1 in
    requested_cases (λ after. list_all test after.0 ≡ true) profile c flags owner waiting (λ same. and_from _ _ e.0 w.1)
    (λ other.
    cond_both owner.do_not_queue [] (owner ∷ []) (λ d. list_all test (entry_of c flags ∷ d ++ without c waiting) ≡ true) (λ _. and_from _ _ e.0 rest)
    (λ _. and_from _ _ e.0 (and_from _ _ w.0 rest))) (λ other. and_from _ _ w.0 rest) (λ other. and_from _ _ w.0 (and_from _ _ e.0 rest))
    (λ other waits. and_from _ _ w.0 (all-renewed test (entry_of c flags) waiting e.0 w.1)) (λ other new. and_from _ _ w.0 (all-last test waiting (entry_of c flags) w.1 e.0))

pub requests_lengthen : (profile : Profile) (c : ℕ) (flags : RequestFlags) (queue : Queue) → length (requested profile c flags queue).0 ≤ length queue + 1
requests_lengthen profile c flags [] = omega arith
requests_lengthen profile c flags (owner ∷ waiting) =
    let rest : length (without c waiting) ≤ length waiting = length-without c waiting in
    let same : length (renewed (entry_of c flags) waiting) ≡ length waiting = length-renewed (entry_of c flags) waiting in
    let more : length (waiting ++ entry_of c flags ∷ []) ≡ length waiting + 1 = length-last waiting (entry_of c flags) in
    requested_cases (λ after. length after.0 ≤ length (owner ∷ waiting) + 1) profile c flags owner waiting (λ _. omega arith)
    (λ other.
    cond_both owner.do_not_queue [] (owner ∷ []) (λ d. length (entry_of c flags ∷ d ++ without c waiting) ≤ length (owner ∷ waiting) + 1) (λ _. omega (arith, rest))
    (λ _. omega (arith, rest))) (λ _. omega (arith, rest)) (λ _. omega (arith, rest)) (λ _ _. omega (arith, same)) (λ _ _. omega (arith, more))

free_is_empty : (queue : Queue) → is_free queue ≡ true → queue ≡ []
free_is_empty [] h = refl
free_is_empty (o ∷ os) h = absurd (true≢false (sym h))

pub releases_take : ReleasesTakeOut
releases_take c queue h =
    cond_both (is_in c queue) _ _ Fact
    (λ was. (queue-without c queue h, refl, is_in-without c queue, (λ _. was, λ _. refl), (λ e. cc, λ empty. absurd (true≢false (sym was ∙ ap (λ q. is_in c q) empty)))))
    (λ was.
    cond_both (is_free queue) (queue, NonExistent) (queue, NotOwner) Fact
    (λ free. (h, sym (without-absent c queue was), was, (λ e. cc, λ found. absurd (true≢false (sym found ∙ was))), (λ _. free_is_empty queue free, λ _. refl)))
    (λ held. (
      h,
      sym (without-absent c queue was),
      was,
      (λ e. cc, λ found. absurd (true≢false (sym found ∙ was))),
      (λ e. cc, λ empty. absurd (true≢false (sym (ap (λ q. is_free q) empty) ∙ held))),
    )))
  where
    Fact : Queue × Reply → Type 0
    Fact after =
        IsQueue after.0 × (after.0 ≡ without c queue) × (is_in c after.0 ≡ false) × ((after.1 ≡ Released) ↔ (is_in c queue ≡ true)) × ((after.1 ≡ NonExistent) ↔ (queue ≡ []))

pub profiles_alike : ProfilesAgree
profiles_alike c flags [] h = refl
profiles_alike c flags (owner ∷ waiting) h = rw h refl
