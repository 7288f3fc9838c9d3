use Rattle.std.proofs.Common.{◌≡◌, ℕ, ◌+◌, suc, ◌==◌, true, false, Option, Some, ◌∷◌, drop, get_or, refl, sym, ap, ◌∙◌, add-one, arith}
use Rattle.std.proofs.Math.Seq.{drop-cons}
use Rattle.std.proofs.lemmas.Bool.Decides.{nat_tests}
use Rattle.owner_queues.specs.Queues.{Queue, queue_head, without}
use Rattle.owner_queues.specs.declared.owner.QueuedOwner.{QueuedOwner}
use Rattle.registry.proofs.leave.next_owner.Goals as goal

nobody : QueuedOwner
nobody = record { connection = 0; allow_replacement = false; do_not_queue = false }

stays : (n : ℕ) (p : QueuedOwner) (q : Queue) → (p.connection == n) ≡ false → ◌≡◌ {A = Option ℕ} (Some p.connection) (queue_head (without n (p ∷ q)))
stays n p q e = rw e refl

goes : (n : ℕ) (p : QueuedOwner) (q : Queue) → (p.connection == n) ≡ true → without n (p ∷ q) ≡ without n q
goes n p q e = rw e refl

pub returns-then-place-leaver : goal.returns-then-place-leaver
unfolding nobody
returns-then-place-leaver c =
    let items = c.as_slice-place-items.result.now in
    let n = c.args.leaver in
    let i = c.loop-place.place-index in
    let p : QueuedOwner = get_or items i nobody in
    let other : (p.connection == n) ≡ false = grind (arith, nat_tests) in
    stays n p (drop (suc i) items) other
    ∙ ap (λ (q : Queue). queue_head (without n q)) (sym (drop-cons items i nobody c.loop-place-test.true) ∙ ap (drop i) c.as_slice-place-items.ensures.value) ∙ ap queue_head (sym c.loop-place.invariant)

pub loop-place-preserved : goal.loop-place-preserved
unfolding nobody
loop-place-preserved c =
    let items = c.as_slice-place-items.result.now in
    let n = c.args.leaver in
    let i = c.loop-place.place-index in
    let p : QueuedOwner = get_or items i nobody in
    let its : (p.connection == n) ≡ true = grind (arith, nat_tests) in
    c.loop-place.invariant ∙ ap (λ (q : Queue). without n (drop i q)) (sym c.as_slice-place-items.ensures.value) ∙ ap (without n) (drop-cons items i nobody c.loop-place-test.true)
    ∙ goes n p (drop (suc i) items) its ∙ ap (λ k. without n (drop k items)) (sym (add-one i)) ∙ ap (λ (q : Queue). without n (drop (i + 1) q)) c.as_slice-place-items.ensures.value
