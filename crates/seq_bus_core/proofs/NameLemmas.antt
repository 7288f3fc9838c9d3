-- The names that are owned, once a queue has changed.
use Rattle.std.proofs.Common.{◌≡◌, ℕ, nat_eq, true, false, not, List, [], ◌∷◌, ◌++◌, refl, subst}
use Rattle.std.specs.List.{AllByRecursion as Each, filter, list_all}
use Rattle.std.proofs.lemmas.Bool.{not-true}
use Rattle.names.specs.Texts.{Text, text_lt}
use Rattle.owner_queues.specs.Queues.{Queue, IsQueue, without}
use Rattle.owner_queues.specs.declared.owner.QueuedOwner.{QueuedOwner}
use Rattle.owner_queues.proofs.QueueLemmas.{queue-without}
use Rattle.seq_bus_core.specs.BusState.{OwnedName, Connection, kept_name, with_queue, is_client}
use Rattle.seq_bus_core.specs.Steps.{names_without}
use Rattle.seq_bus_core.specs.Consistency.{Pairwise, IsOwned}
use Rattle.seq_bus_core.proofs.Lists.{each_weaker, each_append, each_filter, each_passing, each_always, pairs_filter, pairs_append, all_passing}
use Rattle.seq_bus_core.proofs.TextLemmas.{text_lt-trans}

abbrev pub Below : OwnedName → OwnedName → Type 0
Below a b = text_lt a.name b.name ≡ true

pub each_kept : (P : OwnedName → Type 0) (name : Text) (queue : Queue) → ((owner : QueuedOwner) (waiting : Queue) → queue ≡ owner ∷ waiting → P (record { name = name; queue = owner ∷ waiting })) → Each P (kept_name name queue)
each_kept P name [] gives = tt
each_kept P name (owner ∷ waiting) gives = (gives owner waiting refl, tt)

pairs_kept : (R : OwnedName → OwnedName → Type 0) (name : Text) (queue : Queue) → Pairwise R (kept_name name queue)
pairs_kept R name [] = tt
pairs_kept R name (owner ∷ waiting) = (tt, tt)

-- ## One queue

-- what holds of the names before holds of them after, if it holds of the name itself
pub each_with_queue : (P : OwnedName → Type 0) (name : Text) (queue : Queue) (names : List OwnedName) → Each P names → Each P (kept_name name queue) → Each P (with_queue name queue names)
each_with_queue P name queue names h k =
    each_append P (filter (λ n. text_lt n.name name) names ++ kept_name name queue) (filter (λ n. text_lt name n.name) names)
    (each_append P (filter (λ n. text_lt n.name name) names) (kept_name name queue) (each_filter P (λ n. text_lt n.name name) names h) k)
    (each_filter P (λ n. text_lt name n.name) names h)

each_below : (name : Text) (names : List OwnedName) → Each (λ n. text_lt n.name name ≡ true) (filter (λ n. text_lt n.name name) names)
each_below name names = each_passing (λ n. Unit {0}) (λ n. text_lt n.name name ≡ true) (λ n. text_lt n.name name) (λ n _ passes. passes) names (each_always (λ n. Unit {0}) (λ n. tt) names)

each_above : (name : Text) (names : List OwnedName) → Each (λ n. text_lt name n.name ≡ true) (filter (λ n. text_lt name n.name) names)
each_above name names = each_passing (λ n. Unit {0}) (λ n. text_lt name n.name ≡ true) (λ n. text_lt name n.name) (λ n _ passes. passes) names (each_always (λ n. Unit {0}) (λ n. tt) names)

pub with_queue_rises : (name : Text) (queue : Queue) (names : List OwnedName) → Pairwise Below names → Pairwise Below (with_queue name queue names)
with_queue_rises name queue names h =
    let below : List OwnedName = filter (λ n. text_lt n.name name) names in
    let above : List OwnedName = filter (λ n. text_lt name n.name) names in
    pairs_append Below (below ++ kept_name name queue) above
    (pairs_append Below below (kept_name name queue) (pairs_filter Below (λ n. text_lt n.name name) names h) (pairs_kept Below name queue)
    (each_weaker (λ n. text_lt n.name name ≡ true) (λ n. Each (Below n) (kept_name name queue)) (λ n lower. each_kept (Below n) name queue (λ _ _ _. lower)) below (each_below name names)))
    (pairs_filter Below (λ n. text_lt name n.name) names h)
    (each_append (λ n. Each (Below n) above) below (kept_name name queue)
    (each_weaker (λ n. text_lt n.name name ≡ true) (λ n. Each (Below n) above)
    (λ n lower. each_weaker (λ m. text_lt name m.name ≡ true) (Below n) (λ m higher. text_lt-trans n.name name m.name lower higher) above (each_above name names)) below (each_below name names))
    (each_kept (λ n. Each (Below n) above) name queue (λ _ _ _. each_above name names)))

-- ## A connection that stands in no queue

pub each_without : (P Q : OwnedName → Type 0) (c : ℕ) → ((n : OwnedName) → P n → (owner : QueuedOwner) (waiting : Queue) → without c n.queue ≡ owner ∷ waiting → Q (record { name = n.name; queue = owner ∷ waiting })) → (names : List OwnedName) → Each P names → Each Q (names_without c names)
each_without P Q c gives [] h = tt
each_without P Q c gives (n ∷ ns) h =
    each_append Q (kept_name n.name (without c n.queue)) (names_without c ns) (each_kept Q n.name (without c n.queue) (gives n h.0)) (each_without P Q c gives ns h.1)

pub names_without_rises : (c : ℕ) (names : List OwnedName) → Pairwise Below names → Pairwise Below (names_without c names)
names_without_rises c [] h = tt
names_without_rises c (n ∷ ns) h =
    pairs_append Below (kept_name n.name (without c n.queue)) (names_without c ns) (pairs_kept Below n.name (without c n.queue)) (names_without_rises c ns h.1)
    (each_kept (λ m. Each (Below m) (names_without c ns)) n.name (without c n.queue)
    (λ _ _ _. each_without (Below n) (Below n) c (λ m lower _ _ _. lower) ns h.0))

-- the queues, where every other connection stays what it was
pub owned_without :
    (c : ℕ) (before after : List Connection) → ((m : ℕ) → nat_eq m c ≡ false → is_client before m ≡ true → is_client after m ≡ true) →
    (names : List OwnedName) → Each (IsOwned before) names → Each (IsOwned after) (names_without c names)
owned_without c before after stay names h =
    each_without (IsOwned before) (IsOwned after) c
    (λ n o owner waiting e. record {
      ownable = o.ownable;
      owned = refl;
      once = subst IsQueue e (queue-without c n.queue o.once);
      clients = subst (λ q. list_all (λ p. is_client after p.connection) q ≡ true) e
          (all_passing (λ p. is_client before p.connection) (λ p. is_client after p.connection) (λ p. not (nat_eq p.connection c)) (λ p is keeps. stay p.connection (not-true (nat_eq p.connection c) keeps) is) n.queue o.clients);
    }) names h
