-- The queue of a name, once a name has another queue or a connection has left.
use Rattle.std.proofs.Common.{inl, inr, ◌≡◌, ℕ, suc, ◌≤◌, ◌==◌, Bool, true, false, cond, not, Option, None, List, [], ◌∷◌, ◌++◌, filter, length, refl, sym, ap, ◌∙◌, arith, append_assoc, if◌then◌else◌}
use Rattle.std.specs.List.{AllByRecursion as Each, list_all}
use Rattle.std.proofs.lemmas.Bool.{true≢false, cases_Bool, not-true}
use Rattle.std.proofs.lemmas.Bool.Decides.{nat_tests}
use Rattle.names.specs.Texts.{Text, text_eq, text_lt}
use Rattle.names.specs.BusName.{is_bus, is_unique}
use Rattle.owner_queues.specs.Queues.{Queue, IsQueue, HasRoom, queue_head, is_in, without}
use Rattle.owner_queues.specs.declared.owner.QueuedOwner.{QueuedOwner}
use Rattle.owner_queues.proofs.QueueLemmas.{queue-without, without-absent}
use Rattle.seq_bus_core.specs.BusState.{BusState, Connection, OwnedName, head_of, is_client, kept_name, queue_of, with_queue}
use Rattle.seq_bus_core.specs.Steps.{names_without}
use Rattle.seq_bus_core.proofs.Lists.{all_passing, each_always, each_passing, each_weaker}
use Rattle.seq_bus_core.proofs.OwnedLemmas.{queue_of_unowned}
use Rattle.seq_bus_core.proofs.TextLemmas.{text_eq-true, text_eq-swapped, text_lt-other, text_lt-differs, text_lt-trans}
use Rattle.registry_core.specs.NameTables.{NamesRise}
use Rattle.registry.specs.Requests.{requeued}
use Rattle.registry.proofs.HeadLemmas.{head_of_unique, head_of_other, is_itself}

-- ## Parts of lists of names

in_back : (m : Text) (front back : List OwnedName) → Each (λ n. text_eq n.name m ≡ false) front → queue_of (front ++ back) m ≡ queue_of back m
in_back m [] back h = refl
in_back m (n ∷ front) back h = rw h.0 (in_back m front back h.1)

in_front : (m : Text) (front back : List OwnedName) → Each (λ n. text_eq n.name m ≡ false) back → queue_of (front ++ back) m ≡ queue_of front m
in_front m [] back h = queue_of_unowned back m h
in_front m (n ∷ front) back h = ap (λ q. cond (text_eq n.name m) n.queue q) (in_front m front back h)

in_filtered : (test : OwnedName → Bool) (m : Text) → ((n : OwnedName) → text_eq n.name m ≡ true → test n ≡ true) → (names : List OwnedName) → queue_of (filter test names) m ≡ queue_of names m
in_filtered test m keeps [] = refl
in_filtered test m keeps (n ∷ names) = by_tests (test n) (text_eq n.name m) refl refl (in_filtered test m keeps names)
  where
    by_tests : (a b : Bool) → test n ≡ a → text_eq n.name m ≡ b → queue_of (filter test names) m ≡ queue_of names m → queue_of (filter test (n ∷ names)) m ≡ queue_of (n ∷ names) m
    by_tests true b e f others = rw e (ap (λ q. cond (text_eq n.name m) n.queue q) others)
    by_tests false true e f others = absurd (true≢false (sym (keeps n f) ∙ e))
    by_tests false false e f others = rw (e, f) others

each_that_passes : (test : OwnedName → Bool) (P : OwnedName → Type 0) → ((n : OwnedName) → test n ≡ true → P n) → (names : List OwnedName) → Each P (filter test names)
each_that_passes test P gives names = each_passing (λ n. Unit {0}) P test (λ n _ passes. gives n passes) names (each_always (λ n. Unit {0}) (λ n. tt) names)

each_kept : (P : OwnedName → Type 0) (name : Text) (queue : Queue) → ((q : Queue) → P (record { name = name; queue = q })) → Each P (kept_name name queue)
each_kept P name [] gives = tt
each_kept P name (owner ∷ waiting) gives = (gives (owner ∷ waiting), tt)

-- ## A name that has another queue

pub queue_of_its : (name : Text) (queue : Queue) (names : List OwnedName) → queue_of (with_queue name queue names) name ≡ queue
queue_of_its name queue names =
    let below : List OwnedName = filter (λ n. text_lt n.name name) names in
    let above : List OwnedName = filter (λ n. text_lt name n.name) names in
    ap (λ ns. queue_of ns name) (append_assoc below (kept_name name queue) above)
    ∙ in_back name below (kept_name name queue ++ above) (each_that_passes (λ n. text_lt n.name name) (λ n. text_eq n.name name ≡ false) (λ n lower. text_lt-differs n.name name lower) names)
    ∙ in_front name (kept_name name queue) above (each_that_passes (λ n. text_lt name n.name) (λ n. text_eq n.name name ≡ false) (λ n higher. text_eq-swapped name n.name (text_lt-differs name n.name higher)) names)
    ∙ kept queue
  where
    kept : (q : Queue) → queue_of (kept_name name q) name ≡ q
    kept [] = refl
    kept (owner ∷ waiting) = rw (is_itself name name refl) refl

pub queue_of_other : (name : Text) (queue : Queue) (names : List OwnedName) (m : Text) → text_eq m name ≡ false → queue_of (with_queue name queue names) m ≡ queue_of names m
queue_of_other name queue names m other = elim (cases_Bool (text_lt m name)) [
  | inl lower ↦
      ap (λ ns. queue_of ns m) (append_assoc below (kept_name name queue) above) ∙ ap (λ ns. queue_of ns m) (sym (append_assoc below (kept_name name queue) above))
      ∙ in_front m (below ++ kept_name name queue) above (each_that_passes (λ n. text_lt name n.name) (λ n. text_eq n.name m ≡ false) (λ n higher. text_eq-swapped m n.name (text_lt-differs m n.name (text_lt-trans m name n.name lower higher))) names)
      ∙ in_front m below (kept_name name queue) its
      ∙ in_filtered (λ n. text_lt n.name name) m (λ n same. ap (λ t. text_lt t name) (text_eq-true n.name m same) ∙ lower) names
  | inr not_lower ↦
      let higher : text_lt name m ≡ true = text_lt-other m name not_lower (text_eq-swapped m name other) in
      ap (λ ns. queue_of ns m) (append_assoc below (kept_name name queue) above)
      ∙ in_back m below (kept_name name queue ++ above) (each_that_passes (λ n. text_lt n.name name) (λ n. text_eq n.name m ≡ false) (λ n lower. text_lt-differs n.name m (text_lt-trans n.name name m lower higher)) names)
      ∙ in_back m (kept_name name queue) above its
      ∙ in_filtered (λ n. text_lt name n.name) m (λ n same. ap (text_lt name) (text_eq-true n.name m same) ∙ higher) names
]
  where
    below : List OwnedName
    below = filter (λ n. text_lt n.name name) names

    above : List OwnedName
    above = filter (λ n. text_lt name n.name) names

    its : Each (λ n. text_eq n.name m ≡ false) (kept_name name queue)
    its = each_kept (λ n. text_eq n.name m ≡ false) name queue (λ q. text_eq-swapped m name other)

-- ## The heads of names

pub requeued_unique : (s : BusState) (name : Text) (queue : Queue) (m : Text) → is_unique m ≡ true → head_of (requeued s name queue) m ≡ head_of s m
requeued_unique s name queue m unique = head_of_unique (requeued s name queue) m unique ∙ sym (head_of_unique s m unique)

pub requeued_bus : (s : BusState) (name : Text) (queue : Queue) (m : Text) → is_unique m ≡ false → is_bus m ≡ true → ◌≡◌ {A = Option ℕ} (head_of (requeued s name queue) m) None
requeued_bus s name queue m other bus = head_of_other (requeued s name queue) m other ∙ ap (λ b. if b then None else queue_head (queue_of (with_queue name queue s.names) m)) bus

pub requeued_same : (s : BusState) (name : Text) (queue : Queue) (m : Text) → is_unique m ≡ false → is_bus m ≡ false → text_eq m name ≡ true → head_of (requeued s name queue) m ≡ queue_head queue
requeued_same s name queue m other not_bus same =
    head_of_other (requeued s name queue) m other ∙ ap (λ b. if b then None else queue_head (queue_of (with_queue name queue s.names) m)) not_bus
    ∙ ap (λ t. queue_head (queue_of (with_queue name queue s.names) t)) (text_eq-true m name same) ∙ ap queue_head (queue_of_its name queue s.names)

pub requeued_other : (s : BusState) (name : Text) (queue : Queue) (m : Text) → text_eq m name ≡ false → head_of (requeued s name queue) m ≡ head_of s m
requeued_other s name queue m other = by_kind (is_unique m) refl
  where
    by_kind : (u : Bool) → is_unique m ≡ u → head_of (requeued s name queue) m ≡ head_of s m
    by_kind true e = requeued_unique s name queue m e
    by_kind false e =
        head_of_other (requeued s name queue) m e ∙ ap (λ q. if is_bus m then None else queue_head q) (queue_of_other name queue s.names m other) ∙ sym (head_of_other s m e)

-- ## A connection that has left

pub queue_left : (c : ℕ) (names : List OwnedName) (name : Text) → NamesRise names → queue_of (names_without c names) name ≡ without c (queue_of names name)
queue_left c [] name h = refl
queue_left c (n ∷ names) name h = by_tests (text_eq n.name name) (without c n.queue) refl refl (queue_left c names name h.1)
  where
    others_differ : text_eq n.name name ≡ true → Each (λ m. text_eq m.name name ≡ false) names
    others_differ same =
        each_weaker (λ m. text_lt n.name m.name ≡ true) (λ m. text_eq m.name name ≡ false)
        (λ m higher. text_eq-swapped name m.name (text_lt-differs name m.name (ap (λ t. text_lt t m.name) (sym (text_eq-true n.name name same)) ∙ higher))) names h.0

    by_tests : (b : Bool) (q : Queue) → text_eq n.name name ≡ b → without c n.queue ≡ q → queue_of (names_without c names) name ≡ without c (queue_of names name) →
        queue_of (kept_name n.name q ++ names_without c names) name ≡ without c (cond b n.queue (queue_of names name))
    by_tests true [] e f others = others ∙ ap (without c) (queue_of_unowned names name (others_differ e)) ∙ sym f
    by_tests true (o ∷ os) e f others = rw e (sym f)
    by_tests false [] e f others = others
    by_tests false (o ∷ os) e f others = rw e others

-- ## Places

-- a connection stands in a queue once
at_most_one : (n : ℕ) (q : Queue) → IsQueue q → length q ≤ suc (length (without n q))
at_most_one n [] h = omega arith
at_most_one n (o ∷ os) h = by_test (o.connection == n) refl (at_most_one n os h.1)
  where
    by_test : (b : Bool) → (o.connection == n) ≡ b → length os ≤ suc (length (without n os)) → suc (length os) ≤ suc (length (cond (not b) (o ∷ without n os) (without n os)))
    by_test true e rest = let same : o.connection ≡ n = grind (arith, nat_tests) in omega (arith, ap length (without-absent n os (ap (λ k. is_in k os) (sym same) ∙ h.0)))
    by_test false e rest = omega (arith, rest)

-- no more clients stand in a queue than there are connections
pub places : (cs : List Connection) (queue : Queue) → IsQueue queue → list_all (λ q. is_client cs q.connection) queue ≡ true → length queue ≤ length cs
places [] [] once clients = omega arith
places [] (q ∷ qs) once clients = absurd (true≢false (sym clients))
places (c ∷ cs) queue once clients =
    let fewer : length (without c.number queue) ≤ length cs = places cs (without c.number queue) (queue-without c.number queue once)
    (all_passing (λ q. is_client (c ∷ cs) q.connection) (λ q. is_client cs q.connection) (λ q. not (q.connection == c.number)) (λ q is keeps. of_others q.connection (not-true (q.connection == c.number) keeps) is) queue clients) in
    let one : length queue ≤ suc (length (without c.number queue)) = at_most_one c.number queue once in
    omega arith
  where
    of_others : (m : ℕ) → (m == c.number) ≡ false → is_client (c ∷ cs) m ≡ true → is_client cs m ≡ true
    of_others m other is = let differs : (c.number == m) ≡ false = grind (arith, nat_tests) in rw differs at is

pub has_room : (cs : List Connection) (c : ℕ) (queue : Queue) → IsQueue queue → list_all (λ q. is_client cs q.connection) queue ≡ true → is_client cs c ≡ true → length cs ≤ 256 → HasRoom c queue
has_room cs c queue once clients client few absent =
    let entry : QueuedOwner = record { connection = c; allow_replacement = false; do_not_queue = false } in
    let more : length (entry ∷ queue) ≤ length cs = places cs (entry ∷ queue) (absent, once) (rw client clients) in
    omega arith
