-- Sums over lists that are filtered, and over the names once a queue has changed.
use Rattle.std.proofs.Common.{◌≡◌, ◌≢◌, ℕ, ◌+◌, ◌<◌, ◌≤◌, nat_eq, Bool, false, cond, List, [], ◌∷◌, ◌++◌, map, length, refl, sym, ap, ◌∙◌, subst, inl, inr, arith}
use Rattle.std.specs.List.{AllByRecursion as Each, IsDistinct, filter, sum_by}
use Rattle.std.proofs.lemmas.Bool.{cond_both, cond-true, cond-false, cases_Bool, eqb-true, ne_eqb}
use Rattle.std.proofs.lemmas.List.{length-append, length-map}
use Rattle.std.proofs.lemmas.List.Sums.{sum_by-cons, sum_by-append}
use Rattle.std.proofs.lemmas.Map.Steps.{length-le_from_distinct_below}
use Rattle.names.specs.Texts.{Text, text_eq, text_lt}
use Rattle.owner_queues.specs.Queues.{Queue, without}
use Rattle.seq_bus_core.specs.BusState.{Connection, OwnedName, RunningStart, kept_name, queue_of, with_queue, tickets_in}
use Rattle.seq_bus_core.specs.Steps.{names_without, waiting_if}
use Rattle.seq_bus_core.specs.Consistency.{Pairwise}
use Rattle.seq_bus_core.proofs.Lists.{each_weaker, each_map, any_having}
use Rattle.seq_bus_core.proofs.TextLemmas.{text_eq-true, text_eq-swapped, text_lt-itself, text_lt-back}

pub filter_sum : {X : Type 0} (f : X → ℕ) (test : X → Bool) (xs : List X) → sum_by f (filter test xs) ≤ sum_by f xs
filter_sum f test [] = omega arith
filter_sum f test (x ∷ xs) =
    let rest : sum_by f (filter test xs) ≤ sum_by f xs = filter_sum f test xs in
    cond_both (test x) (x ∷ filter test xs) (filter test xs) (λ ys. sum_by f ys ≤ sum_by f (x ∷ xs)) (λ _. omega (arith, sum_by-cons f x (filter test xs), sum_by-cons f x xs))
    (λ _. omega (arith, sum_by-cons f x xs))

pub length_sum : {X : Type 0} (xs : List X) → sum_by (λ x. 1) xs ≡ length xs
length_sum [] = refl
length_sum {X} (x ∷ xs) = omega (arith, sum_by-cons {X = X} (λ x. 1) x xs, length_sum xs)

distinct_slots : (cs : List Connection) → Pairwise (λ a b. a.slot ≢ b.slot) cs → IsDistinct nat_eq (map (λ c. c.slot) cs)
unfolding IsDistinct
distinct_slots [] h = tt
distinct_slots (c ∷ cs) h = (each_map (λ d. c.slot ≢ d.slot) (λ slot. nat_eq c.slot slot ≡ false) (λ d. d.slot) (λ d differ. ne_eqb c.slot d.slot differ) cs h.0, distinct_slots cs h.1)

-- numbers below a limit, no two of them equal, are no more than the limit
pub few_slots : (limit : ℕ) (connections : List Connection) → Pairwise (λ a b. a.slot ≢ b.slot) connections → Each (λ c. c.slot < limit) connections → length connections ≤ limit
few_slots limit connections differ below =
    let slots : List ℕ = map (λ c. c.slot) connections in
    let lower : Each (λ slot. slot < limit) slots = each_map (λ c. c.slot < limit) (λ slot. slot < limit) (λ c. c.slot) (λ c is. is) connections below in
    subst (λ n. n ≤ limit) (length-map connections (λ c. c.slot))
    (length-le_from_distinct_below slots limit (distinct_slots connections differ)
    (λ q any. any_having (λ slot. slot < limit) (λ slot. nat_eq q slot) (q < limit) (λ slot same is. let e : q ≡ slot = eqb-true q slot same in omega arith) slots any lower))

-- ## Names

abbrev pub OfQueue : (Queue → ℕ) → OwnedName → ℕ
OfQueue g n = g n.queue

pub kept_sum : (g : Queue → ℕ) → g [] ≡ 0 → (name : Text) (queue : Queue) → sum_by (OfQueue g) (kept_name name queue) ≡ g queue
kept_sum g none name [] = sym none
kept_sum g none name (owner ∷ waiting) = omega arith

-- the names apart from one of them
others_sum :
    (g : Queue → ℕ) → g [] ≡ 0 → (name : Text) (names : List OwnedName) →
    sum_by (OfQueue g) (filter (λ n. text_lt n.name name) names) + g (queue_of names name) + sum_by (OfQueue g) (filter (λ n. text_lt name n.name) names) ≤ sum_by (OfQueue g) names
others_sum g none name [] = omega (arith, none)
others_sum g none name (n ∷ ns) =
    let f : OwnedName → ℕ = OfQueue g in
    let below : List OwnedName = filter (λ m. text_lt m.name name) ns in
    let above : List OwnedName = filter (λ m. text_lt name m.name) ns in
    let rest : sum_by f below + g (queue_of ns name) + sum_by f above ≤ sum_by f ns = others_sum g none name ns in
    let whole : sum_by f (n ∷ ns) ≡ f n + sum_by f ns = sum_by-cons f n ns in
    let first_below : sum_by f (n ∷ below) ≡ f n + sum_by f below = sum_by-cons f n below in
    let first_above : sum_by f (n ∷ above) ≡ f n + sum_by f above = sum_by-cons f n above in
    elim (cases_Bool (text_eq n.name name)) [
      | inl same ↦
          let e : n.name ≡ name = text_eq-true n.name name same in
          let not_below : text_lt n.name name ≡ false = ap (λ t. text_lt t name) e ∙ text_lt-itself name in
          let not_above : text_lt name n.name ≡ false = ap (text_lt name) e ∙ text_lt-itself name in
          let b : sum_by f (cond (text_lt n.name name) (n ∷ below) below) ≡ sum_by f below = ap (sum_by f) (cond-false (text_lt n.name name) (n ∷ below) below not_below) in
          let a : sum_by f (cond (text_lt name n.name) (n ∷ above) above) ≡ sum_by f above = ap (sum_by f) (cond-false (text_lt name n.name) (n ∷ above) above not_above) in
          let q : g (cond (text_eq n.name name) n.queue (queue_of ns name)) ≡ g n.queue = ap g (cond-true (text_eq n.name name) n.queue (queue_of ns name) same) in
          omega arith
      | inr other ↦
          let q : g (cond (text_eq n.name name) n.queue (queue_of ns name)) ≡ g (queue_of ns name) = ap g (cond-false (text_eq n.name name) n.queue (queue_of ns name) other) in
          elim (cases_Bool (text_lt n.name name)) [
            | inl lower ↦
                let b : sum_by f (cond (text_lt n.name name) (n ∷ below) below) ≡ sum_by f (n ∷ below) = ap (sum_by f) (cond-true (text_lt n.name name) (n ∷ below) below lower) in
                let a : sum_by f (cond (text_lt name n.name) (n ∷ above) above) ≡ sum_by f above = ap (sum_by f) (cond-false (text_lt name n.name) (n ∷ above) above (text_lt-back n.name name lower)) in
                omega arith
            | inr higher ↦
                let b : sum_by f (cond (text_lt n.name name) (n ∷ below) below) ≡ sum_by f below = ap (sum_by f) (cond-false (text_lt n.name name) (n ∷ below) below higher) in
                let a : sum_by f (cond (text_lt name n.name) (n ∷ above) above) ≤ f n + sum_by f above = cond_both (text_lt name n.name) (n ∷ above) above (λ ys. sum_by f ys ≤ f n + sum_by f above) (λ _. omega arith) (λ _. omega arith) in
                omega arith
          ]
    ]

-- a queue that counts no more than the one before
pub with_queue_sum : (g : Queue → ℕ) → g [] ≡ 0 → (name : Text) (queue : Queue) (names : List OwnedName) → g queue ≤ g (queue_of names name) → sum_by (OfQueue g) (with_queue name queue names) ≤ sum_by (OfQueue g) names
with_queue_sum g none name queue names less =
    let f : OwnedName → ℕ = OfQueue g in
    let below : List OwnedName = filter (λ n. text_lt n.name name) names in
    let above : List OwnedName = filter (λ n. text_lt name n.name) names in
    let kept : sum_by f (kept_name name queue) ≡ g queue = kept_sum g none name queue in
    let front : sum_by f (below ++ kept_name name queue) ≡ sum_by f below + sum_by f (kept_name name queue) = sum_by-append f below (kept_name name queue) in
    let whole : sum_by f (below ++ kept_name name queue ++ above) ≡ sum_by f (below ++ kept_name name queue) + sum_by f above = sum_by-append f (below ++ kept_name name queue) above in
    let before : sum_by f below + g (queue_of names name) + sum_by f above ≤ sum_by f names = others_sum g none name names in
    omega arith

pub names_without_sum : (g : Queue → ℕ) → g [] ≡ 0 → (c : ℕ) → ((queue : Queue) → g (without c queue) ≤ g queue) → (names : List OwnedName) → sum_by (OfQueue g) (names_without c names) ≤ sum_by (OfQueue g) names
names_without_sum g none c less [] = omega arith
names_without_sum g none c less (n ∷ ns) =
    let f : OwnedName → ℕ = OfQueue g in
    let kept : sum_by f (kept_name n.name (without c n.queue)) ≡ g (without c n.queue) = kept_sum g none n.name (without c n.queue) in
    let fewer : g (without c n.queue) ≤ g n.queue = less n.queue in
    let rest : sum_by f (names_without c ns) ≤ sum_by f ns = names_without_sum g none c less ns in
    let joined : sum_by f (kept_name n.name (without c n.queue) ++ names_without c ns) ≡ sum_by f (kept_name n.name (without c n.queue)) + sum_by f (names_without c ns) = sum_by-append f (kept_name n.name (without c n.queue)) (names_without c ns) in
    let whole : sum_by f (n ∷ ns) ≡ f n + sum_by f ns = sum_by-cons f n ns in
    omega arith

-- ## Tickets

abbrev waiting_for : RunningStart → ℕ
waiting_for r = length r.tickets

same_tickets : (name : Text) (ticket : ℕ) (starts : List RunningStart) → Each (λ r. text_eq r.name name ≡ false) starts → tickets_in (map (waiting_if name ticket) starts) ≡ tickets_in starts
same_tickets name ticket [] h = refl
same_tickets name ticket (r ∷ rs) h =
    let f : RunningStart → RunningStart = waiting_if name ticket in
    let first : waiting_for (f r) ≡ waiting_for r = ap waiting_for (cond-false (text_eq r.name name) (record r { tickets = r.tickets ++ ticket ∷ [] }) r h.0) in
    let after : tickets_in (f r ∷ map f rs) ≡ waiting_for (f r) + tickets_in (map f rs) = sum_by-cons waiting_for (f r) (map f rs) in
    let before : tickets_in (r ∷ rs) ≡ waiting_for r + tickets_in rs = sum_by-cons waiting_for r rs in
    let rest : tickets_in (map f rs) ≡ tickets_in rs = same_tickets name ticket rs h.1 in
    omega arith

-- one start of a name gets a ticket
pub one_ticket_more : (name : Text) (ticket : ℕ) (starts : List RunningStart) → Pairwise (λ a b. text_eq a.name b.name ≡ false) starts → tickets_in (map (waiting_if name ticket) starts) ≤ tickets_in starts + 1
one_ticket_more name ticket [] h = omega arith
one_ticket_more name ticket (r ∷ rs) h =
    let f : RunningStart → RunningStart = waiting_if name ticket in
    let after : tickets_in (f r ∷ map f rs) ≡ waiting_for (f r) + tickets_in (map f rs) = sum_by-cons waiting_for (f r) (map f rs) in
    let before : tickets_in (r ∷ rs) ≡ waiting_for r + tickets_in rs = sum_by-cons waiting_for r rs in
    elim (cases_Bool (text_eq r.name name)) [
      | inl same ↦
          let e : r.name ≡ name = text_eq-true r.name name same in
          let first : waiting_for (f r) ≡ length (r.tickets ++ ticket ∷ []) = ap waiting_for (cond-true (text_eq r.name name) (record r { tickets = r.tickets ++ ticket ∷ [] }) r same) in
          let longer : length (r.tickets ++ ticket ∷ []) ≡ length r.tickets + 1 = length-append r.tickets (ticket ∷ []) in
          let rest : tickets_in (map f rs) ≡ tickets_in rs = same_tickets name ticket rs
          (each_weaker (λ q. text_eq r.name q.name ≡ false) (λ q. text_eq q.name name ≡ false) (λ q differ. text_eq-swapped name q.name (ap (λ t. text_eq t q.name) (sym e) ∙ differ)) rs h.0) in
          omega arith
      | inr other ↦
          let first : waiting_for (f r) ≡ waiting_for r = ap waiting_for (cond-false (text_eq r.name name) (record r { tickets = r.tickets ++ ticket ∷ [] }) r other) in
          let rest : tickets_in (map f rs) ≤ tickets_in rs + 1 = one_ticket_more name ticket rs h.1 in
          omega arith
    ]
