-- Every step keeps within the limits of the bus.
use Rattle.std.proofs.Common.{◌≡◌, ℕ, ◌+◌, ◌-◌, ◌*◌, ◌/◌, ◌<◌, ◌≤◌, zero, suc, nat_eq, nat_le, nat_lt, Bool, true, false, not, ◌&&◌, ◌||◌, cond, Option, Some, None, is_some, IsSome, List, [], ◌∷◌, ◌++◌, length, refl, sym, ◌∙◌, subst, inl, inr, arith}
use Rattle.std.specs.List.{AllByRecursion as Each, filter, list_all, range_with_len, sum_by}
use Rattle.std.proofs.Math.Nat.{mul-le-mul_right, le-div_iff_mul-le, suc-mul, mul_comm}
use Rattle.std.proofs.lemmas.Bool.{cond_both, cond-false, cases_Bool, true≢false, leb-true, ltb-true, ltb-false, eqb-true, not-true, not_from_false, and_parts, and_from, or_parts, or_from}
use Rattle.std.proofs.lemmas.List.Sums.{sum_by-cons, sum_by-append}
use Rattle.names.specs.Texts.{Text, text_eq}
use Rattle.match_rules.specs.Rules.{Rule}
use Rattle.match_rules.specs.OwnedRules.{OwnedRule, count_of, rules_without, without_first}
use Rattle.owner_queues.specs.Queues.{Queue, queue_head, is_in, without, requested, released}
use Rattle.owner_queues.specs.declared.owner.QueuedOwner.{QueuedOwner}
use Rattle.owner_queues.specs.declared.request.Profile.{Profile}
use Rattle.owner_queues.specs.declared.request.RequestFlags.{RequestFlags}
use Rattle.owner_queues.proofs.QueueLemmas.{absent-without, length-without}
use Rattle.owner_queues.proofs.QueueLaws.{requests_add, releases_take}
use Rattle.seq_bus_core.specs.BusState.{BusState, Connection, OwnedName, RunningStart, queue_of, with_queue, start_of, max_connections, max_names, max_queued, max_names_of_one, max_rules, max_rules_of_one, max_tickets, max_number, queued_in, names_of, tickets_in}
use Rattle.seq_bus_core.specs.Steps.{slots_of_router, slots_of, is_taken, names_without, with_owned, is_within_names, with_rule, is_within_rules, monitor_if, has_room_for_ticket, step}
use Rattle.seq_bus_core.specs.Histories.{History, opening, after}
use Rattle.seq_bus_core.specs.Consistency.{IsOwned, IsConsistent, IsWithinLimits}
use Rattle.seq_bus_core.specs.Laws.{StepsKeepLimits, BusesAreWithinLimits}
use Rattle.seq_bus_core.specs.declared.change.Change.{Change}
use Rattle.seq_bus_core.proofs.Lists.{each_push, each_filter, each_map, found_having}
use Rattle.seq_bus_core.proofs.Counts.{filter_sum, length_sum, few_slots, OfQueue, with_queue_sum, names_without_sum, one_ticket_more}
use Rattle.seq_bus_core.proofs.ConsistencyLaws.{queue_is, steps_keep_consistency, buses_are_consistent}
use Rattle.seq_bus_core.proofs.StepCases.{step_cases}

-- ## Slots

range_below : (from n limit : ℕ) → from + n ≤ limit → Each (λ x. x < limit) (range_with_len from n)
range_below from zero limit h = tt
range_below from (suc n) limit h = (omega arith, range_below (from + 1) n limit (omega arith))

-- the last slot of a router is one of all
router_slots : (seat routers : ℕ) → 1 ≤ seat → seat ≤ routers → (seat - 1) * (256 / routers) + 256 / routers ≤ 256
router_slots zero routers first within = absurd (omega arith)
router_slots (suc n) routers first within =
    let share : ℕ = 256 / routers in
    let all : share * routers ≤ 256 = (le-div_iff_mul-le {k = routers} {x = 256 / routers} {y = 256} (omega arith)).0 (omega arith) in
    let ours : suc n * share ≤ routers * share = mul-le-mul_right share within in
    let before : suc n - 1 ≡ n = omega arith in
    rw before (omega (arith, suc-mul n share, mul_comm routers share))

slots_below : (s : BusState) (seat : ℕ) → Each (λ slot. slot < max_connections) (slots_of s seat)
slots_below s seat =
    cond_both (nat_le 1 seat && nat_le seat s.routers) (slots_of_router s seat) [] (Each (λ slot. slot < max_connections))
    (λ router. let parts : (nat_le 1 seat ≡ true) × (nat_le seat s.routers ≡ true) = and_parts (nat_le 1 seat) (nat_le seat s.routers) router in
    range_below ((seat - 1) * (max_connections / s.routers)) (max_connections / s.routers) max_connections (router_slots seat s.routers (leb-true 1 seat parts.0) (leb-true seat s.routers parts.1)))
    (λ _. tt)

-- ## Names

abbrev one_if_owned : Queue → ℕ
one_if_owned [] = 0
one_if_owned (owner ∷ waiting) = 1

abbrev one_if_in : ℕ → Queue → ℕ
one_if_in c queue = cond (is_in c queue) 1 0

pub record NameBounds (names : List OwnedName) : Type 0 where
  pub owned : sum_by (OfQueue one_if_owned) names ≤ max_names
  pub queued : sum_by (OfQueue length) names ≤ max_queued
  pub of_one : (c : ℕ) → sum_by (OfQueue (one_if_in c)) names ≤ max_names_of_one

owned_without-le : (c : ℕ) (queue : Queue) → one_if_owned (without c queue) ≤ one_if_owned queue
owned_without-le c [] = omega arith
owned_without-le c (owner ∷ waiting) = at_most_one (without c (owner ∷ waiting))
  where
    at_most_one : (q : Queue) → one_if_owned q ≤ 1
    at_most_one [] = omega arith
    at_most_one (o ∷ os) = omega arith

-- a queue that c stands in only if it stood in another
in-le : (c : ℕ) (queue other : Queue) → (is_in c queue ≡ false → is_in c other ≡ false) → one_if_in c other ≤ one_if_in c queue
in-le c queue other absent =
    cond_both (is_in c queue) 1 0 (λ n. one_if_in c other ≤ n) (λ _. cond_both (is_in c other) 1 0 (λ n. n ≤ 1) (λ _. omega arith) (λ _. omega arith))
    (λ none. cond_both (is_in c other) 1 0 (λ n. n ≤ 0) (λ there. absurd (true≢false (sym there ∙ absent none))) (λ _. omega arith))

bounds_without : (c : ℕ) (names : List OwnedName) → NameBounds names → NameBounds (names_without c names)
bounds_without c names h =
    let owned : sum_by (OfQueue one_if_owned) (names_without c names) ≤ sum_by (OfQueue one_if_owned) names = names_without_sum one_if_owned refl c (owned_without-le c) names in
    let queued : sum_by (OfQueue length) (names_without c names) ≤ sum_by (OfQueue length) names = names_without_sum length refl c (length-without c) names in
    record {
      owned = omega (arith, h.owned);
      queued = omega (arith, h.queued);
      of_one = λ d. let fewer = names_without_sum (one_if_in d) refl c (λ queue. in-le d queue (without c queue) (absent-without d c queue)) names in omega (arith, h.of_one d, fewer);
    }

bounds_released : (c : ℕ) (name : Text) (queue : Queue) (names : List OwnedName) → queue ≡ without c (queue_of names name) → NameBounds names → NameBounds (with_queue name queue names)
bounds_released c name queue names e h =
    let before : Queue = queue_of names name in
    let owned : sum_by (OfQueue one_if_owned) (with_queue name queue names) ≤ sum_by (OfQueue one_if_owned) names = with_queue_sum one_if_owned refl name queue names (subst (λ q. one_if_owned q ≤ one_if_owned before) (sym e) (owned_without-le c before)) in
    let queued : sum_by (OfQueue length) (with_queue name queue names) ≤ sum_by (OfQueue length) names = with_queue_sum length refl name queue names (subst (λ q. length q ≤ length before) (sym e) (length-without c before)) in
    record {
      owned = omega (arith, h.owned);
      queued = omega (arith, h.queued);
      of_one = λ d. let fewer = with_queue_sum (one_if_in d) refl name queue names (subst (λ q. one_if_in d q ≤ one_if_in d before) (sym e) (in-le d before (without c before) (absent-without d c before))) in omega (arith, h.of_one d, fewer);
    }

-- a request lets nobody else in
absent_all : (d : ℕ) (queue : Queue) → is_in d queue ≡ false → list_all (λ o. not (nat_eq o.connection d)) queue ≡ true
absent_all d [] h = refl
absent_all d (o ∷ os) h =
    let parts : (nat_eq o.connection d ≡ false) × (is_in d os ≡ false) = or_parts (nat_eq o.connection d) (is_in d os) h in
    and_from (not (nat_eq o.connection d)) (list_all (λ o. not (nat_eq o.connection d)) os) (not_from_false (nat_eq o.connection d) parts.0) (absent_all d os parts.1)

all_absent : (d : ℕ) (queue : Queue) → list_all (λ o. not (nat_eq o.connection d)) queue ≡ true → is_in d queue ≡ false
all_absent d [] h = refl
all_absent d (o ∷ os) h =
    let parts : (not (nat_eq o.connection d) ≡ true) × (list_all (λ o. not (nat_eq o.connection d)) os ≡ true) = and_parts (not (nat_eq o.connection d)) (list_all (λ o. not (nat_eq o.connection d)) os) h in
    or_from (nat_eq o.connection d) (is_in d os) (not-true (nat_eq o.connection d) parts.0) (all_absent d os parts.1)

requested_in-le : (profile : Profile) (c d : ℕ) (flags : RequestFlags) (queue : Queue) → nat_eq c d ≡ false → one_if_in d (requested profile c flags queue).0 ≤ one_if_in d queue
requested_in-le profile c d flags queue other =
    let test : QueuedOwner → Bool = λ o. not (nat_eq o.connection d) in
    in-le d queue (requested profile c flags queue).0
    (λ absent. all_absent d (requested profile c flags queue).0 (requests_add test profile c flags queue (and_from (not (nat_eq c d)) (list_all test queue) (not_from_false (nat_eq c d) other) (absent_all d queue absent))))

owned_sum-le : (names : List OwnedName) → sum_by (OfQueue one_if_owned) names ≤ length names
owned_sum-le [] = omega arith
owned_sum-le (n ∷ ns) =
    let rest : sum_by (OfQueue one_if_owned) ns ≤ length ns = owned_sum-le ns in
    let whole : sum_by (OfQueue one_if_owned) (n ∷ ns) ≡ one_if_owned n.queue + sum_by (OfQueue one_if_owned) ns = sum_by-cons (OfQueue one_if_owned) n ns in
    let one : one_if_owned n.queue ≤ 1 = at_most_one n.queue in
    omega arith
  where
    at_most_one : (q : Queue) → one_if_owned q ≤ 1
    at_most_one [] = omega arith
    at_most_one (o ∷ os) = omega arith

bounds_requested : (s : BusState) (c : ℕ) (name : Text) (flags : RequestFlags) → NameBounds s.names → is_within_names (with_owned s name (requested s.profile c flags (queue_of s.names name)).0) c ≡ true → NameBounds (with_queue name (requested s.profile c flags (queue_of s.names name)).0 s.names)
bounds_requested s c name flags h within =
    let before : Queue = queue_of s.names name in
    let queue : Queue = (requested s.profile c flags before).0 in
    let names : List OwnedName = with_queue name queue s.names in
    let front : ((nat_le (length names) max_names && nat_le (queued_in names) max_queued) ≡ true) × (nat_le (names_of c names) max_names_of_one ≡ true) = and_parts (nat_le (length names) max_names && nat_le (queued_in names) max_queued) (nat_le (names_of c names) max_names_of_one) within in
    let parts : (nat_le (length names) max_names ≡ true) × (nat_le (queued_in names) max_queued ≡ true) = and_parts (nat_le (length names) max_names) (nat_le (queued_in names) max_queued) front.0 in
    let few : length names ≤ max_names = leb-true (length names) max_names parts.0 in
    let fewer : sum_by (OfQueue one_if_owned) names ≤ length names = owned_sum-le names in
    record {
      owned = omega arith;
      queued = leb-true (queued_in names) max_queued parts.1;
      of_one = λ d. elim (cases_Bool (nat_eq c d)) [
        | inl same ↦ subst (λ e. names_of e names ≤ max_names_of_one) (eqb-true c d same) (leb-true (names_of c names) max_names_of_one front.1)
        | inr other ↦ let less = with_queue_sum (one_if_in d) refl name queue s.names (requested_in-le s.profile c d flags before other) in omega (arith, h.of_one d, less)
      ];
    }

-- ## Rules

pub record RuleBounds (rules : List OwnedRule) : Type 0 where
  pub all : length rules ≤ max_rules
  pub of_one : (c : ℕ) → count_of c rules ≤ max_rules_of_one

abbrev one_if_of : ℕ → OwnedRule → ℕ
one_if_of c r = cond (nat_eq r.connection c) 1 0

-- a list whose sums are no greater
fewer_rules : (rules fewer : List OwnedRule) → ((f : OwnedRule → ℕ) → sum_by f fewer ≤ sum_by f rules) → RuleBounds rules → RuleBounds fewer
fewer_rules rules fewer less h = record {
  all = omega (arith, length_sum rules, length_sum fewer, less (λ r. 1), h.all);
  of_one = λ c. omega (arith, less (one_if_of c), h.of_one c);
}

without_first_sum : (f : OwnedRule → ℕ) (test : OwnedRule → Bool) (rules : List OwnedRule) → sum_by f (without_first test rules) ≤ sum_by f rules
without_first_sum f test [] = omega arith
without_first_sum f test (r ∷ rs) =
    let rest : sum_by f (without_first test rs) ≤ sum_by f rs = without_first_sum f test rs in
    let whole : sum_by f (r ∷ rs) ≡ f r + sum_by f rs = sum_by-cons f r rs in
    cond_both (test r) rs (r ∷ without_first test rs) (λ q. sum_by f q ≤ sum_by f (r ∷ rs)) (λ _. omega arith) (λ _. omega (arith, sum_by-cons f r (without_first test rs)))

one_rule_more : (s : BusState) (c : ℕ) (rule : Rule) → RuleBounds s.rules → is_within_rules (with_rule s c rule) c ≡ true → RuleBounds (with_rule s c rule).rules
one_rule_more s c rule h within =
    let new : OwnedRule = record { connection = c; rule = rule } in
    let parts : (nat_le (length (s.rules ++ new ∷ [])) max_rules ≡ true) × (nat_le (count_of c (s.rules ++ new ∷ [])) max_rules_of_one ≡ true) = and_parts (nat_le (length (s.rules ++ new ∷ [])) max_rules) (nat_le (count_of c (s.rules ++ new ∷ [])) max_rules_of_one) within in
    record {
      all = leb-true (length (s.rules ++ new ∷ [])) max_rules parts.0;
      of_one = λ d. elim (cases_Bool (nat_eq c d)) [
        | inl same ↦ subst (λ e. count_of e (s.rules ++ new ∷ []) ≤ max_rules_of_one) (eqb-true c d same) (leb-true (count_of c (s.rules ++ new ∷ [])) max_rules_of_one parts.1)
        | inr other ↦
            let none : one_if_of d new ≡ 0 = cond-false (nat_eq c d) 1 0 other in
            let last : sum_by (one_if_of d) (new ∷ []) ≡ 0 + one_if_of d new = refl in
            let whole : count_of d (s.rules ++ new ∷ []) ≡ count_of d s.rules + sum_by (one_if_of d) (new ∷ []) = sum_by-append (one_if_of d) s.rules (new ∷ []) in
            omega (arith, h.of_one d)
      ];
    }

-- ## The state

pub record Bounds (s : BusState) : Type 0 where
  pub slots : Each (λ c. c.slot < max_connections) s.connections
  pub names : NameBounds s.names
  pub rules : RuleBounds s.rules
  pub tickets : tickets_in s.starts ≤ max_tickets
  pub next_number : s.next_number ≤ max_number + 1
  pub next_ticket : s.next_ticket ≤ max_number + 1
  pub next_start : s.next_start ≤ max_number + 1

one_more : (n m : ℕ) → n ≤ m → n + 1 ≤ m + 1
one_more n m h = omega arith

lower_sum : (a b limit : ℕ) → a ≤ b → b ≤ limit → a ≤ limit
lower_sum a b limit h k = omega arith

room_parts : (s : BusState) (name : Text) → has_room_for_ticket s name ≡ true → (tickets_in s.starts < max_tickets) × (s.next_ticket ≤ max_number) × ((is_some (start_of s name) || nat_le s.next_start max_number) ≡ true)
room_parts s name room =
    let front : ((nat_lt (tickets_in s.starts) max_tickets && nat_le s.next_ticket max_number) ≡ true) × ((is_some (start_of s name) || nat_le s.next_start max_number) ≡ true) = and_parts (nat_lt (tickets_in s.starts) max_tickets && nat_le s.next_ticket max_number) (is_some (start_of s name) || nat_le s.next_start max_number) room in
    let parts : (nat_lt (tickets_in s.starts) max_tickets ≡ true) × (nat_le s.next_ticket max_number ≡ true) = and_parts (nat_lt (tickets_in s.starts) max_tickets) (nat_le s.next_ticket max_number) front.0 in
    (ltb-true (tickets_in s.starts) max_tickets parts.0, leb-true s.next_ticket max_number parts.1, front.1)

start_numbered : (s : BusState) (o : Option RunningStart) → o ≡ None → (is_some o || nat_le s.next_start max_number) ≡ true → s.next_start ≤ max_number
start_numbered s None e room = leb-true s.next_start max_number room
start_numbered s (Some r) e room = cc

bounds_after : (s : BusState) → IsConsistent s → Bounds s → (seat : ℕ) (change : Change) → Bounds (step s seat change).0
bounds_after s h b seat change =
    step_cases s Bounds
    (record {
      same = b;
      hello = λ c seat numbered within free. record {
        slots = each_push (λ d. d.slot < max_connections) s.connections c b.slots (found_having (λ slot. slot < max_connections) (λ slot. not (is_taken s slot)) (slots_of s seat) c.slot free (slots_below s seat));
        names = b.names;
        rules = b.rules;
        tickets = b.tickets;
        next_number = one_more s.next_number max_number (ltb-false max_number s.next_number within);
        next_ticket = b.next_ticket;
        next_start = b.next_start;
      };
      leave = λ c. record {
        slots = each_filter (λ d. d.slot < max_connections) (λ d. not (nat_eq d.number c)) s.connections b.slots;
        names = bounds_without c s.names b.names;
        rules = fewer_rules s.rules (rules_without c s.rules) (λ f. filter_sum f (λ r. not (nat_eq r.connection c)) s.rules) b.rules;
        tickets = b.tickets;
        next_number = b.next_number;
        next_ticket = b.next_ticket;
        next_start = b.next_start;
      };
      request = λ c name flags client free within. record {
        slots = b.slots;
        names = bounds_requested s c name flags b.names within;
        rules = b.rules;
        tickets = lower_sum (tickets_in (filter (λ r. not (text_eq r.name name)) s.starts)) (tickets_in s.starts) max_tickets (filter_sum (λ r. length r.tickets) (λ r. not (text_eq r.name name)) s.starts) b.tickets;
        next_number = b.next_number;
        next_ticket = b.next_ticket;
        next_start = b.next_start;
      };
      release = λ c name free. record {
        slots = b.slots;
        names = bounds_released c name (released c (queue_of s.names name)).0 s.names (releases_take c (queue_of s.names name) (queue_is s h name)).1 b.names;
        rules = b.rules;
        tickets = b.tickets;
        next_number = b.next_number;
        next_ticket = b.next_ticket;
        next_start = b.next_start;
      };
      add_match = λ c rule client within. record {
        slots = b.slots;
        names = b.names;
        rules = one_rule_more s c rule b.rules within;
        tickets = b.tickets;
        next_number = b.next_number;
        next_ticket = b.next_ticket;
        next_start = b.next_start;
      };
      remove_match = λ test. record {
        slots = b.slots;
        names = b.names;
        rules = fewer_rules s.rules (without_first test s.rules) (λ f. without_first_sum f test s.rules) b.rules;
        tickets = b.tickets;
        next_number = b.next_number;
        next_ticket = b.next_ticket;
        next_start = b.next_start;
      };
      monitor = λ c rules. record {
        slots = each_map (λ d. d.slot < max_connections) (λ d. d.slot < max_connections) (monitor_if c rules) (λ d below. cond_both (nat_eq d.number c) (record d { monitor = Some rules }) d (λ e. e.slot < max_connections) (λ _. below) (λ _. below)) s.connections b.slots;
        names = bounds_without c s.names b.names;
        rules = fewer_rules s.rules (rules_without c s.rules) (λ f. filter_sum f (λ r. not (nat_eq r.connection c)) s.rules) b.rules;
        tickets = b.tickets;
        next_number = b.next_number;
        next_ticket = b.next_ticket;
        next_start = b.next_start;
      };
      first_ticket = λ name headless none room.
          let parts = room_parts s name room in
          let new : RunningStart = record { name = name; number = s.next_start; tickets = s.next_ticket ∷ [] } in
          let one : tickets_in (new ∷ []) ≡ 1 = refl in
          let whole : tickets_in (s.starts ++ new ∷ []) ≡ tickets_in s.starts + tickets_in (new ∷ []) = sum_by-append (λ r. length r.tickets) s.starts (new ∷ []) in
          record {
            slots = b.slots;
            names = b.names;
            rules = b.rules;
            tickets = omega (arith, parts.0);
            next_number = b.next_number;
            next_ticket = one_more s.next_ticket max_number parts.1;
            next_start = one_more s.next_start max_number (start_numbered s (start_of s name) none parts.2);
          };
      later_ticket = λ name room.
          let parts = room_parts s name room in
          record {
            slots = b.slots;
            names = b.names;
            rules = b.rules;
            tickets = omega (arith, parts.0, one_ticket_more name s.next_ticket s.starts h.start_names_differ);
            next_number = b.next_number;
            next_ticket = one_more s.next_ticket max_number parts.1;
            next_start = b.next_start;
          };
      failed = λ test. record {
        slots = b.slots;
        names = b.names;
        rules = b.rules;
        tickets = lower_sum (tickets_in (filter test s.starts)) (tickets_in s.starts) max_tickets (filter_sum (λ r. length r.tickets) test s.starts) b.tickets;
        next_number = b.next_number;
        next_ticket = b.next_ticket;
        next_start = b.next_start;
      };
    }) seat change

-- every name that is there has an owner
names_owned_sum : (connections : List Connection) (names : List OwnedName) → Each (IsOwned connections) names → sum_by (OfQueue one_if_owned) names ≡ length names
names_owned_sum connections [] h = refl
names_owned_sum connections (n ∷ ns) h =
    let rest : sum_by (OfQueue one_if_owned) ns ≡ length ns = names_owned_sum connections ns h.1 in
    let whole : sum_by (OfQueue one_if_owned) (n ∷ ns) ≡ one_if_owned n.queue + sum_by (OfQueue one_if_owned) ns = sum_by-cons (OfQueue one_if_owned) n ns in
    let one : one_if_owned n.queue ≡ 1 = owned_is_one n.queue h.0.owned in
    omega arith
  where
    owned_is_one : (queue : Queue) → IsSome (queue_head queue) → one_if_owned queue ≡ 1
    owned_is_one [] owned = absurd (true≢false (sym owned))
    owned_is_one (o ∷ os) owned = refl

limits_from : (s : BusState) → IsConsistent s → Bounds s → IsWithinLimits s
limits_from s h b = record {
  slots = b.slots;
  connections = few_slots max_connections s.connections h.slots_differ b.slots;
  names = subst (λ n. n ≤ max_names) (names_owned_sum s.connections s.names h.names_owned) b.names.owned;
  queued = b.names.queued;
  names_of_one = b.names.of_one;
  rules = b.rules.all;
  rules_of_one = b.rules.of_one;
  tickets = b.tickets;
  next_number = b.next_number;
  next_ticket = b.next_ticket;
  next_start = b.next_start;
}

bounds_from : (s : BusState) → IsConsistent s → IsWithinLimits s → Bounds s
bounds_from s h l = record {
  slots = l.slots;
  names = record { owned = subst (λ n. n ≤ max_names) (sym (names_owned_sum s.connections s.names h.names_owned)) l.names; queued = l.queued; of_one = l.names_of_one };
  rules = record { all = l.rules; of_one = l.rules_of_one };
  tickets = l.tickets;
  next_number = l.next_number;
  next_ticket = l.next_ticket;
  next_start = l.next_start;
}

pub steps_keep_limits : StepsKeepLimits
steps_keep_limits s seat change h l = limits_from (step s seat change).0 (steps_keep_consistency s seat change h) (bounds_after s h (bounds_from s h l) seat change)

histories_keep_limits : (s : BusState) (history : History) → IsConsistent s → IsWithinLimits s → IsWithinLimits (after s history)
histories_keep_limits s [] h l = l
histories_keep_limits s (e ∷ es) h l = histories_keep_limits (step s e.seat e.change).0 es (steps_keep_consistency s e.seat e.change h) (steps_keep_limits s e.seat e.change h l)

pub buses_are_within_limits : BusesAreWithinLimits
buses_are_within_limits profile routers services history =
    histories_keep_limits (opening profile routers services) history (buses_are_consistent profile routers services [])
    (record {
      slots = tt;
      connections = omega arith;
      names = omega arith;
      queued = omega arith;
      names_of_one = λ c. omega arith;
      rules = omega arith;
      rules_of_one = λ c. omega arith;
      tickets = omega arith;
      next_number = omega arith;
      next_ticket = omega arith;
      next_start = omega arith;
    })
