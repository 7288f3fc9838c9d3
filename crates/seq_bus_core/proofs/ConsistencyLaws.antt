-- Every step leaves a consistent state consistent.
use Rattle.std.proofs.Common.{◌≡◌, ◌≢◌, ℕ, ◌+◌, ◌<◌, nat_eq, Bool, true, false, not, ◌||◌, Some, None, List, [], ◌∷◌, ◌++◌, map, refl, sym, ap, ◌∙◌, subst, arith}
use Rattle.std.specs.List.{AllByRecursion as Each, filter, list_all, list_any}
use Rattle.std.proofs.lemmas.Bool.{and_from, cond_both, eqb-false, false_from_ne_true, ne_eqb, not-true, or_from, true≢false}
use Rattle.std.proofs.lemmas.List.Folds.{list_any-append}
use Rattle.names.specs.Texts.{Text, text_eq}
use Rattle.match_rules.specs.Rules.{Rule}
use Rattle.match_rules.specs.OwnedRules.{OwnedRule, rules_without, without_first}
use Rattle.owner_queues.specs.Queues.{Queue, IsQueue, requested, released}
use Rattle.owner_queues.specs.declared.owner.QueuedOwner.{QueuedOwner}
use Rattle.owner_queues.specs.declared.request.RequestFlags.{RequestFlags}
use Rattle.owner_queues.proofs.QueueLemmas.{all-without}
use Rattle.owner_queues.proofs.QueueLaws.{requests_keep, requests_add, releases_take}
use Rattle.seq_bus_core.specs.BusState.{BusState, Connection, OwnedName, RunningStart, is_client, queue_of, with_queue, start_of}
use Rattle.seq_bus_core.specs.Steps.{is_reserved, is_taken, with_connection, without_connection, with_owned, monitor_if, with_monitor, waiting_if, wait_with_start, step}
use Rattle.seq_bus_core.specs.Histories.{History, opening, after}
use Rattle.seq_bus_core.specs.Consistency.{IsGiven, IsOwned, IsRunning, ShareNoTicket, IsConsistent}
use Rattle.seq_bus_core.specs.Laws.{StepsKeepConsistency, BusesAreConsistent}
use Rattle.seq_bus_core.proofs.Lists.{each_both, pairs_with, pairs_both, each_weaker, each_push, each_filter, each_passing, each_map, pairs_filter, pairs_push, pairs_map, any_none, find_none, all_weaker}
use Rattle.seq_bus_core.proofs.TextLemmas.{text_eq-true, text_eq-swapped}
use Rattle.seq_bus_core.proofs.NameLemmas.{each_kept, each_with_queue, with_queue_rises, each_without, names_without_rises, owned_without}
use Rattle.seq_bus_core.proofs.ClientLemmas.{client_after_hello, client_after_leave, client_after_monitor}
use Rattle.seq_bus_core.proofs.OwnedLemmas.{queue_of_each, queue_of_unowned, unowned_without_head}
use Rattle.seq_bus_core.proofs.StepCases.{free_is_free, step_cases}

-- ## Connections that come and go

after_hello : (s : BusState) → IsConsistent s → (c : Connection) → c.number ≡ s.next_number → is_taken s c.slot ≡ false → IsConsistent (with_connection s c)
after_hello s h c numbered free = record {
  next_not_bus = omega arith;
  connections_given =
      each_push (IsGiven (s.next_number + 1)) s.connections c (each_weaker (IsGiven s.next_number) (IsGiven (s.next_number + 1)) (λ d g. record { not_bus = g.not_bus; given = omega arith }) s.connections h.connections_given)
      (record { not_bus = omega (arith, h.next_not_bus); given = omega arith });
  connections_rise =
      pairs_push (λ a b. a.number < b.number) s.connections c h.connections_rise (each_weaker (IsGiven s.next_number) (λ a. a.number < c.number) (λ d g. omega arith) s.connections h.connections_given);
  slots_differ =
      pairs_push (λ a b. a.slot ≢ b.slot) s.connections c h.slots_differ
      (each_weaker (λ d. nat_eq d.slot c.slot ≡ false) (λ d. d.slot ≢ c.slot) (λ d differ. eqb-false d.slot c.slot differ) s.connections (any_none (λ d. nat_eq d.slot c.slot) s.connections free));
  names_owned =
      each_weaker (IsOwned s.connections) (IsOwned (s.connections ++ c ∷ []))
      (λ n o. record {
        ownable = o.ownable;
        owned = o.owned;
        once = o.once;
        clients = all_weaker (λ q. is_client s.connections q.connection) (λ q. is_client (s.connections ++ c ∷ []) q.connection) (λ q is. client_after_hello s.connections c q.connection is) n.queue o.clients;
      }) s.names h.names_owned;
  names_rise = h.names_rise;
  rules_of_clients =
      each_weaker (λ r. is_client s.connections r.connection ≡ true) (λ r. is_client (s.connections ++ c ∷ []) r.connection ≡ true) (λ r is. client_after_hello s.connections c r.connection is) s.rules h.rules_of_clients;
  starts_running = h.starts_running;
  starts_rise = h.starts_rise;
  start_names_differ = h.start_names_differ;
  tickets_differ = h.tickets_differ;
}

-- what a connection gives up when it leaves or becomes a monitor
rules_of_others : (c : ℕ) (before after : List Connection) → ((m : ℕ) → nat_eq m c ≡ false → is_client before m ≡ true → is_client after m ≡ true) → (rules : List OwnedRule) → Each (λ r. is_client before r.connection ≡ true) rules → Each (λ r. is_client after r.connection ≡ true) (rules_without c rules)
rules_of_others c before after stay rules h =
    each_passing (λ r. is_client before r.connection ≡ true) (λ r. is_client after r.connection ≡ true) (λ r. not (nat_eq r.connection c))
    (λ r is keeps. stay r.connection (not-true (nat_eq r.connection c) keeps) is) rules h

starts_of_others : (s : BusState) → IsConsistent s → (c : ℕ) → Each (IsRunning (without_connection s c).names s.next_start s.next_ticket) s.starts
starts_of_others s h c =
    each_weaker (IsRunning s.names s.next_start s.next_ticket) (IsRunning (without_connection s c).names s.next_start s.next_ticket)
    (λ r g. record {
      given = g.given;
      unowned = each_without (λ n. text_eq n.name r.name ≡ false) (λ n. text_eq n.name r.name ≡ false) c (λ n differ _ _ _. differ) s.names g.unowned;
      waited = g.waited;
      tickets_given = g.tickets_given;
      tickets_rise = g.tickets_rise;
    }) s.starts h.starts_running

after_leave : (s : BusState) → IsConsistent s → (c : ℕ) → IsConsistent (without_connection s c)
after_leave s h c = record {
  next_not_bus = h.next_not_bus;
  connections_given = each_filter (IsGiven s.next_number) (λ d. not (nat_eq d.number c)) s.connections h.connections_given;
  connections_rise = pairs_filter (λ a b. a.number < b.number) (λ d. not (nat_eq d.number c)) s.connections h.connections_rise;
  slots_differ = pairs_filter (λ a b. a.slot ≢ b.slot) (λ d. not (nat_eq d.number c)) s.connections h.slots_differ;
  names_owned = owned_without c s.connections (filter (λ d. not (nat_eq d.number c)) s.connections) (client_after_leave s.connections c) s.names h.names_owned;
  names_rise = names_without_rises c s.names h.names_rise;
  rules_of_clients = rules_of_others c s.connections (filter (λ d. not (nat_eq d.number c)) s.connections) (client_after_leave s.connections c) s.rules h.rules_of_clients;
  starts_running = starts_of_others s h c;
  starts_rise = h.starts_rise;
  start_names_differ = h.start_names_differ;
  tickets_differ = h.tickets_differ;
}

-- a monitor keeps its number and its slot
monitor_keeps : (P : ℕ → ℕ → Type 0) (c : ℕ) (rules : List Rule) (d : Connection) → P d.number d.slot → P (monitor_if c rules d).number (monitor_if c rules d).slot
monitor_keeps P c rules d h = cond_both (nat_eq d.number c) (record d { monitor = Some rules }) d (λ e. P e.number e.slot) (λ _. h) (λ _. h)

after_monitor : (s : BusState) → IsConsistent s → (c : ℕ) (rules : List Rule) → IsConsistent (with_monitor s c rules)
after_monitor s h c rules = record {
  next_not_bus = h.next_not_bus;
  connections_given =
      each_map (IsGiven s.next_number) (IsGiven s.next_number) (monitor_if c rules)
      (λ d g. record { not_bus = monitor_keeps (λ n _. 0 < n) c rules d g.not_bus; given = monitor_keeps (λ n _. n < s.next_number) c rules d g.given }) s.connections h.connections_given;
  connections_rise =
      pairs_map (λ a b. a.number < b.number) (λ a b. a.number < b.number) (monitor_if c rules)
      (λ a b lower. monitor_keeps (λ n _. n < (monitor_if c rules b).number) c rules a (monitor_keeps (λ n _. a.number < n) c rules b lower)) s.connections h.connections_rise;
  slots_differ =
      pairs_map (λ a b. a.slot ≢ b.slot) (λ a b. a.slot ≢ b.slot) (monitor_if c rules)
      (λ a b differ. monitor_keeps (λ _ slot. slot ≢ (monitor_if c rules b).slot) c rules a (monitor_keeps (λ _ slot. a.slot ≢ slot) c rules b differ)) s.connections h.slots_differ;
  names_owned = owned_without c s.connections (map (monitor_if c rules) s.connections) (client_after_monitor s.connections c rules) s.names h.names_owned;
  names_rise = names_without_rises c s.names h.names_rise;
  rules_of_clients = rules_of_others c s.connections (map (monitor_if c rules) s.connections) (client_after_monitor s.connections c rules) s.rules h.rules_of_clients;
  starts_running = starts_of_others s h c;
  starts_rise = h.starts_rise;
  start_names_differ = h.start_names_differ;
  tickets_differ = h.tickets_differ;
}

-- ## Names

-- the names once one of them has another queue
names_with : (s : BusState) → IsConsistent s → (name : Text) (queue : Queue) → is_reserved name ≡ false → IsQueue queue → list_all (λ q. is_client s.connections q.connection) queue ≡ true → Each (IsOwned s.connections) (with_queue name queue s.names)
names_with s h name queue free once clients =
    each_with_queue (IsOwned s.connections) name queue s.names h.names_owned
    (each_kept (IsOwned s.connections) name queue
    (λ owner waiting e. record { ownable = free; owned = refl; once = subst IsQueue e once; clients = subst (λ q. list_all (λ p. is_client s.connections p.connection) q ≡ true) e clients }))

pub queue_is : (s : BusState) → IsConsistent s → (name : Text) → IsQueue (queue_of s.names name)
queue_is s h name = queue_of_each IsQueue tt s.names name (each_weaker (IsOwned s.connections) (λ n. IsQueue n.queue) (λ n o. o.once) s.names h.names_owned)

queue_clients : (s : BusState) → IsConsistent s → (name : Text) → list_all (λ q. is_client s.connections q.connection) (queue_of s.names name) ≡ true
queue_clients s h name =
    queue_of_each (λ queue. list_all (λ q. is_client s.connections q.connection) queue ≡ true) refl s.names name
    (each_weaker (IsOwned s.connections) (λ n. list_all (λ q. is_client s.connections q.connection) n.queue ≡ true) (λ n o. o.clients) s.names h.names_owned)

after_request :
    (s : BusState) → IsConsistent s → (c : ℕ) (name : Text) (flags : RequestFlags) → is_client s.connections c ≡ true → is_reserved name ≡ false →
    IsConsistent (with_owned s name (requested s.profile c flags (queue_of s.names name)).0)
after_request s h c name flags client free =
    let queue : Queue = (requested s.profile c flags (queue_of s.names name)).0 in
    let test : QueuedOwner → Bool = λ q. is_client s.connections q.connection in
    record {
      next_not_bus = h.next_not_bus;
      connections_given = h.connections_given;
      connections_rise = h.connections_rise;
      slots_differ = h.slots_differ;
      names_owned =
          names_with s h name queue free (requests_keep s.profile c flags (queue_of s.names name) (queue_is s h name))
          (requests_add test s.profile c flags (queue_of s.names name) (and_from (is_client s.connections c) (list_all test (queue_of s.names name)) client (queue_clients s h name)));
      names_rise = with_queue_rises name queue s.names h.names_rise;
      rules_of_clients = h.rules_of_clients;
      starts_running =
          each_passing (IsRunning s.names s.next_start s.next_ticket) (IsRunning (with_queue name queue s.names) s.next_start s.next_ticket) (λ r. not (text_eq r.name name))
          (λ r g keeps. record {
            given = g.given;
            unowned =
                each_with_queue (λ n. text_eq n.name r.name ≡ false) name queue s.names g.unowned
                (each_kept (λ n. text_eq n.name r.name ≡ false) name queue (λ _ _ _. text_eq-swapped r.name name (not-true (text_eq r.name name) keeps)));
            waited = g.waited;
            tickets_given = g.tickets_given;
            tickets_rise = g.tickets_rise;
          }) s.starts h.starts_running;
      starts_rise = pairs_filter (λ a b. a.number < b.number) (λ r. not (text_eq r.name name)) s.starts h.starts_rise;
      start_names_differ = pairs_filter (λ a b. text_eq a.name b.name ≡ false) (λ r. not (text_eq r.name name)) s.starts h.start_names_differ;
      tickets_differ = pairs_filter ShareNoTicket (λ r. not (text_eq r.name name)) s.starts h.tickets_differ;
    }

-- a name that nobody owns has no owner after a release
released_unowned : (names : List OwnedName) (c : ℕ) (name other : Text) → Each (λ n. text_eq n.name other ≡ false) names → (owner : QueuedOwner) (waiting : Queue) → (released c (queue_of names name)).0 ≡ owner ∷ waiting → text_eq name other ≡ false
released_unowned names c name other unowned owner waiting e =
    false_from_ne_true (text_eq name other)
    (λ same. let empty : queue_of names name ≡ [] = ap (queue_of names) (text_eq-true name other same) ∙ queue_of_unowned names other unowned in
    nil_is_not_cons (sym (ap (λ q. (released c q).0) empty) ∙ e))
  where
    nil_is_not_cons : ◌≡◌ {A = Queue} [] (owner ∷ waiting) → ⊥
    nil_is_not_cons f = cc

after_release : (s : BusState) → IsConsistent s → (c : ℕ) (name : Text) → is_reserved name ≡ false → IsConsistent (record s { names = with_queue name (released c (queue_of s.names name)).0 s.names })
after_release s h c name free =
    let queue : Queue = (released c (queue_of s.names name)).0 in
    let test : QueuedOwner → Bool = λ q. is_client s.connections q.connection in
    let taken = releases_take c (queue_of s.names name) (queue_is s h name) in
    record {
      next_not_bus = h.next_not_bus;
      connections_given = h.connections_given;
      connections_rise = h.connections_rise;
      slots_differ = h.slots_differ;
      names_owned = names_with s h name queue free taken.0 (ap (list_all test) taken.1 ∙ all-without test c (queue_of s.names name) (queue_clients s h name));
      names_rise = with_queue_rises name queue s.names h.names_rise;
      rules_of_clients = h.rules_of_clients;
      starts_running =
          each_weaker (IsRunning s.names s.next_start s.next_ticket) (IsRunning (with_queue name queue s.names) s.next_start s.next_ticket)
          (λ r g. record {
            given = g.given;
            unowned =
                each_with_queue (λ n. text_eq n.name r.name ≡ false) name queue s.names g.unowned
                (each_kept (λ n. text_eq n.name r.name ≡ false) name queue (λ owner waiting e. released_unowned s.names c name r.name g.unowned owner waiting e));
            waited = g.waited;
            tickets_given = g.tickets_given;
            tickets_rise = g.tickets_rise;
          }) s.starts h.starts_running;
      starts_rise = h.starts_rise;
      start_names_differ = h.start_names_differ;
      tickets_differ = h.tickets_differ;
    }

-- ## Rules

each_without_first : (P : OwnedRule → Type 0) (test : OwnedRule → Bool) (rules : List OwnedRule) → Each P rules → Each P (without_first test rules)
each_without_first P test [] h = tt
each_without_first P test (r ∷ rs) h = cond_both (test r) rs (r ∷ without_first test rs) (Each P) (λ _. h.1) (λ _. (h.0, each_without_first P test rs h.1))

with_rules : (s : BusState) → IsConsistent s → (rules : List OwnedRule) → Each (λ r. is_client s.connections r.connection ≡ true) rules → IsConsistent (record s { rules = rules })
with_rules s h rules clients = record {
  next_not_bus = h.next_not_bus;
  connections_given = h.connections_given;
  connections_rise = h.connections_rise;
  slots_differ = h.slots_differ;
  names_owned = h.names_owned;
  names_rise = h.names_rise;
  rules_of_clients = clients;
  starts_running = h.starts_running;
  starts_rise = h.starts_rise;
  start_names_differ = h.start_names_differ;
  tickets_differ = h.tickets_differ;
}

-- ## Starts

-- a number that was given is not the next one
not_lower : (t next : ℕ) → t < next → nat_eq next t ≡ false
not_lower t next lower = ne_eqb next t (λ same. above_itself same)
  where
    above_itself : next ≡ t → ⊥
    above_itself same = omega arith

none_of_later : (next : ℕ) (tickets : List ℕ) → Each (λ t. t < next) tickets → list_any (λ u. nat_eq u next) tickets ≡ false
none_of_later next [] h = refl
none_of_later next (t ∷ ts) h = or_from (nat_eq t next) (list_any (λ u. nat_eq u next) ts) (ne_eqb t next (λ same. absurd (omega (arith, h.0, same)))) (none_of_later next ts h.1)

-- Two starts of which at most one gets the next ticket share none.
still_apart :
    (name : Text) (next : ℕ) (a b : RunningStart) → text_eq a.name b.name ≡ false → Each (λ t. t < next) a.tickets → Each (λ t. t < next) b.tickets → ShareNoTicket a b →
    ShareNoTicket (waiting_if name next a) (waiting_if name next b)
still_apart name next a b differ below lower apart =
    cond_both (text_eq a.name name) (record a { tickets = a.tickets ++ next ∷ [] }) a (λ c. ShareNoTicket c (waiting_if name next b))
    (λ gets.
    let e : a.name ≡ name = text_eq-true a.name name gets in
    let other : text_eq b.name name ≡ false = text_eq-swapped name b.name (ap (λ t. text_eq t b.name) (sym e) ∙ differ) in
    cond_both (text_eq b.name name) (record b { tickets = b.tickets ++ next ∷ [] }) b (λ d. Each (λ t. list_any (λ u. nat_eq u t) d.tickets ≡ false) (a.tickets ++ next ∷ []))
    (λ both. absurd (true≢false (sym both ∙ other)))
    (λ _. each_push (λ t. list_any (λ u. nat_eq u t) b.tickets ≡ false) a.tickets next apart (none_of_later next b.tickets lower)))
    (λ _.
    cond_both (text_eq b.name name) (record b { tickets = b.tickets ++ next ∷ [] }) b (λ d. Each (λ t. list_any (λ u. nat_eq u t) d.tickets ≡ false) a.tickets)
    (λ _. each_both (λ t. t < next) (λ t. list_any (λ u. nat_eq u t) b.tickets ≡ false) (λ t. list_any (λ u. nat_eq u t) (b.tickets ++ next ∷ []) ≡ false)
    (λ t low absent. list_any-append (λ u. nat_eq u t) b.tickets (next ∷ []) ∙ or_from (list_any (λ u. nat_eq u t) b.tickets) (nat_eq next t || false) absent (or_from (nat_eq next t) false (not_lower t next low) refl)) a.tickets below apart)
    (λ _. apart))

first_ticket : (s : BusState) → IsConsistent s → (name : Text) → Each (λ n. text_eq n.name name ≡ false) s.names → start_of s name ≡ None → IsConsistent (wait_with_start s name None).0
first_ticket s h name unowned none =
    let new : RunningStart = record { name = name; number = s.next_start; tickets = s.next_ticket ∷ [] } in
    record {
      next_not_bus = h.next_not_bus;
      connections_given = h.connections_given;
      connections_rise = h.connections_rise;
      slots_differ = h.slots_differ;
      names_owned = h.names_owned;
      names_rise = h.names_rise;
      rules_of_clients = h.rules_of_clients;
      starts_running =
          each_push (IsRunning s.names (s.next_start + 1) (s.next_ticket + 1)) s.starts new
          (each_weaker (IsRunning s.names s.next_start s.next_ticket) (IsRunning s.names (s.next_start + 1) (s.next_ticket + 1))
          (λ r g. record {
            given = omega (arith, g.given);
            unowned = g.unowned;
            waited = g.waited;
            tickets_given = each_weaker (λ t. t < s.next_ticket) (λ t. t < s.next_ticket + 1) (λ t lower. omega arith) r.tickets g.tickets_given;
            tickets_rise = g.tickets_rise;
          }) s.starts h.starts_running)
          (record { given = omega arith; unowned = unowned; waited = λ e. cc e; tickets_given = (omega arith, tt); tickets_rise = (tt, tt) });
      starts_rise =
          pairs_push (λ a b. a.number < b.number) s.starts new h.starts_rise (each_weaker (IsRunning s.names s.next_start s.next_ticket) (λ r. r.number < s.next_start) (λ r g. g.given) s.starts h.starts_running);
      start_names_differ = pairs_push (λ a b. text_eq a.name b.name ≡ false) s.starts new h.start_names_differ (find_none (λ r. text_eq r.name name) s.starts none);
      tickets_differ =
          pairs_push ShareNoTicket s.starts new h.tickets_differ
          (each_weaker (IsRunning s.names s.next_start s.next_ticket) (λ r. ShareNoTicket r new)
          (λ r g. each_weaker (λ t. t < s.next_ticket) (λ t. list_any (λ u. nat_eq u t) (s.next_ticket ∷ []) ≡ false) (λ t lower. or_from (nat_eq s.next_ticket t) false (not_lower t s.next_ticket lower) refl) r.tickets g.tickets_given) s.starts h.starts_running);
    }

-- a ticket more leaves a start its name and its number
waiting_keeps : (P : Text → ℕ → Type 0) (name : Text) (ticket : ℕ) (r : RunningStart) → P r.name r.number → P (waiting_if name ticket r).name (waiting_if name ticket r).number
waiting_keeps P name ticket r h = cond_both (text_eq r.name name) (record r { tickets = r.tickets ++ ticket ∷ [] }) r (λ q. P q.name q.number) (λ _. h) (λ _. h)

one_more_waits : (tickets : List ℕ) (ticket : ℕ) → tickets ++ ticket ∷ [] ≢ []
one_more_waits [] ticket e = cc e
one_more_waits (t ∷ ts) ticket e = cc e

still_running : (s : BusState) (name : Text) (r : RunningStart) → IsRunning s.names s.next_start s.next_ticket r → IsRunning s.names s.next_start (s.next_ticket + 1) (waiting_if name s.next_ticket r)
still_running s name r g =
    let given : Each (λ t. t < s.next_ticket + 1) r.tickets = each_weaker (λ t. t < s.next_ticket) (λ t. t < s.next_ticket + 1) (λ t lower. omega arith) r.tickets g.tickets_given in
    cond_both (text_eq r.name name) (record r { tickets = r.tickets ++ s.next_ticket ∷ [] }) r (IsRunning s.names s.next_start (s.next_ticket + 1))
    (λ _. record {
      given = g.given;
      unowned = g.unowned;
      waited = one_more_waits r.tickets s.next_ticket;
      tickets_given = each_push (λ t. t < s.next_ticket + 1) r.tickets s.next_ticket given (omega arith);
      tickets_rise = pairs_push (λ t u. t < u) r.tickets s.next_ticket g.tickets_rise g.tickets_given;
    })
    (λ _. record { given = g.given; unowned = g.unowned; waited = g.waited; tickets_given = given; tickets_rise = g.tickets_rise })

later_ticket : (s : BusState) → IsConsistent s → (name : Text) → IsConsistent (record s { starts = map (waiting_if name s.next_ticket) s.starts; next_ticket = s.next_ticket + 1 })
later_ticket s h name =
    let f : RunningStart → RunningStart = waiting_if name s.next_ticket in
    record {
      next_not_bus = h.next_not_bus;
      connections_given = h.connections_given;
      connections_rise = h.connections_rise;
      slots_differ = h.slots_differ;
      names_owned = h.names_owned;
      names_rise = h.names_rise;
      rules_of_clients = h.rules_of_clients;
      starts_running = each_map (IsRunning s.names s.next_start s.next_ticket) (IsRunning s.names s.next_start (s.next_ticket + 1)) f (still_running s name) s.starts h.starts_running;
      starts_rise =
          pairs_map (λ a b. a.number < b.number) (λ a b. a.number < b.number) f
          (λ a b lower. waiting_keeps (λ _ n. n < (f b).number) name s.next_ticket a (waiting_keeps (λ _ n. a.number < n) name s.next_ticket b lower)) s.starts h.starts_rise;
      start_names_differ =
          pairs_map (λ a b. text_eq a.name b.name ≡ false) (λ a b. text_eq a.name b.name ≡ false) f
          (λ a b differ. waiting_keeps (λ t _. text_eq t (f b).name ≡ false) name s.next_ticket a (waiting_keeps (λ t _. text_eq a.name t ≡ false) name s.next_ticket b differ)) s.starts h.start_names_differ;
      tickets_differ =
          pairs_map (λ a b. ShareNoTicket (f a) (f b)) ShareNoTicket f (λ a b apart. apart) s.starts
          (pairs_with (IsRunning s.names s.next_start s.next_ticket) (λ a b. (text_eq a.name b.name ≡ false) × ShareNoTicket a b) (λ a b. ShareNoTicket (f a) (f b))
          (λ a b g k both. still_apart name s.next_ticket a b both.0 g.tickets_given k.tickets_given both.1) s.starts h.starts_running
          (pairs_both (λ a b. text_eq a.name b.name ≡ false) ShareNoTicket s.starts h.start_names_differ h.tickets_differ));
    }

failed_start : (s : BusState) → IsConsistent s → (test : RunningStart → Bool) → IsConsistent (record s { starts = filter test s.starts })
failed_start s h test = record {
  next_not_bus = h.next_not_bus;
  connections_given = h.connections_given;
  connections_rise = h.connections_rise;
  slots_differ = h.slots_differ;
  names_owned = h.names_owned;
  names_rise = h.names_rise;
  rules_of_clients = h.rules_of_clients;
  starts_running = each_filter (IsRunning s.names s.next_start s.next_ticket) test s.starts h.starts_running;
  starts_rise = pairs_filter (λ a b. a.number < b.number) test s.starts h.starts_rise;
  start_names_differ = pairs_filter (λ a b. text_eq a.name b.name ≡ false) test s.starts h.start_names_differ;
  tickets_differ = pairs_filter ShareNoTicket test s.starts h.tickets_differ;
}

-- ## Steps

pub steps_keep_consistency : StepsKeepConsistency
steps_keep_consistency s seat change h =
    step_cases s IsConsistent
    (record {
      same = h;
      hello = λ c seat numbered _ free. after_hello s h c numbered (free_is_free s seat c.slot free);
      leave = after_leave s h;
      request = λ c name flags client free _. after_request s h c name flags client free;
      release = after_release s h;
      add_match = λ c rule client _. with_rules s h (s.rules ++ record { connection = c; rule = rule } ∷ []) (each_push (λ r. is_client s.connections r.connection ≡ true) s.rules (record { connection = c; rule = rule }) h.rules_of_clients client);
      remove_match = λ test. with_rules s h (without_first test s.rules) (each_without_first (λ r. is_client s.connections r.connection ≡ true) test s.rules h.rules_of_clients);
      monitor = after_monitor s h;
      first_ticket = λ name headless none _. first_ticket s h name (unowned_without_head s name h headless) none;
      later_ticket = λ name _. later_ticket s h name;
      failed = failed_start s h;
    }) seat change

histories_keep_consistency : (s : BusState) (history : History) → IsConsistent s → IsConsistent (after s history)
histories_keep_consistency s [] h = h
histories_keep_consistency s (e ∷ es) h = histories_keep_consistency (step s e.seat e.change).0 es (steps_keep_consistency s e.seat e.change h)

pub buses_are_consistent : BusesAreConsistent
buses_are_consistent profile routers services history =
    histories_keep_consistency (opening profile routers services) history
    (record {
      next_not_bus = omega arith;
      connections_given = tt;
      connections_rise = tt;
      slots_differ = tt;
      names_owned = tt;
      names_rise = tt;
      rules_of_clients = tt;
      starts_running = tt;
      starts_rise = tt;
      start_names_differ = tt;
      tickets_differ = tt;
    })
