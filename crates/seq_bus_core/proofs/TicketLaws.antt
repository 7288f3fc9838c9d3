-- What tickets carry is there until they are settled.
use Rattle.std.proofs.Common.{◌≡◌, ℕ, nat_eq, Bool, true, false, not, Option, Some, None, List, [], ◌∷◌, ◌++◌, map, refl, sym, ap, ◌∙◌, subst}
use Rattle.std.specs.Prelude.{option_map, find}
use Rattle.std.specs.List.{AllByRecursion as Each, filter, cons_option, list_any}
use Rattle.std.proofs.lemmas.Bool.{cond_both, true≢false, eqb-true, eqb-false, eq-eqb, ne_eqb, not-true, not_from_false, or_left}
use Rattle.names.specs.Texts.{text_eq}
use Rattle.seq_bus_core.specs.BusState.{BusState, Connection, RunningStart, connection_of, is_client, start_of}
use Rattle.seq_bus_core.specs.Steps.{settled, waiting_if, is_run, step}
use Rattle.seq_bus_core.specs.Histories.{History}
use Rattle.seq_bus_core.specs.Tickets.{WholeBus, opening_bus, ticket_from, new_ticket, settled_tickets, still_waiting, bus_step, bus_after}
use Rattle.seq_bus_core.specs.Consistency.{Pairwise, ShareNoTicket, IsConsistent}
use Rattle.seq_bus_core.specs.Laws.{is_waiting, IsWhole, BusesAreWhole, SettledTicketsAreTold}
use Rattle.seq_bus_core.specs.declared.change.CallHead.{CallHead}
use Rattle.seq_bus_core.specs.declared.change.Change.{Change}
use Rattle.seq_bus_core.specs.declared.change.Change.TheVariants.{Hello, Leave, Request, Release, AddMatch, RemoveMatch, BecomeMonitor, Start, Hold, ChildEnded, StartTimedOut}
use Rattle.seq_bus_core.specs.declared.outcome.Reply.TheVariants.{Held}
use Rattle.seq_bus_core.specs.declared.ticket.Fate.{Fate}
use Rattle.seq_bus_core.specs.declared.ticket.Fate.TheVariants.{Served, Failed}
use Rattle.seq_bus_core.specs.declared.ticket.SettledNumber.{SettledNumber}
use Rattle.seq_bus_core.specs.declared.ticket.SettledTicket.{SettledTicket}
use Rattle.seq_bus_core.specs.declared.ticket.Ticket.{Ticket}
use Rattle.seq_bus_core.proofs.Lists.{each_weaker, each_both, each_append, each_push, each_filter, each_passing, each_map, each_swap, any_none, none_any, any_passing, any_append, any_append_right, found_having, find_passes, any_finds}
use Rattle.seq_bus_core.proofs.OwnedLemmas.{client_is_connection}
use Rattle.seq_bus_core.proofs.StepCases.{Waits, outcome_cases}
use Rattle.seq_bus_core.proofs.ConsistencyLaws.{steps_keep_consistency, buses_are_consistent}

abbrev Carried : List Ticket → List RunningStart → Type 0
Carried waiting starts = Each (λ r. Each (λ t. is_waiting waiting t ≡ true) r.tickets) starts

carried_on : (waiting later : List Ticket) → ((t : ℕ) → is_waiting waiting t ≡ true → is_waiting later t ≡ true) → (starts : List RunningStart) → Carried waiting starts → Carried later starts
carried_on waiting later stays starts h =
    each_weaker (λ r. Each (λ t. is_waiting waiting t ≡ true) r.tickets) (λ r. Each (λ t. is_waiting later t ≡ true) r.tickets)
    (λ r k. each_weaker (λ t. is_waiting waiting t ≡ true) (λ t. is_waiting later t ≡ true) stays r.tickets k) starts h

-- a ticket that is not settled waits on
waits_on : (numbers : List SettledNumber) (waiting more : List Ticket) (t : ℕ) → list_any (λ n. nat_eq n.number t) numbers ≡ false → is_waiting waiting t ≡ true → is_waiting (still_waiting numbers waiting ++ more) t ≡ true
waits_on numbers waiting more t absent h =
    any_append (λ k. nat_eq k.number t) (still_waiting numbers waiting) more
    (any_passing (λ k. nat_eq k.number t) (λ k. not (list_any (λ n. nat_eq n.number k.number) numbers))
    (λ k same. not_from_false (list_any (λ n. nat_eq n.number k.number) numbers) (ap (λ m. list_any (λ n. nat_eq n.number m) numbers) (eqb-true k.number t same) ∙ absent)) waiting h)

-- ## Starts share no ticket

share_none_back : (a b : RunningStart) → ShareNoTicket a b → ShareNoTicket b a
share_none_back a b h =
    each_weaker (λ u. Each (λ t. nat_eq u t ≡ false) a.tickets) (λ u. list_any (λ t. nat_eq t u) a.tickets ≡ false)
    (λ u differ. none_any (λ t. nat_eq t u) a.tickets (each_weaker (λ t. nat_eq u t ≡ false) (λ t. nat_eq t u ≡ false) (λ t e. ne_eqb t u (λ same. eqb-false u t e (sym same))) a.tickets differ)) b.tickets
    (each_swap (λ t u. nat_eq u t ≡ false) a.tickets b.tickets
    (each_weaker (λ t. list_any (λ u. nat_eq u t) b.tickets ≡ false) (λ t. Each (λ u. nat_eq u t ≡ false) b.tickets) (λ t none. any_none (λ u. nat_eq u t) b.tickets none) a.tickets h))

-- the start that a search finds shares no ticket with those that fail its test
apart_from_found :
    (test : RunningStart → Bool) (starts : List RunningStart) (r : RunningStart) → Pairwise ShareNoTicket starts → find test starts ≡ Some r →
    Each (λ q. test q ≡ false → ShareNoTicket q r) starts
apart_from_found test [] r h e = tt
apart_from_found test (x ∷ xs) r h e =
    cond_both (test x) (Some x) (find test xs) (λ o. o ≡ Some r → Each (λ q. test q ≡ false → ShareNoTicket q r) (x ∷ xs))
    (λ passes found. let same : x ≡ r = cc in
    ((λ fails. absurd (true≢false (sym passes ∙ fails))), each_weaker (ShareNoTicket x) (λ q. test q ≡ false → ShareNoTicket q r) (λ q apart _. subst (ShareNoTicket q) same (share_none_back x q apart)) xs h.0))
    (λ _ found. ((λ _. found_having (ShareNoTicket x) test xs r found h.0), apart_from_found test xs r h.1 found)) e

-- ## What a change settles

settled_none : (fate : Fate) (tickets : List ℕ) (t : ℕ) → list_any (λ u. nat_eq u t) tickets ≡ false → list_any (λ (n : SettledNumber). nat_eq n.number t) (map (λ number. record { fate = fate; number = number }) tickets) ≡ false
settled_none fate tickets t absent =
    none_any (λ (n : SettledNumber). nat_eq n.number t) (map (λ number. record { fate = fate; number = number }) tickets)
    (each_map (λ u. nat_eq u t ≡ false) (λ (n : SettledNumber). nat_eq n.number t ≡ false) (λ number. record { fate = fate; number = number }) (λ u differ. differ) tickets (any_none (λ u. nat_eq u t) tickets absent))

-- the starts that are left, once that of a search is settled
carried_after :
    (s : BusState) → IsConsistent s → (waiting more : List Ticket) → Carried waiting s.starts → (fate : Fate) (test : RunningStart → Bool) (o : Option RunningStart) → find test s.starts ≡ o →
    Carried (still_waiting (settled fate o) waiting ++ more) (filter (λ q. not (test q)) s.starts)
carried_after s h waiting more carried fate test None e =
    carried_on waiting (still_waiting [] waiting ++ more) (λ t is. waits_on [] waiting more t refl is) (filter (λ q. not (test q)) s.starts)
    (each_filter (λ r. Each (λ t. is_waiting waiting t ≡ true) r.tickets) (λ q. not (test q)) s.starts carried)
carried_after s h waiting more carried fate test (Some r) e =
    let numbers : List SettledNumber = settled fate (Some r) in
    each_passing (λ q. Each (λ t. is_waiting waiting t ≡ true) q.tickets × (test q ≡ false → ShareNoTicket q r)) (λ q. Each (λ t. is_waiting (still_waiting numbers waiting ++ more) t ≡ true) q.tickets) (λ q. not (test q))
    (λ q both keeps.
    each_both (λ t. is_waiting waiting t ≡ true) (λ t. list_any (λ u. nat_eq u t) r.tickets ≡ false) (λ t. is_waiting (still_waiting numbers waiting ++ more) t ≡ true)
    (λ t is absent. waits_on numbers waiting more t (settled_none fate r.tickets t absent) is) q.tickets both.0 (both.1 (not-true (test q) keeps))) s.starts
    (each_both (λ q. Each (λ t. is_waiting waiting t ≡ true) q.tickets) (λ q. test q ≡ false → ShareNoTicket q r) (λ q. Each (λ t. is_waiting waiting t ≡ true) q.tickets × (test q ≡ false → ShareNoTicket q r)) (λ q a b. (a, b)) s.starts carried
    (apart_from_found test s.starts r h.tickets_differ e))

settled_carried : (waiting : List Ticket) (starts : List RunningStart) → Carried waiting starts → (fate : Fate) (test : RunningStart → Bool) (o : Option RunningStart) → find test starts ≡ o → Each (λ n. is_waiting waiting n.number ≡ true) (settled fate o)
settled_carried waiting starts carried fate test None e = tt
settled_carried waiting starts carried fate test (Some r) e =
    each_map (λ t. is_waiting waiting t ≡ true) (λ (n : SettledNumber). is_waiting waiting n.number ≡ true) (λ number. record { fate = fate; number = number }) (λ t is. is) r.tickets
    (found_having (λ q. Each (λ t. is_waiting waiting t ≡ true) q.tickets) test starts r e carried)

-- ## New tickets

made_ticket : (number : ℕ) (call : CallHead) (message : Option (List ℕ)) (o : Option Connection) (caller : Connection) → o ≡ Some caller → is_waiting (ticket_from number call message o) number ≡ true
made_ticket number call message None caller e = cc
made_ticket number call message (Some c) caller e = or_left (nat_eq number number) false (eq-eqb number number refl)

new_ticket_waits : (s : BusState) (change : Change) (c : ℕ) (number : ℕ) → is_client s.connections c ≡ true → Waits change c → is_waiting (new_ticket s change (Held number)) number ≡ true
new_ticket_waits s (Start d name call) c number client waits =
    let found = client_is_connection s.connections d (ap (is_client s.connections) waits ∙ client) in made_ticket number call None (connection_of s d) found.0 found.1
new_ticket_waits s (Hold d name call message) c number client waits =
    let found = client_is_connection s.connections d (ap (is_client s.connections) waits ∙ client) in made_ticket number call (Some message) (connection_of s d) found.0 found.1
new_ticket_waits s (Hello privileged) c number client waits = absurd waits
new_ticket_waits s (Leave d) c number client waits = absurd waits
new_ticket_waits s (Request d name flags) c number client waits = absurd waits
new_ticket_waits s (Release d name) c number client waits = absurd waits
new_ticket_waits s (AddMatch d rule) c number client waits = absurd waits
new_ticket_waits s (RemoveMatch d rule) c number client waits = absurd waits
new_ticket_waits s (BecomeMonitor d rules) c number client waits = absurd waits
new_ticket_waits s (ChildEnded name start how) c number client waits = absurd waits
new_ticket_waits s (StartTimedOut name start) c number client waits = absurd waits

-- ## Steps

carried_step : (b : WholeBus) → IsWhole b → (seat : ℕ) (change : Change) → Carried (bus_step b seat change).0.waiting (bus_step b seat change).0.state.starts
carried_step b w seat change =
    let s : BusState = b.state in
    outcome_cases s (λ r. Carried (still_waiting r.1.tickets b.waiting ++ new_ticket s change r.1.reply) r.0.starts) seat change
    (record {
      same = λ reply. quiet (new_ticket s change reply);
      hello = λ c seat _ _ _. quiet (new_ticket s change _);
      leave = λ number c. quiet (new_ticket s change _);
      request = λ number name flags _ _ _. carried_after s w.consistent b.waiting (new_ticket s change _) w.carried Served (λ r. text_eq r.name name) (start_of s name) refl;
      release = λ number name _. quiet (new_ticket s change _);
      add_match = λ number rule _ _. quiet (new_ticket s change _);
      remove_match = λ test. quiet (new_ticket s change _);
      monitor = λ number rules. quiet (new_ticket s change _);
      first_ticket = λ c client waits name _ _ _.
          let more : List Ticket = new_ticket s change (Held s.next_ticket) in
          each_append (λ r. Each (λ t. is_waiting (still_waiting [] b.waiting ++ more) t ≡ true) r.tickets) s.starts (record { name = name; number = s.next_start; tickets = s.next_ticket ∷ [] } ∷ []) (quiet more)
          ((any_append_right (λ k. nat_eq k.number s.next_ticket) (still_waiting [] b.waiting) more (new_ticket_waits s change c s.next_ticket client waits), tt), tt);
      later_ticket = λ c client waits name r _ _.
          let more : List Ticket = new_ticket s change (Held s.next_ticket) in
          let later : List Ticket = still_waiting [] b.waiting ++ more in
          each_map (λ q. Each (λ t. is_waiting later t ≡ true) q.tickets) (λ q. Each (λ t. is_waiting later t ≡ true) q.tickets) (waiting_if name s.next_ticket)
          (λ q is. cond_both (text_eq q.name name) (record q { tickets = q.tickets ++ s.next_ticket ∷ [] }) q (λ p. Each (λ t. is_waiting later t ≡ true) p.tickets)
          (λ _. each_push (λ t. is_waiting later t ≡ true) q.tickets s.next_ticket is (any_append_right (λ k. nat_eq k.number s.next_ticket) (still_waiting [] b.waiting) more (new_ticket_waits s change c s.next_ticket client waits))) (λ _. is)) s.starts (quiet more);
      failed = λ name number r e. carried_after s w.consistent b.waiting (new_ticket s change _) w.carried Failed (is_run name number) (Some r) e;
    })
  where
    quiet : (more : List Ticket) → Carried (still_waiting [] b.waiting ++ more) b.state.starts
    quiet more = carried_on b.waiting (still_waiting [] b.waiting ++ more) (λ t is. waits_on [] b.waiting more t refl is) b.state.starts w.carried

pub steps_keep_whole : (b : WholeBus) → IsWhole b → (seat : ℕ) (change : Change) → IsWhole (bus_step b seat change).0
steps_keep_whole b w seat change = record { consistent = steps_keep_consistency b.state seat change w.consistent; carried = carried_step b w seat change }

histories_keep_whole : (b : WholeBus) (history : History) → IsWhole b → IsWhole (bus_after b history)
histories_keep_whole b [] w = w
histories_keep_whole b (e ∷ es) w = histories_keep_whole (bus_step b e.seat e.change).0 es (steps_keep_whole b w e.seat e.change)

pub buses_are_whole : BusesAreWhole
buses_are_whole profile routers services history = histories_keep_whole (opening_bus profile routers services) history (record { consistent = buses_are_consistent profile routers services []; carried = tt })

-- ## Outcomes

abbrev number_of : SettledTicket → SettledNumber
number_of t = record { fate = t.fate; number = t.ticket.number }

told_again : (waiting : List Ticket) (numbers : List SettledNumber) → Each (λ n. is_waiting waiting n.number ≡ true) numbers → map number_of (settled_tickets waiting numbers) ≡ numbers
told_again waiting [] h = refl
told_again waiting (n ∷ ns) h =
    let test : Ticket → Bool = λ t. nat_eq t.number n.number in
    let found : (t : Ticket) × (find test waiting ≡ Some t) = any_finds test waiting h.0 in
    let same : found.0.number ≡ n.number = eqb-true found.0.number n.number (find_passes test waiting found.0 found.1) in
    ap (λ o. map number_of (cons_option (option_map (settled_as n.fate) o) (settled_tickets waiting ns))) found.1
    ∙ (λ i. record { fate = n.fate; number = same i } ∷ told_again waiting ns h.1 i)
  where
    settled_as : Fate → Ticket → SettledTicket
    settled_as fate t = record { fate = fate; ticket = t }

pub settled_tickets_are_told : SettledTicketsAreTold
settled_tickets_are_told b seat change w =
    let s : BusState = b.state in
    told_again b.waiting (step s seat change).1.tickets
    (outcome_cases s (λ r. Each (λ n. is_waiting b.waiting n.number ≡ true) r.1.tickets) seat change
    (record {
      same = λ _. tt;
      hello = λ _ _ _ _ _. tt;
      leave = λ _ _. tt;
      request = λ number name _ _ _ _. settled_carried b.waiting s.starts w.carried Served (λ r. text_eq r.name name) (start_of s name) refl;
      release = λ _ _ _. tt;
      add_match = λ _ _ _ _. tt;
      remove_match = λ _. tt;
      monitor = λ _ _. tt;
      first_ticket = λ _ _ _ _ _ _ _. tt;
      later_ticket = λ _ _ _ _ _ _ _. tt;
      failed = λ name number r e. settled_carried b.waiting s.starts w.carried Failed (is_run name number) (Some r) e;
    }))
