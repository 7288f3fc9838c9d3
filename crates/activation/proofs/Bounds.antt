-- A change settles no more tickets than can wait, and brings no more signals than the names of one connection can.
use Rattle.std.proofs.Common.{◌≡◌, ℕ, ◌+◌, ◌*◌, ◌≤◌, ◌==◌, suc, Bool, true, ◌||◌, cond, Option, Some, None, List, [], ◌∷◌, ◌++◌, map, length, sym, ap, subst, arith}
use Rattle.std.specs.List.{find, cons_option, flat_map}
use Rattle.std.specs.Prelude.{option_map}
use Rattle.std.proofs.lemmas.Bool.{cond_both, true≢false}
use Rattle.std.proofs.lemmas.List.{length-append, length-map}
use Rattle.std.proofs.lemmas.List.Sums.{sum_by-cons, sum_by-append}
use Rattle.names.specs.Texts.{Text, text_eq}
use Rattle.names.specs.UniqueName.{unique_text}
use Rattle.owner_queues.specs.Queues.{Queue, is_in, queue_head, released, requested}
use Rattle.seq_bus_core.specs.BusState.{BusState, OwnedName, RunningStart, is_monitor, names_of, queue_of, tickets_in, with_queue}
use Rattle.seq_bus_core.specs.Bounds.{IsBounded}
use Rattle.seq_bus_core.specs.Consistency.{IsWithinLimits}
use Rattle.seq_bus_core.specs.Steps.{acquired, addressed, is_owner, lost, names_owned, next_owner, owner_signals, settled, signals_of_leave, signals_of_monitor, is_run, step, with_connection, with_monitor, with_owned, without_connection}
use Rattle.seq_bus_core.specs.declared.signal.BusSignal.{BusSignal}
use Rattle.seq_bus_core.specs.declared.signal.BusSignal.TheVariants.{NameOwnerChanged}
use Rattle.seq_bus_core.specs.Tickets.{WholeBus, bus_step, settled_tickets}
use Rattle.seq_bus_core.specs.declared.change.Change.{Change}
use Rattle.seq_bus_core.specs.declared.ticket.Fate.{Fate}
use Rattle.seq_bus_core.specs.declared.ticket.Fate.TheVariants.{Served, Failed}
use Rattle.seq_bus_core.specs.declared.ticket.SettledNumber.{SettledNumber}
use Rattle.seq_bus_core.specs.declared.ticket.Ticket.{Ticket}
use Rattle.seq_bus_core.proofs.StepCases.{outcome_cases}

-- the tickets of a start are among all that wait
few_found : (fate : Fate) (test : RunningStart → Bool) (starts : List RunningStart) → length (settled fate (find test starts)) ≤ tickets_in starts
few_found fate test [] = omega arith
few_found fate test (r ∷ starts) =
    let all : tickets_in (r ∷ starts) ≡ tickets_in (r ∷ []) + tickets_in starts = sum_by-append (λ (q : RunningStart). length q.tickets) (r ∷ []) starts in
    let told : length (settled fate (Some r)) ≡ length r.tickets = length-map r.tickets (λ (n : ℕ). record { fate = fate; number = n }) in
    cond_both (test r) (Some r) (find test starts) (λ o. length (settled fate o) ≤ tickets_in (r ∷ starts))
    (λ _. omega (arith, all, told)) (λ _. omega (arith, all, few_found fate test starts))

few_of : (fate : Fate) (test : RunningStart → Bool) (starts : List RunningStart) (o : Option RunningStart) → find test starts ≡ o → length (settled fate o) ≤ tickets_in starts
few_of fate test starts o found = subst (λ (o : Option RunningStart). length (settled fate o) ≤ tickets_in starts) found (few_found fate test starts)

few_told : (s : BusState) (seat : ℕ) (change : Change) → IsWithinLimits s → length (step s seat change).1.tickets ≤ 512
few_told s seat change limits =
    outcome_cases s (λ r. length r.1.tickets ≤ 512) seat change
    (record {
      same = λ _. omega arith;
      hello = λ _ _ _ _ _. omega arith;
      leave = λ _ _. omega arith;
      request = λ _ name _ _ _ _. omega (arith, few_found Served (λ r. text_eq r.name name) s.starts, limits.tickets);
      release = λ _ _ _. omega arith;
      add_match = λ _ _ _ _. omega arith;
      remove_match = λ _. omega arith;
      monitor = λ _ _. omega arith;
      first_ticket = λ _ _ _ _ _ _ _. omega arith;
      later_ticket = λ _ _ _ _ _ _ _. omega arith;
      failed = λ name number r found. omega (arith, few_of Failed (is_run name number) s.starts (Some r) found, limits.tickets);
    })

one_more : {X : Type 0} (o : Option X) (xs : List X) (n : ℕ) → length xs ≤ n → length (cons_option o xs) ≤ suc n
one_more None xs n few = omega arith
one_more (Some x) xs n few = omega arith

-- with what they carry they are no more
no_more : (waiting : List Ticket) (numbers : List SettledNumber) → length (settled_tickets waiting numbers) ≤ length numbers
no_more waiting [] = omega arith
no_more waiting (n ∷ numbers) =
    one_more (option_map (λ t. record { fate = n.fate; ticket = t }) (find (λ (t : Ticket). t.number == n.number) waiting)) (settled_tickets waiting numbers) (length numbers) (no_more waiting numbers)

-- ## Signals

few_lost : (name : Text) (owner : Option ℕ) → length (lost name owner) ≤ 1
few_lost name None = omega arith
few_lost name (Some n) = omega arith

few_acquired : (name : Text) (owner : Option ℕ) → length (acquired name owner) ≤ 1
few_acquired name None = omega arith
few_acquired name (Some n) = omega arith

-- of a name that goes from one owner to another
few_of_owners : (name : Text) (old new : Option ℕ) → length (owner_signals name old new) ≤ 3
few_of_owners name old new =
    let told = lost name old ++ NameOwnerChanged name old new ∷ acquired name new in
    let long : length told ≡ length (lost name old) + length (NameOwnerChanged name old new ∷ acquired name new) = length-append (lost name old) (NameOwnerChanged name old new ∷ acquired name new) in
    cond_both (is_owner old new) [] told (λ signals. length signals ≤ 3) (λ _. omega arith) (λ _. omega (arith, long, few_lost name old, few_acquired name new))

-- for each of several names
few_of_each : (f : OwnedName → List BusSignal) → ((n : OwnedName) → length (f n) ≤ 3) → (names : List OwnedName) → length (flat_map f names) ≤ 3 * length names
few_of_each f few [] = omega arith
few_of_each f few (n ∷ names) = omega (arith, length-append (f n) (flat_map f names), few n, few_of_each f few names)

-- Who owns a name stands in its queue.
owner_in : (number : ℕ) (queue : Queue) → is_owner (queue_head queue) (Some number) ≡ true → is_in number queue ≡ true
owner_in number [] owns = absurd (true≢false (sym owns))
owner_in number (owner ∷ waiting) owns = ap (λ (b : Bool). b || is_in number waiting) owns

abbrev one_if : Bool → ℕ
one_if b = cond b 1 0

few_owned : (number : ℕ) (names : List OwnedName) → length (names_owned number names) ≤ names_of number names
few_owned number [] = omega arith
few_owned number (n ∷ names) =
    let rest : length (names_owned number names) ≤ names_of number names = few_owned number names in
    let counted : names_of number (n ∷ names) ≡ one_if (is_in number n.queue) + names_of number names = sum_by-cons (λ (m : OwnedName). one_if (is_in number m.queue)) n names in
    cond_both (is_owner (queue_head n.queue) (Some number)) (n ∷ names_owned number names) (names_owned number names) (λ ns. length ns ≤ names_of number (n ∷ names))
    (λ owns. let one : one_if (is_in number n.queue) ≡ 1 = ap one_if (owner_in number n.queue owns) in omega (arith, counted, one, rest))
    (λ _. omega (arith, counted, rest))

-- a connection that leaves, with all its names
few_left : (s : BusState) (number : ℕ) → IsWithinLimits s → length (signals_of_leave s number) ≤ 194
few_left s number limits =
    let of_name : OwnedName → List BusSignal = λ n. NameOwnerChanged n.name (Some number) (next_owner number n) ∷ acquired n.name (next_owner number n) in
    let owned : List OwnedName = names_owned number s.names in
    let named = few_of_each of_name (λ n. omega (arith, few_acquired n.name (next_owner number n))) owned in
    omega (arith, length-append (flat_map of_name owned) (NameOwnerChanged (unique_text number) (Some number) None ∷ []), named, few_owned number s.names, limits.names_of_one number)

-- one that becomes a monitor
few_given_up : (s : BusState) (number : ℕ) → IsWithinLimits s → length (signals_of_monitor s number) ≤ 194
few_given_up s number limits =
    let of_name : OwnedName → List BusSignal = λ n. owner_signals n.name (Some number) (next_owner number n) in
    let owned : List OwnedName = names_owned number s.names in
    let named = few_of_each of_name (λ n. few_of_owners n.name (Some number) (next_owner number n)) owned in
    omega (arith, length-append (flat_map of_name owned) (owner_signals (unique_text number) (Some number) None), named, few_owned number s.names, limits.names_of_one number)

few_addressed : (s : BusState) (signals : List BusSignal) → length signals ≤ 194 → length (map (addressed s) signals) ≤ 194
few_addressed s signals few = omega (arith, length-map signals (addressed s), few)

few_owners : (s : BusState) (name : Text) (old new : Option ℕ) → length (map (addressed s) (owner_signals name old new)) ≤ 194
few_owners s name old new = few_addressed s (owner_signals name old new) (omega (arith, few_of_owners name old new))

few_signals : (s : BusState) (seat : ℕ) (change : Change) → IsWithinLimits s → length (step s seat change).1.signals ≤ 194
few_signals s seat change limits =
    outcome_cases s (λ r. length r.1.signals ≤ 194) seat change
    (record {
      same = λ _. omega arith;
      hello = λ c _ _ _ _. few_owners (with_connection s c) (unique_text c.number) None (Some c.number);
      leave = λ number c. few_addressed (without_connection s number) (cond (is_monitor c) [] (signals_of_leave s number))
          (cond_both (is_monitor c) [] (signals_of_leave s number) (λ signals. length signals ≤ 194) (λ _. omega arith) (λ _. few_left s number limits));
      request = λ number name flags _ _ _. let queue = (requested s.profile number flags (queue_of s.names name)).0 in
          few_owners (with_owned s name queue) name (queue_head (queue_of s.names name)) (queue_head queue);
      release = λ number name _. let queue = (released number (queue_of s.names name)).0 in
          few_owners (record s { names = with_queue name queue s.names }) name (queue_head (queue_of s.names name)) (queue_head queue);
      add_match = λ _ _ _ _. omega arith;
      remove_match = λ _. omega arith;
      monitor = λ number rules. few_addressed (with_monitor s number rules) (signals_of_monitor s number) (few_given_up s number limits);
      first_ticket = λ _ _ _ _ _ _ _. omega arith;
      later_ticket = λ _ _ _ _ _ _ _. omega arith;
      failed = λ _ _ _ _. omega arith;
    })

pub bounded : (b : WholeBus) (seat : ℕ) (change : Change) → IsWithinLimits b.state → IsBounded (bus_step b seat change).1
bounded b seat change limits = record {
  tickets = omega (arith, no_more b.waiting (step b.state seat change).1.tickets, few_told b.state seat change limits);
  signals = few_signals b.state seat change limits;
}
