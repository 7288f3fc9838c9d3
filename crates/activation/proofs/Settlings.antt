-- How the calls that a bus holds follow its steps.
use Rattle.std.proofs.Common.{◌≡◌, ◌≢◌, ℕ, ◌+◌, ◌<◌, ◌≤◌, nat_eq, Bool, true, false, not, ◌||◌, ◌&&◌, Option, Some, None, is_some, List, [], ◌∷◌, ◌++◌, length, map, refl, sym, ap, ◌∙◌, arith}
use Rattle.std.specs.List.{AllByRecursion as Each, filter, find, list_any}
use Rattle.std.specs.Prelude.{nat_lt, nat_le}
use Rattle.std.proofs.lemmas.Bool.{cond_both, true≢false, not-true, and_parts, ne_eqb, ltb-true}
use Rattle.std.proofs.lemmas.List.{map-append, length-map}
use mathlib.Core.List.{append-nil}
use Rattle.names.specs.Texts.{Text, text_eq}
use Rattle.activation.specs.Holding.{Waiting, waits_for, waiting_for, waiting_for_others, given_as}
use Rattle.activation.specs.declared.given.Given.{Given}
use Rattle.seq_bus_core.specs.BusState.{BusState, RunningStart, start_of, tickets_in, max_number, max_tickets}
use Rattle.seq_bus_core.specs.Consistency.{Pairwise, IsConsistent, IsRunning}
use Rattle.seq_bus_core.specs.Steps.{Stepped, settled, wait_with_start, waiting_if, has_room_for_ticket}
use Rattle.seq_bus_core.specs.Tickets.{WholeBus, bus_stepped, new_ticket, settled_tickets, still_waiting, outcome_of}
use Rattle.seq_bus_core.specs.declared.change.Change.{Change}
use Rattle.seq_bus_core.specs.declared.connection.Conn.{Conn}
use Rattle.seq_bus_core.specs.declared.outcome.Reply.TheVariants.{Held}
use Rattle.seq_bus_core.specs.declared.ticket.Fate.{Fate}
use Rattle.seq_bus_core.specs.declared.ticket.SettledNumber.{SettledNumber}
use Rattle.seq_bus_core.specs.declared.ticket.Ticket.{Ticket}
use Rattle.seq_bus_core.proofs.Lists.{each_weaker, each_both, each_push, each_filter, each_passing, each_map, each_always, any_passing, any_append, any_append_right, any_map, none_any, found_having, find_any, find_none, find_passes, pairs_filter, pairs_push}
use Rattle.seq_bus_core.proofs.TextLemmas.{text_eq-true, text_eq-swapped}
use Rattle.activation.specs.Holdings.{Calls, IsHolding, numbers_for, has_start}
use Rattle.activation.specs.Settling.{calls_after, let_go, new_call, once_told, settled_as, told_whole, caller_of}
use Rattle.activation.proofs.CallLists.{text_eq-itself, filter_alike, filter_map_before, filter_every, apart_from_found, numbers_apart, numbers_more, unstarted_numbers, IsNumbered, finds_itself, among_its_own, few_calls}

-- the calls are those of a state, and carry what these tickets do
pub record Keeps (s : BusState) (waiting : List Ticket) (calls : Calls) : Type 0 where
  pub carried : map (λ w. w.what) calls ≡ waiting
  pub tickets : Each (λ r. numbers_for r.name calls ≡ r.tickets) s.starts
  pub started : Each (λ w. has_start s.starts w.name ≡ true) calls
  pub rise : Pairwise (λ v w. v.what.number < w.what.number) calls
  pub given : Each (λ w. w.what.number < s.next_ticket) calls

-- the calls follow a step, and there is room for what is let go and for what waits from now on
pub record Follows (b : WholeBus) (change : Change) (caller : Option Conn) (calls : Calls) (r : Stepped) : Type 0 where
  pub keeps : Keeps r.0 (bus_stepped b change r).0.waiting (calls_after change caller r.1 calls)
  pub told : told_whole change r.1 calls ≡ outcome_of b.waiting r.1
  pub few : length (once_told change r.1.tickets calls).given ≤ length r.1.tickets
  pub fits : is_some (caller_of change) ≡ true → (n : ℕ) → r.1.reply ≡ Held n → length (once_told change r.1.tickets calls).held < 512

-- nothing is settled
still_all : (waiting : List Ticket) → still_waiting [] waiting ≡ waiting
still_all waiting = filter_every (λ t. true) waiting (each_always (λ t. true ≡ true) (λ t. refl) waiting)

-- ## Steps that leave the calls alone

pub quiet : (b : WholeBus) (change : Change) (caller : Option Conn) (calls : Calls) → IsHolding b calls → (r : Stepped) → r.1.tickets ≡ [] → r.0.starts ≡ b.state.starts → r.0.next_ticket ≡ b.state.next_ticket →
    new_ticket b.state change r.1.reply ≡ [] → new_call change r.1.reply caller ≡ [] → (is_some (caller_of change) ≡ true → (n : ℕ) → r.1.reply ≡ Held n → ⊥) → Follows b change caller calls r
quiet b change caller calls h r none starts next no_ticket no_call unheld =
    let same : once_told change r.1.tickets calls ≡ record { held = calls; given = [] } = rw none refl in
    let after : calls_after change caller r.1 calls ≡ calls = rw (same, no_call) (append-nil calls) in
    let waiting : (bus_stepped b change r).0.waiting ≡ b.waiting = rw (none, no_ticket) (append-nil (still_waiting [] b.waiting) ∙ still_all b.waiting) in
    record {
      keeps = rw after (record {
        carried = h.carried ∙ sym waiting;
        tickets = rw starts h.tickets;
        started = rw starts h.started;
        rise = h.rise;
        given = rw next h.given;
      });
      told = rw (same, none) refl;
      few = rw same (omega arith);
      fits = λ is n held. absurd (unheld is n held);
    }

-- ## Steps that settle a start

numbers_of : Fate → List ℕ → List SettledNumber
numbers_of fate numbers = map (λ number. record { fate = fate; number = number }) numbers

-- each ticket of these, told by its number, is found again
told_again : (fate : Fate) (waiting ts : List Ticket) → Each (λ t. find (λ u. nat_eq u.number t.number) waiting ≡ Some t) ts →
    settled_tickets waiting (map (λ number. record { fate = fate; number = number }) (map (λ t. t.number) ts)) ≡ map (λ t. record { fate = fate; ticket = t }) ts
told_again fate waiting [] h = refl
told_again fate waiting (t ∷ ts) h = rw h.0 (ap (λ rest. record { fate = fate; ticket = t } ∷ rest) (told_again fate waiting ts h.1))

-- a number is among those that are settled just where it is that of such a ticket
among_numbers : (fate : Fate) (ts : List Ticket) (number : ℕ) → list_any (λ (n : SettledNumber). nat_eq n.number number) (map (λ k. record { fate = fate; number = k }) (map (λ t. t.number) ts)) ≡ list_any (λ t. nat_eq t.number number) ts
among_numbers fate [] number = refl
among_numbers fate (t ∷ ts) number = ap (λ rest. nat_eq t.number number || rest) (among_numbers fate ts number)

-- the calls that wait on once those for a name are settled
others_wait : (fate : Fate) (name : Text) (calls : Calls) → IsNumbered calls →
    map (λ w. w.what) (waiting_for_others name calls) ≡ still_waiting (map (λ k. record { fate = fate; number = k }) (numbers_for name calls)) (map (λ w. w.what) calls)
others_wait fate name calls h =
    let numbers : List SettledNumber = map (λ k. record { fate = fate; number = k }) (numbers_for name calls) in
    sym (filter_map_before (λ (w : Waiting Ticket). w.what) (λ t. not (list_any (λ (n : SettledNumber). nat_eq n.number t.number) numbers)) calls
    ∙ ap (map (λ (w : Waiting Ticket). w.what))
    (filter_alike (λ (w : Waiting Ticket). not (list_any (λ (n : SettledNumber). nat_eq n.number w.what.number) numbers)) (λ w. not (waits_for name w)) calls
    (each_weaker (λ w. list_any (λ t. nat_eq t.number w.what.number) (waiting_for name calls) ≡ waits_for name w) (λ w. not (list_any (λ (n : SettledNumber). nat_eq n.number w.what.number) numbers) ≡ not (waits_for name w))
    (λ w own. ap not (among_numbers fate (waiting_for name calls) w.what.number ∙ own)) calls (among_its_own name calls h))))

given_whole : (became : Fate) (ts : List Ticket) → map settled_as (given_as became ts) ≡ map (λ t. record { fate = became; ticket = t }) ts
given_whole became [] = refl
given_whole became (t ∷ ts) = ap (λ rest. record { fate = became; ticket = t } ∷ rest) (given_whole became ts)

some_of : {X : Type 0} (xs : List X) → xs ≢ [] → nat_eq (length xs) 0 ≡ false
some_of [] h = absurd (h refl)
some_of (x ∷ xs) h = ne_eqb (length (x ∷ xs)) 0 (λ e. omega (arith, e))

running : (s : BusState) → IsConsistent s → (test : RunningStart → Bool) (r : RunningStart) → find test s.starts ≡ Some r → IsRunning s.names s.next_start s.next_ticket r
running s h test r e = found_having (IsRunning s.names s.next_start s.next_ticket) test s.starts r e h.starts_running

pub settles : (b : WholeBus) (change : Change) (caller : Option Conn) (calls : Calls) → IsHolding b calls → (fate : Fate) (name : Text) → let_go change calls ≡ record { held = waiting_for_others name calls; given = given_as fate (waiting_for name calls) } →
    (test : RunningStart → Bool) → ((q : RunningStart) → test q ≡ true → text_eq q.name name ≡ true) → (started : RunningStart) → find test b.state.starts ≡ Some started →
    (r : Stepped) → r.1.tickets ≡ settled fate (Some started) → r.0.starts ≡ filter (λ q. not (test q)) b.state.starts → r.0.next_ticket ≡ b.state.next_ticket →
    new_ticket b.state change r.1.reply ≡ [] → new_call change r.1.reply caller ≡ [] → is_some (caller_of change) ≡ false → Follows b change caller calls r
settles b change caller calls h fate name goes test named started found r told starts next no_ticket no_call uncalled =
    let s : BusState = b.state in
    let its_name : started.name ≡ name = text_eq-true started.name name (named started (find_passes test s.starts started found)) in
    let its_tickets : numbers_for name calls ≡ started.tickets = ap (λ n. numbers_for n calls) (sym its_name) ∙ found_having (λ q. numbers_for q.name calls ≡ q.tickets) test s.starts started found h.tickets in
    let numbers : r.1.tickets ≡ map (λ k. record { fate = fate; number = k }) (numbers_for name calls) = told ∙ ap (map (λ k. record { fate = fate; number = k })) (sym its_tickets) in
    let count : length r.1.tickets ≡ length started.tickets = ap (λ (ns : List SettledNumber). length ns) told ∙ length-map started.tickets (λ (k : ℕ). record { fate = fate; number = k }) in
    let some : nat_eq (length r.1.tickets) 0 ≡ false = ap (λ n. nat_eq n 0) count ∙ some_of started.tickets (running s h.consistent test started found).waited in
    let others : Calls = waiting_for_others name calls in
    let gone : once_told change r.1.tickets calls ≡ record { held = others; given = given_as fate (waiting_for name calls) } = rw some goes in
    let after : calls_after change caller r.1 calls ≡ others = rw (gone, no_call) (append-nil others) in
    let waiting : (bus_stepped b change r).0.waiting ≡ still_waiting r.1.tickets b.waiting = rw no_ticket (append-nil (still_waiting r.1.tickets b.waiting)) in
    let told_all : map settled_as (once_told change r.1.tickets calls).given ≡ settled_tickets b.waiting r.1.tickets =
    rw gone (given_whole fate (waiting_for name calls) ∙ sym (told_again fate b.waiting (waiting_for name calls) (found_again name)) ∙ ap (settled_tickets b.waiting) (sym numbers)) in
    let apart = apart_from_found test s.starts started h.consistent.start_names_differ found in
    record {
      keeps = rw after (record {
        carried = others_wait fate name calls h.rise ∙ ap (λ (ns : List SettledNumber). still_waiting ns (map (λ (w : Waiting Ticket). w.what) calls)) (sym numbers) ∙ ap (still_waiting r.1.tickets) h.carried ∙ sym waiting;
        tickets = rw starts
            (each_passing (λ q. (numbers_for q.name calls ≡ q.tickets) × (test q ≡ false → text_eq q.name started.name ≡ false)) (λ q. numbers_for q.name others ≡ q.tickets) (λ q. not (test q))
            (λ q both keeps. numbers_apart q.name name calls (ap (text_eq q.name) (sym its_name) ∙ both.1 (not-true (test q) keeps)) ∙ both.0) s.starts
            (each_both (λ q. numbers_for q.name calls ≡ q.tickets) (λ q. test q ≡ false → text_eq q.name started.name ≡ false) (λ q. (numbers_for q.name calls ≡ q.tickets) × (test q ≡ false → text_eq q.name started.name ≡ false)) (λ q x y. (x, y)) s.starts h.tickets apart));
        started = rw starts
            (each_passing (λ w. has_start s.starts w.name ≡ true) (λ w. has_start (filter (λ q. not (test q)) s.starts) w.name ≡ true) (λ w. not (waits_for name w))
            (λ w is keeps. any_passing (λ q. text_eq q.name w.name) (λ q. not (test q))
            (λ q same. other_test q (ap (λ n. text_eq n name) (text_eq-true q.name w.name same) ∙ not-true (waits_for name w) keeps)) s.starts is) calls h.started);
        rise = pairs_filter (λ v w. v.what.number < w.what.number) (λ w. not (waits_for name w)) calls h.rise;
        given = rw next (each_filter (λ w. w.what.number < s.next_ticket) (λ w. not (waits_for name w)) calls h.given);
      });
      told = (λ i. record { reply = r.1.reply; signals = r.1.signals; tickets = told_all i; start = r.1.start });
      few = rw (gone, count) (omega (arith, length-map {B = Given Ticket} (waiting_for name calls) (λ (what : Ticket). record { fate = fate; what = what }), length-map (waiting_for name calls) (λ (t : Ticket). t.number), ap length its_tickets));
      fits = λ is n held. absurd (true≢false (sym is ∙ uncalled));
    }
  where
    other_test : (q : RunningStart) → text_eq q.name name ≡ false → not (test q) ≡ true
    other_test q apart = by_test (test q) refl
      where
        by_test : (t : Bool) → test q ≡ t → not t ≡ true
        by_test true e = absurd (true≢false (sym (named q e) ∙ apart))
        by_test false e = refl

    found_again : (n : Text) → Each (λ t. find (λ u. nat_eq u.number t.number) b.waiting ≡ Some t) (waiting_for n calls)
    found_again n =
        each_map (λ (w : Waiting Ticket). find (λ u. nat_eq u.number w.what.number) b.waiting ≡ Some w.what) (λ (t : Ticket). find (λ u. nat_eq u.number t.number) b.waiting ≡ Some t) (λ w. w.what) (λ w found. found)
        (filter (waits_for n) calls) (each_filter (λ w. find (λ u. nat_eq u.number w.what.number) b.waiting ≡ Some w.what) (waits_for n) calls (rw (← h.carried) (finds_itself calls h.rise)))

-- ## Steps that make a call wait

-- a call that waits from now on
abbrev pub waits_as : Text → Ticket → Calls
waits_as name ticket = record { name = name; what = ticket } ∷ []

-- what is told where the call waits
abbrev pub IsWait : WholeBus → Change → Option Conn → Text → Ticket → Type 0
IsWait b change caller name ticket = (ticket.number ≡ b.state.next_ticket) × (new_ticket b.state change (Held b.state.next_ticket) ≡ ticket ∷ []) × (new_call change (Held b.state.next_ticket) caller ≡ waits_as name ticket)

own_number : (name : Text) (ticket : Ticket) → numbers_for name (waits_as name ticket) ≡ ticket.number ∷ []
own_number name ticket = rw (text_eq-itself name) refl

other_number : (name other : Text) (ticket : Ticket) → text_eq name other ≡ false → numbers_for other (waits_as name ticket) ≡ []
other_number name other ticket differ = rw differ refl

-- how many calls wait, where one more may
few_waiting : (b : WholeBus) (calls : Calls) → IsHolding b calls → (name : Text) → has_room_for_ticket b.state name ≡ true → length calls < 512
few_waiting b calls h name room =
    let parts = and_parts (nat_lt (tickets_in b.state.starts) max_tickets && nat_le b.state.next_ticket max_number) _ room in
    let lower : tickets_in b.state.starts < 512 = ltb-true (tickets_in b.state.starts) max_tickets (and_parts (nat_lt (tickets_in b.state.starts) max_tickets) _ parts.0).0 in
    omega (arith, lower, few_calls b.state.starts calls h.consistent.start_names_differ h.tickets h.started)

-- the calls with one that waits from now on are those of a state with these starts
one_more : (b : WholeBus) (change : Change) (caller : Option Conn) (calls : Calls) → IsHolding b calls → (name : Text) (ticket : Ticket) → IsWait b change caller name ticket → has_room_for_ticket b.state name ≡ true → (r : Stepped) →
    r.1.reply ≡ Held b.state.next_ticket → r.1.tickets ≡ [] → r.0.next_ticket ≡ b.state.next_ticket + 1 →
    Each (λ q. numbers_for q.name (calls ++ waits_as name ticket) ≡ q.tickets) r.0.starts → Each (λ w. has_start r.0.starts w.name ≡ true) (calls ++ waits_as name ticket) → Follows b change caller calls r
one_more b change caller calls h name ticket wait room r reply none next tickets started =
    let same : once_told change r.1.tickets calls ≡ record { held = calls; given = [] } = rw none refl in
    let after : calls_after change caller r.1 calls ≡ calls ++ waits_as name ticket = rw (same, reply, wait.2) refl in
    let waiting : (bus_stepped b change r).0.waiting ≡ b.waiting ++ ticket ∷ [] = rw (none, reply, wait.1) (ap (λ ts. ts ++ ticket ∷ []) (still_all b.waiting)) in
    record {
      keeps = rw after (record {
        carried = map-append (λ (w : Waiting Ticket). w.what) calls (waits_as name ticket) ∙ ap (λ ts. ts ++ ticket ∷ []) h.carried ∙ sym waiting;
        tickets = tickets;
        started = started;
        rise = pairs_push (λ v w. v.what.number < w.what.number) calls (record { name = name; what = ticket }) h.rise (rw wait.0 h.given);
        given = rw next (each_push (λ w. w.what.number < b.state.next_ticket + 1) calls (record { name = name; what = ticket })
            (each_weaker (λ w. w.what.number < b.state.next_ticket) (λ w. w.what.number < b.state.next_ticket + 1) (λ w below. omega (arith, below)) calls h.given) (omega (arith, wait.0)));
      });
      told = rw (same, none) refl;
      few = rw same (omega arith);
      fits = λ _ n held. rw same (few_waiting b calls h name room);
    }

find_unnamed : (starts : List RunningStart) (name : Text) → find (λ r. text_eq r.name name) starts ≡ None → Each (λ r. text_eq r.name name ≡ false) starts
find_unnamed starts name e = find_none (λ r. text_eq r.name name) starts e

pub first_ticket : (b : WholeBus) (change : Change) (caller : Option Conn) (calls : Calls) → IsHolding b calls → (name : Text) (ticket : Ticket) → IsWait b change caller name ticket → has_room_for_ticket b.state name ≡ true →
    start_of b.state name ≡ None → Follows b change caller calls (wait_with_start b.state name None)
first_ticket b change caller calls h name ticket wait room none =
    let s : BusState = b.state in
    let unnamed = find_unnamed s.starts name none in
    let new : RunningStart = record { name = name; number = s.next_start; tickets = s.next_ticket ∷ [] } in
    let nobody : numbers_for name calls ≡ [] = unstarted_numbers s.starts calls name h.started (none_any (λ r. text_eq r.name name) s.starts unnamed) in
    one_more b change caller calls h name ticket wait room (wait_with_start s name None) refl refl refl
    (each_push (λ q. numbers_for q.name (calls ++ waits_as name ticket) ≡ q.tickets) s.starts new
    (each_both (λ q. numbers_for q.name calls ≡ q.tickets) (λ q. text_eq q.name name ≡ false) (λ q. numbers_for q.name (calls ++ waits_as name ticket) ≡ q.tickets)
    (λ q its apart. numbers_more q.name calls (waits_as name ticket) ∙ ap (λ ns. numbers_for q.name calls ++ ns) (other_number name q.name ticket (text_eq-swapped q.name name apart)) ∙ append-nil (numbers_for q.name calls) ∙ its) s.starts h.tickets unnamed)
    (numbers_more name calls (waits_as name ticket) ∙ ap (λ ns. ns ++ numbers_for name (waits_as name ticket)) nobody ∙ own_number name ticket ∙ ap (λ n. n ∷ []) wait.0))
    (each_push (λ w. has_start (s.starts ++ new ∷ []) w.name ≡ true) calls (record { name = name; what = ticket })
    (each_weaker (λ w. has_start s.starts w.name ≡ true) (λ w. has_start (s.starts ++ new ∷ []) w.name ≡ true) (λ w is. any_append (λ r. text_eq r.name w.name) s.starts (new ∷ []) is) calls h.started)
    (any_append_right (λ r. text_eq r.name name) s.starts (new ∷ []) (rw (text_eq-itself name) refl)))

pub later_ticket : (b : WholeBus) (change : Change) (caller : Option Conn) (calls : Calls) → IsHolding b calls → (name : Text) (ticket : Ticket) → IsWait b change caller name ticket → has_room_for_ticket b.state name ≡ true →
    (started : RunningStart) → start_of b.state name ≡ Some started → Follows b change caller calls (wait_with_start b.state name (Some started))
later_ticket b change caller calls h name ticket wait room started found =
    let s : BusState = b.state in
    let joined : RunningStart → RunningStart = waiting_if name s.next_ticket in
    let keeps_name : (q : RunningStart) (n : Text) → text_eq q.name n ≡ true → text_eq (joined q).name n ≡ true =
    λ q n same. cond_both (text_eq q.name name) (record q { tickets = q.tickets ++ s.next_ticket ∷ [] }) q (λ p. text_eq p.name n ≡ true) (λ _. same) (λ _. same) in
    one_more b change caller calls h name ticket wait room (wait_with_start s name (Some started)) refl refl refl
    (each_map (λ q. numbers_for q.name calls ≡ q.tickets) (λ q. numbers_for q.name (calls ++ waits_as name ticket) ≡ q.tickets) joined
    (λ q its. cond_both (text_eq q.name name) (record q { tickets = q.tickets ++ s.next_ticket ∷ [] }) q (λ p. numbers_for p.name (calls ++ waits_as name ticket) ≡ p.tickets)
    (λ same. numbers_more q.name calls (waits_as name ticket) ∙ ap (λ ns. ns ++ numbers_for q.name (waits_as name ticket)) its
    ∙ ap (λ ns. q.tickets ++ ns) (ap (λ n. numbers_for n (waits_as name ticket)) (text_eq-true q.name name same) ∙ own_number name ticket ∙ ap (λ n. n ∷ []) wait.0))
    (λ apart. numbers_more q.name calls (waits_as name ticket) ∙ ap (λ ns. numbers_for q.name calls ++ ns) (other_number name q.name ticket (text_eq-swapped q.name name apart)) ∙ append-nil (numbers_for q.name calls) ∙ its)) s.starts h.tickets)
    (each_push (λ w. has_start (map joined s.starts) w.name ≡ true) calls (record { name = name; what = ticket })
    (each_weaker (λ w. has_start s.starts w.name ≡ true) (λ w. has_start (map joined s.starts) w.name ≡ true) (λ w is. any_map (λ r. text_eq r.name w.name) (λ r. text_eq r.name w.name) joined (λ q same. keeps_name q w.name same) s.starts is) calls h.started)
    (any_map (λ r. text_eq r.name name) (λ r. text_eq r.name name) joined (λ q same. keeps_name q name same) s.starts (find_any (λ r. text_eq r.name name) s.starts started found)))
