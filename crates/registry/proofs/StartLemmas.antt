-- What is done by calls that wait, and by starts that end.
use Rattle.std.proofs.Common.{◌≡◌, ℕ, ◌==◌, Bool, true, false, cond, not, ◌&&◌, ◌||◌, Option, Some, None, is_some, option_map, List, [], ◌∷◌, filter, refl, sym, ap, ◌∙◌, if◌then◌else◌}
use Rattle.std.specs.Prelude.{option_and_then}
use Rattle.std.specs.List.{AllByRecursion as Each, find}
use Rattle.std.proofs.lemmas.Bool.{true≢false}
use Rattle.names.specs.Texts.{Text, text_eq}
use Rattle.names.specs.BusName.{is_bus}
use Rattle.seq_bus_core.specs.BusState.{BusState, Connection, RunningStart, conn_of, connection_of, head_of, is_client, is_service, start_of}
use Rattle.seq_bus_core.specs.Consistency.{IsConsistent, Pairwise}
use Rattle.seq_bus_core.specs.Steps.{Stepped, fail, fail_with_start, has_room_for_ticket, hold, is_run, pass_or_wait, replied, settled, start, step, unchanged, wait_for, wait_with_start}
use Rattle.seq_bus_core.specs.declared.change.CallHead.{CallHead}
use Rattle.seq_bus_core.specs.declared.change.Change.TheVariants.{Start, Hold}
use Rattle.seq_bus_core.specs.declared.outcome.Reply.{Reply}
use Rattle.seq_bus_core.specs.declared.outcome.Reply.TheVariants.{Gone, LimitsExceeded, Done, AlreadyRunning, Held, ServiceUnknown, Ignored}
use Rattle.seq_bus_core.specs.declared.ticket.Fate.TheVariants.{Failed}
use Rattle.seq_bus_core.proofs.Lists.{each_weaker}
use Rattle.seq_bus_core.proofs.TextLemmas.{text_eq-swapped, text_eq-true}
use Rattle.registry_core.specs.StartTables.{joined_by, with_ticket}
use Rattle.registry_core.specs.declared.start_table.WaitingTicket.{WaitingTicket}
use Rattle.registry.specs.Starts.{has_number, is_running, new_start, reply_to_wait, reply_to_start, reply_to_hold, reply_where_owned, state_told, told_to_wait, waited}
use Rattle.registry.proofs.Lists.{filter_all}
use Rattle.registry.proofs.MatchLemmas.{of_client}

-- ## Calls that wait

-- what a call does that has this reply
abbrev by_reply : BusState → Text → Reply → Stepped
by_reply s name reply = (state_told s name reply, told_to_wait s name reply)

wait_by : (s : BusState) (name : Text) → wait_for s name ≡ by_reply s name (reply_to_wait s name)
wait_by s name = by_tests (is_service s name) (has_room_for_ticket s name)
  where
    started : (o : Option RunningStart) → wait_with_start s name o ≡ ((wait_with_start s name o).0, record (replied (Held s.next_ticket)) { start = new_start s (option_map (λ r. r.number) o) })
    started None = refl
    started (Some r) = refl

    by_tests : (service room : Bool) →
        (if not service then unchanged s ServiceUnknown else if not room then unchanged s LimitsExceeded else wait_with_start s name (start_of s name))
        ≡ by_reply s name (if not service then ServiceUnknown else if room then Held s.next_ticket else LimitsExceeded)
    by_tests false room = refl
    by_tests true false = refl
    by_tests true true = started (start_of s name)

pub start_by : (s : BusState) (seat number : ℕ) (name : Text) (call : CallHead) → step s seat (Start number name call) ≡ (state_told s name (reply_to_start s number name), told_to_wait s name (reply_to_start s number name))
start_by s seat number name call = of_client s number (start s name) ∙ by_client (is_client s.connections number)
  where
    by_owner : (b : Bool) → (if b then unchanged s AlreadyRunning else wait_for s name) ≡ by_reply s name (if b then AlreadyRunning else reply_to_wait s name)
    by_owner true = refl
    by_owner false = wait_by s name

    by_client : (b : Bool) → (if not b then unchanged s Gone else start s name) ≡ by_reply s name (if not b then Gone else if is_bus name || is_some (head_of s name) then AlreadyRunning else reply_to_wait s name)
    by_client true = by_owner (is_bus name || is_some (head_of s name))
    by_client false = refl

pub hold_by : (s : BusState) (seat number : ℕ) (name : Text) (call : CallHead) (message : List ℕ) →
    step s seat (Hold number name call message) ≡ (state_told s name (reply_to_hold s number name), told_to_wait s name (reply_to_hold s number name))
hold_by s seat number name call message = of_client s number (hold s name) ∙ by_client (is_client s.connections number)
  where
    by_owner : (o : Option Connection) → pass_or_wait s name o ≡ by_reply s name (reply_where_owned s name (option_map conn_of o))
    by_owner None = wait_by s name
    by_owner (Some owner) = refl

    by_client : (b : Bool) → (if not b then unchanged s Gone else hold s name)
        ≡ by_reply s name (if not b then Gone else reply_where_owned s name (option_map conn_of (option_and_then (connection_of s) (head_of s name))))
    by_client true = by_owner (option_and_then (connection_of s) (head_of s name))
    by_client false = refl

pub not_held : (s : BusState) (name : Text) (reply : Reply) → ((ticket : ℕ) → reply ≡ Held ticket → ⊥) → state_told s name reply ≡ s
not_held s name (Held ticket) h = absurd (h ticket refl)
not_held s name reply h = refl

-- the ticket that waits next for a name
abbrev pub next_waiting : BusState → Text → WaitingTicket
next_waiting s name = record { name = name; start = s.next_start; number = s.next_ticket }

pub waited_starts : (s : BusState) (name : Text) → (waited s name).starts ≡ with_ticket s.starts (next_waiting s name)
waited_starts s name = by_start (start_of s name)
  where
    by_start : (o : Option RunningStart) → (wait_with_start s name o).0.starts ≡ joined_by s.starts (next_waiting s name) o
    by_start None = refl
    by_start (Some r) = refl

-- ## Starts that end

abbrev NamesDiffer : List RunningStart → Type 0
NamesDiffer starts = Pairwise (λ a b. text_eq a.name b.name ≡ false) starts

others_named : (name : Text) (r : RunningStart) (rs : List RunningStart) → text_eq r.name name ≡ true → Each (λ q. text_eq r.name q.name ≡ false) rs → Each (λ q. text_eq q.name name ≡ false) rs
others_named name r rs its h =
    each_weaker (λ q. text_eq r.name q.name ≡ false) (λ q. text_eq q.name name ≡ false)
    (λ q differ. text_eq-swapped name q.name (ap (λ t. text_eq t q.name) (sym (text_eq-true r.name name its)) ∙ differ)) rs h

no_run : (name : Text) (number : ℕ) (rs : List RunningStart) → Each (λ q. text_eq q.name name ≡ false) rs → ◌≡◌ {A = Option RunningStart} (find (is_run name number) rs) None
no_run name number [] h = refl
no_run name number (r ∷ rs) h = rw h.0 (no_run name number rs h.1)

abbrev if_numbered : ℕ → Option RunningStart → Option RunningStart
if_numbered number None = None
if_numbered number (Some r) = if r.number == number then Some r else None

-- as names differ, a start is found by its name
run_found : (name : Text) (number : ℕ) (starts : List RunningStart) → NamesDiffer starts → find (is_run name number) starts ≡ if_numbered number (find (λ r. text_eq r.name name) starts)
run_found name number [] h = refl
run_found name number (r ∷ rs) h = by_tests (text_eq r.name name) (r.number == number) refl refl (run_found name number rs h.1)
  where
    by_tests : (its same : Bool) → text_eq r.name name ≡ its → (r.number == number) ≡ same → find (is_run name number) rs ≡ if_numbered number (find (λ q. text_eq q.name name) rs) →
        find (is_run name number) (r ∷ rs) ≡ if_numbered number (find (λ q. text_eq q.name name) (r ∷ rs))
    by_tests true true e f rest = rw (e, f) refl
    by_tests true false e f rest = rw (e, f) (no_run name number rs (others_named name r rs e h.0))
    by_tests false same e f rest = rw e rest

abbrev others_than : Text → List RunningStart → List RunningStart
others_than name starts = filter (λ r. not (text_eq r.name name)) starts

-- and it alone ends
others_left : (name : Text) (number : ℕ) (starts : List RunningStart) (found : RunningStart) → NamesDiffer starts → find (is_run name number) starts ≡ Some found →
    filter (λ r. not (is_run name number r)) starts ≡ others_than name starts
others_left name number [] found h e = refl
others_left name number (r ∷ rs) found h e = by_tests (text_eq r.name name) (r.number == number) refl refl e (λ later. others_left name number rs found h.1 later)
  where
    kept : text_eq r.name name ≡ true → filter (λ q. not (is_run name number q)) rs ≡ others_than name rs
    kept its =
        let unnamed = others_named name r rs its h.0 in
        filter_all (λ q. not (is_run name number q)) rs (each_weaker (λ q. text_eq q.name name ≡ false) (λ q. not (is_run name number q) ≡ true) (λ q other. rw other refl) rs unnamed)
        ∙ sym (filter_all (λ q. not (text_eq q.name name)) rs (each_weaker (λ q. text_eq q.name name ≡ false) (λ q. not (text_eq q.name name) ≡ true) (λ q other. rw other refl) rs unnamed))

    by_tests : (its same : Bool) → text_eq r.name name ≡ its → (r.number == number) ≡ same → cond (text_eq r.name name && (r.number == number)) (Some r) (find (is_run name number) rs) ≡ Some found →
        (find (is_run name number) rs ≡ Some found → filter (λ q. not (is_run name number q)) rs ≡ others_than name rs) →
        filter (λ q. not (is_run name number q)) (r ∷ rs) ≡ others_than name (r ∷ rs)
    by_tests true true i f found_it rest = rw (i, f) (kept i)
    by_tests true false i f found_it rest =
        let none : ◌≡◌ {A = Option RunningStart} None (Some found) = sym (no_run name number rs (others_named name r rs i h.0)) ∙ (rw (i, f) at found_it) in
        absurd (cc)
    by_tests false same i f found_it rest = rw i (ap (λ qs. r ∷ qs) (rest (rw i at found_it)))

pub fail_ignored : (s : BusState) (name : Text) (number : ℕ) → IsConsistent s → is_running s name number ≡ false → fail s name number ≡ unchanged s Ignored
fail_ignored s name number h no_run = ap (fail_with_start s name number) (run_found name number s.starts h.start_names_differ) ∙ by_start (start_of s name) no_run
  where
    by_number : (r : RunningStart) (b : Bool) → b ≡ false → fail_with_start s name number (if b then Some r else None) ≡ unchanged s Ignored
    by_number r true e = absurd (true≢false e)
    by_number r false e = refl

    by_start : (o : Option RunningStart) → has_number number (option_map (λ r. r.number) o) ≡ false → fail_with_start s name number (if_numbered number o) ≡ unchanged s Ignored
    by_start None e = refl
    by_start (Some r) e = by_number r (r.number == number) e

pub fail_done : (s : BusState) (name : Text) (number : ℕ) → IsConsistent s → is_running s name number ≡ true →
    fail s name number ≡ (record s { starts = filter (λ r. not (text_eq r.name name)) s.starts }, record (replied Done) { tickets = settled Failed (start_of s name) })
fail_done s name number h runs =
    let found = found_by (start_of s name) runs in
    let is : find (is_run name number) s.starts ≡ start_of s name = run_found name number s.starts h.start_names_differ ∙ found in
    ap (fail_with_start s name number) is ∙ by_start (start_of s name) is runs
  where
    by_number : (r : RunningStart) (b : Bool) → b ≡ true → (if b then Some r else None) ≡ Some r
    by_number r true e = refl
    by_number r false e = absurd (true≢false (sym e))

    found_by : (o : Option RunningStart) → has_number number (option_map (λ r. r.number) o) ≡ true → if_numbered number o ≡ o
    found_by None e = absurd (true≢false (sym e))
    found_by (Some r) e = by_number r (r.number == number) e

    by_start : (o : Option RunningStart) → find (is_run name number) s.starts ≡ o → has_number number (option_map (λ r. r.number) o) ≡ true →
        fail_with_start s name number o ≡ (record s { starts = others_than name s.starts }, record (replied Done) { tickets = settled Failed o })
    by_start None e has = absurd (true≢false (sym has))
    by_start (Some r) e has = ap (λ starts. (record s { starts = starts }, record (replied Done) { tickets = settled Failed (Some r) })) (others_left name number s.starts r h.start_names_differ e)
