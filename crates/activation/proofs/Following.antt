-- The calls follow each step of a bus that holds them.
use Rattle.std.proofs.Common.{◌≡◌, ℕ, ◌<◌, ◌≤◌, Bool, true, false, not, ◌||◌, Option, Some, None, is_some, [], length, refl, sym, ap, ◌∙◌}
use Rattle.std.specs.List.{filter, find, list_any}
use Rattle.std.specs.Prelude.{option_map, option_and_then}
use Rattle.std.proofs.lemmas.Bool.{cond_both, true≢false, not-false, not_from_false, and_parts}
use Rattle.names.specs.Texts.{Text, text_eq}
use Rattle.names.specs.BusName.{is_bus}
use Rattle.match_rules.specs.OwnedRules.{is_rule_of}
use Rattle.activation.specs.Holding.{given_as, waiting_for, waiting_for_others}
use Rattle.owner_queues.specs.Queues.{requested}
use Rattle.owner_queues.specs.declared.request.RequestFlags.{RequestFlags}
use Rattle.seq_bus_core.specs.BusState.{BusState, Connection, RunningStart, conn_of, connection_of, client_of, head_of, is_service, start_of, queue_of}
use Rattle.seq_bus_core.specs.Steps.{Stepped, add_match, become_monitor, exited_well, fail_with_start, for_client, free_slot, has_room_for_ticket, hello, hold, is_reserved, is_run, is_within_names, is_within_rules, leave, owned_outcome, pass_or_wait, release, remove_match, request, settled, start, step, unchanged, wait_for, wait_with_start, with_owned, with_rule}
use Rattle.seq_bus_core.specs.Tickets.{WholeBus, bus_step, new_ticket}
use Rattle.seq_bus_core.specs.declared.change.Change.{Change}
use Rattle.seq_bus_core.specs.declared.change.Change.TheVariants.{Hello, Leave, Request, Release, AddMatch, RemoveMatch, BecomeMonitor, Start, Hold, ChildEnded, StartTimedOut}
use Rattle.seq_bus_core.specs.declared.connection.Conn.{Conn}
use Rattle.seq_bus_core.specs.declared.outcome.NumberedOutcome.{NumberedOutcome}
use Rattle.seq_bus_core.specs.declared.outcome.Reply.{Reply}
use Rattle.seq_bus_core.specs.declared.outcome.Reply.TheVariants.{Gone, LimitsExceeded, InvalidName, AlreadyRunning, Held, ServiceUnknown, Pass, Ignored}
use Rattle.seq_bus_core.specs.declared.ticket.Fate.TheVariants.{Served, Failed}
use Rattle.seq_bus_core.specs.declared.ticket.Ticket.{Ticket}
use Rattle.seq_bus_core.proofs.ClientLemmas.{client_found}
use Rattle.seq_bus_core.proofs.ConsistencyLaws.{steps_keep_consistency}
use Rattle.seq_bus_core.proofs.Lists.{each_weaker, find_none}
use Rattle.seq_bus_core.proofs.OwnedLemmas.{client_is_connection}
use Rattle.activation.specs.Holdings.{Calls, IsHolding}
use Rattle.activation.specs.Settling.{IsAtStep, IsSomeStep, calls_after, caller_of, let_go, new_call, once_told, told_whole}
use Rattle.activation.proofs.CallLists.{filter_every}
use Rattle.activation.proofs.Settlings.{Follows, IsWait, quiet, settles, first_ticket, later_ticket}

-- the step leaves the starts alone
abbrev IsQuiet : BusState → Stepped → Type 0
IsQuiet s r = (r.1.tickets ≡ []) × (r.0.starts ≡ s.starts) × (r.0.next_ticket ≡ s.next_ticket)

client_case : (P : Stepped → Type 0) (s : BusState) (o : Option Connection) (act : Connection → Stepped) → P (unchanged s Gone) → ((c : Connection) → o ≡ Some c → P (act c)) → P (for_client s o act)
client_case P s None act gone does = gone
client_case P s (Some c) act gone does = does c refl

hello_quiet : (s : BusState) (seat : ℕ) (privileged : Bool) (slot : Option ℕ) → IsQuiet s (hello s seat privileged slot)
hello_quiet s seat privileged None = (refl, refl, refl)
hello_quiet s seat privileged (Some slot) = cond_both _ _ _ (IsQuiet s) (λ _. (refl, refl, refl)) (λ _. (refl, refl, refl))

leave_quiet : (s : BusState) (number : ℕ) (o : Option Connection) → IsQuiet s (leave s number o)
leave_quiet s number None = (refl, refl, refl)
leave_quiet s number (Some c) = (refl, refl, refl)

-- a step that leaves the starts alone, of a change that makes no call wait
at_rest : (b : WholeBus) (change : Change) (caller : Option Conn) (calls : Calls) → IsHolding b calls → (r : Stepped) → IsQuiet b.state r → ((reply : Reply) → new_ticket b.state change reply ≡ []) → ((reply : Reply) → new_call change reply caller ≡ []) → is_some (caller_of change) ≡ false → Follows b change caller calls r
at_rest b change caller calls h r q no_ticket no_call uncalled = quiet b change caller calls h r q.0 q.1 q.2 (no_ticket r.1.reply) (no_call r.1.reply) (λ is n _. true≢false (sym is ∙ uncalled))

-- ## Changes that settle a start

request_follows : (b : WholeBus) (number : ℕ) (name : Text) (flags : RequestFlags) (caller : Option Conn) (calls : Calls) → IsHolding b calls → (r : Stepped) →
    (started : Option RunningStart) → start_of b.state name ≡ started → r.1.tickets ≡ settled Served started → r.0.starts ≡ filter (λ q. not (text_eq q.name name)) b.state.starts → r.0.next_ticket ≡ b.state.next_ticket →
    Follows b (Request number name flags) caller calls r
request_follows b number name flags caller calls h r None found told starts next =
    let all : filter (λ q. not (text_eq q.name name)) b.state.starts ≡ b.state.starts =
    filter_every (λ q. not (text_eq q.name name)) b.state.starts
    (each_weaker (λ (q : RunningStart). text_eq q.name name ≡ false) (λ q. not (text_eq q.name name) ≡ true) (λ q apart. not_from_false (text_eq q.name name) apart) b.state.starts (find_none (λ q. text_eq q.name name) b.state.starts found)) in
    at_rest b (Request number name flags) caller calls h r (told, starts ∙ all, next) (λ _. refl) (λ _. refl) refl
request_follows b number name flags caller calls h r (Some started) found told starts next =
    settles b (Request number name flags) caller calls h Served name refl (λ q. text_eq q.name name) (λ q same. same) started found r told starts next refl refl refl

ends_follow : (b : WholeBus) (change : Change) (caller : Option Conn) (calls : Calls) → IsHolding b calls → (name : Text) (number : ℕ) →
    let_go change calls ≡ record { held = waiting_for_others name calls; given = given_as Failed (waiting_for name calls) } → ((reply : Reply) → new_ticket b.state change reply ≡ []) → ((reply : Reply) → new_call change reply caller ≡ []) → is_some (caller_of change) ≡ false →
    (started : Option RunningStart) → find (is_run name number) b.state.starts ≡ started → Follows b change caller calls (fail_with_start b.state name number started)
ends_follow b change caller calls h name number goes no_ticket no_call uncalled None found = at_rest b change caller calls h (fail_with_start b.state name number None) (refl, refl, refl) no_ticket no_call uncalled
ends_follow b change caller calls h name number goes no_ticket no_call uncalled (Some started) found =
    settles b change caller calls h Failed name goes (is_run name number) (λ q same. (and_parts (text_eq q.name name) _ same).0) started found (fail_with_start b.state name number (Some started)) refl refl refl
    (no_ticket _) (no_call _) uncalled

-- ## Changes by which a call may come to wait

-- a step that leaves the starts alone, and is not told that the call waits
passes : (b : WholeBus) (change : Change) (caller : Option Conn) (calls : Calls) → IsHolding b calls → (reply : Reply) → new_ticket b.state change reply ≡ [] → new_call change reply caller ≡ [] → ((n : ℕ) → reply ≡ Held n → ⊥) → Follows b change caller calls (unchanged b.state reply)
passes b change caller calls h reply no_ticket no_call unheld = quiet b change caller calls h (unchanged b.state reply) refl refl refl no_ticket no_call (λ _ n held. unheld n held)

-- what a step is told of a call that may have to wait
record MayWait (b : WholeBus) (change : Change) (caller : Option Conn) (calls : Calls) (name : Text) : Type 0 where
  running : Follows b change caller calls (unchanged b.state AlreadyRunning)
  unknown : Follows b change caller calls (unchanged b.state ServiceUnknown)
  full : Follows b change caller calls (unchanged b.state LimitsExceeded)
  passed : (conn : Conn) → Follows b change caller calls (unchanged b.state (Pass conn))
  waits : (ticket : Ticket) × IsWait b change caller name ticket

wait_follows : (b : WholeBus) (change : Change) (caller : Option Conn) (calls : Calls) → IsHolding b calls → (name : Text) → MayWait b change caller calls name → Follows b change caller calls (wait_for b.state name)
wait_follows b change caller calls h name may =
    let s : BusState = b.state in
    cond_both (not (is_service s name)) _ _ (Follows b change caller calls) (λ _. may.unknown)
    (λ _. cond_both (not (has_room_for_ticket s name)) _ _ (Follows b change caller calls) (λ _. may.full)
    (λ room. by_start (not-false (has_room_for_ticket s name) room) (start_of s name) refl))
  where
    by_start : has_room_for_ticket b.state name ≡ true → (o : Option RunningStart) → start_of b.state name ≡ o → Follows b change caller calls (wait_with_start b.state name o)
    by_start room None found = first_ticket b change caller calls h name may.waits.0 may.waits.1 room found
    by_start room (Some started) found = later_ticket b change caller calls h name may.waits.0 may.waits.1 room started found

start_follows : (b : WholeBus) (change : Change) (caller : Option Conn) (calls : Calls) → IsHolding b calls → (name : Text) → MayWait b change caller calls name → Follows b change caller calls (start b.state name)
start_follows b change caller calls h name may =
    cond_both (is_bus name || is_some (head_of b.state name)) _ _ (Follows b change caller calls) (λ _. may.running) (λ _. wait_follows b change caller calls h name may)

hold_follows : (b : WholeBus) (change : Change) (caller : Option Conn) (calls : Calls) → IsHolding b calls → (name : Text) → MayWait b change caller calls name → (o : Option Connection) → Follows b change caller calls (pass_or_wait b.state name o)
hold_follows b change caller calls h name may None = wait_follows b change caller calls h name may
hold_follows b change caller calls h name may (Some owner) = may.passed (conn_of owner)

-- ## Each step

is_there : (s : BusState) (number : ℕ) (c : Connection) → client_of s number ≡ Some c → (d : Connection) × (connection_of s number ≡ Some d)
is_there s number c e = client_is_connection s.connections number (client_found s number c e)

pub follows : (b : WholeBus) (seat : ℕ) (change : Change) (caller : Option Conn) (calls : Calls) → IsHolding b calls → caller ≡ option_map conn_of (option_and_then (connection_of b.state) (caller_of change)) → Follows b change caller calls (step b.state seat change)
follows b seat (Hello privileged) caller calls h called =
    at_rest b (Hello privileged) caller calls h (hello b.state seat privileged (free_slot b.state seat)) (hello_quiet b.state seat privileged (free_slot b.state seat)) (λ _. refl) (λ _. refl) refl
follows b seat (Leave number) caller calls h called =
    at_rest b (Leave number) caller calls h (leave b.state number (connection_of b.state number)) (leave_quiet b.state number (connection_of b.state number)) (λ _. refl) (λ _. refl) refl
follows b seat (Request number name flags) caller calls h called =
    let s : BusState = b.state in
    let change : Change = Request number name flags in
    let rests : (reply : Reply) → Follows b change caller calls (unchanged s reply) = λ reply. at_rest b change caller calls h (unchanged s reply) (refl, refl, refl) (λ _. refl) (λ _. refl) refl in
    client_case (Follows b change caller calls) s (client_of s number) (λ c. request s number name flags) (rests Gone)
    (λ c _. cond_both (is_reserved name) _ _ (Follows b change caller calls) (λ _. rests InvalidName)
    (λ _. let result = requested s.profile number flags (queue_of s.names name) in
    cond_both (is_within_names (with_owned s name result.0) number) _ _ (Follows b change caller calls)
    (λ _. request_follows b number name flags caller calls h (with_owned s name result.0, owned_outcome s (with_owned s name result.0) name result) (start_of s name) refl refl refl refl)
    (λ _. rests LimitsExceeded)))
follows b seat (Release number name) caller calls h called =
    let s : BusState = b.state in
    at_rest b (Release number name) caller calls h (step s seat (Release number name))
    (client_case (IsQuiet s) s (client_of s number) (λ c. release s number name) (refl, refl, refl) (λ c _. cond_both (is_reserved name) _ _ (IsQuiet s) (λ _. (refl, refl, refl)) (λ _. (refl, refl, refl)))) (λ _. refl) (λ _. refl) refl
follows b seat (AddMatch number rule) caller calls h called =
    let s : BusState = b.state in
    at_rest b (AddMatch number rule) caller calls h (step s seat (AddMatch number rule))
    (client_case (IsQuiet s) s (client_of s number) (λ c. add_match s number rule) (refl, refl, refl) (λ c _. cond_both (is_within_rules (with_rule s number rule) number) _ _ (IsQuiet s) (λ _. (refl, refl, refl)) (λ _. (refl, refl, refl)))) (λ _. refl) (λ _. refl) refl
follows b seat (RemoveMatch number rule) caller calls h called =
    let s : BusState = b.state in
    at_rest b (RemoveMatch number rule) caller calls h (step s seat (RemoveMatch number rule))
    (client_case (IsQuiet s) s (client_of s number) (λ c. remove_match s number rule) (refl, refl, refl) (λ c _. cond_both (list_any (is_rule_of number rule) s.rules) _ _ (IsQuiet s) (λ _. (refl, refl, refl)) (λ _. (refl, refl, refl)))) (λ _. refl) (λ _. refl) refl
follows b seat (BecomeMonitor number rules) caller calls h called =
    let s : BusState = b.state in
    at_rest b (BecomeMonitor number rules) caller calls h (step s seat (BecomeMonitor number rules))
    (client_case (IsQuiet s) s (client_of s number) (λ c. become_monitor s c rules) (refl, refl, refl) (λ c _. cond_both c.privileged _ _ (IsQuiet s) (λ _. (refl, refl, refl)) (λ _. (refl, refl, refl)))) (λ _. refl) (λ _. refl) refl
follows b seat (Start number name call) caller calls h called =
    let s : BusState = b.state in
    let change : Change = Start number name call in
    client_case (Follows b change caller calls) s (client_of s number) (λ c. start s name) (passes b change caller calls h Gone refl refl (λ n held. cc))
    (λ c found. let there = is_there s number c found in
    let conn : caller ≡ Some (conn_of there.0) = called ∙ ap (option_map conn_of) there.1 in
    start_follows b change caller calls h name (record {
      running = passes b change caller calls h AlreadyRunning refl refl (λ n held. cc);
      unknown = passes b change caller calls h ServiceUnknown refl refl (λ n held. cc);
      full = passes b change caller calls h LimitsExceeded refl refl (λ n held. cc);
      passed = λ owner. passes b change caller calls h (Pass owner) refl refl (λ n held. cc);
      waits = (record { number = s.next_ticket; caller = conn_of there.0; call = call; message = None }, (refl, rw there.1 refl, rw conn refl));
    }))
follows b seat (Hold number name call message) caller calls h called =
    let s : BusState = b.state in
    let change : Change = Hold number name call message in
    client_case (Follows b change caller calls) s (client_of s number) (λ c. hold s name) (passes b change caller calls h Gone refl refl (λ n held. cc))
    (λ c found. let there = is_there s number c found in
    let conn : caller ≡ Some (conn_of there.0) = called ∙ ap (option_map conn_of) there.1 in
    hold_follows b change caller calls h name (record {
      running = passes b change caller calls h AlreadyRunning refl refl (λ n held. cc);
      unknown = passes b change caller calls h ServiceUnknown refl refl (λ n held. cc);
      full = passes b change caller calls h LimitsExceeded refl refl (λ n held. cc);
      passed = λ owner. passes b change caller calls h (Pass owner) refl refl (λ n held. cc);
      waits = (record { number = s.next_ticket; caller = conn_of there.0; call = call; message = Some message }, (refl, rw there.1 refl, rw conn refl));
    }) (option_and_then (connection_of s) (head_of s name)))
follows b seat (ChildEnded name number how) caller calls h called =
    cond_both (exited_well how) _ _ (Follows b (ChildEnded name number how) caller calls) (λ _. at_rest b (ChildEnded name number how) caller calls h (unchanged b.state Ignored) (refl, refl, refl) (λ _. refl) (λ _. refl) refl)
    (λ _. ends_follow b (ChildEnded name number how) caller calls h name number refl (λ _. refl) (λ _. refl) refl (find (is_run name number) b.state.starts) refl)
follows b seat (StartTimedOut name number) caller calls h called = ends_follow b (StartTimedOut name number) caller calls h name number refl (λ _. refl) (λ _. refl) refl (find (is_run name number) b.state.starts) refl

-- ## What settling a change does

pub holds_on : (b : WholeBus) (seat : ℕ) (change : Change) (caller : Option Conn) (told : NumberedOutcome) (calls : Calls) → IsAtStep b seat change caller told calls → IsHolding (bus_step b seat change).0 (calls_after change caller told calls)
holds_on b seat change caller told calls at_step =
    let keeps = (follows b seat change caller calls at_step.holding at_step.called).keeps in
    rw at_step.stepped (record {
      consistent = steps_keep_consistency b.state seat change at_step.holding.consistent;
      carried = keeps.carried;
      tickets = keeps.tickets;
      started = keeps.started;
      rise = keeps.rise;
      given = keeps.given;
    })

pub told_so : (b : WholeBus) (seat : ℕ) (change : Change) (caller : Option Conn) (told : NumberedOutcome) (calls : Calls) → IsAtStep b seat change caller told calls → told_whole change told calls ≡ (bus_step b seat change).1
told_so b seat change caller told calls at_step = ap (λ (o : NumberedOutcome). told_whole change o calls) at_step.stepped ∙ (follows b seat change caller calls at_step.holding at_step.called).told

-- the room that is asked for suffices
pub few_let_go : (change : Change) (caller : Option Conn) (told : NumberedOutcome) (calls : Calls) → IsSomeStep change caller told calls → length (once_told change told.tickets calls).given ≤ length told.tickets
few_let_go change caller told calls step_of =
    let at_step = step_of.1.1 in
    rw at_step.stepped (follows step_of.0 step_of.1.0 change caller calls at_step.holding at_step.called).few

pub one_fits : (change : Change) (caller : Option Conn) (told : NumberedOutcome) (calls : Calls) → IsSomeStep change caller told calls → is_some (caller_of change) ≡ true → (number : ℕ) → told.reply ≡ Held number → length (once_told change told.tickets calls).held < 512
one_fits change caller told calls step_of is number held =
    let at_step = step_of.1.1 in
    rw at_step.stepped ((follows step_of.0 step_of.1.0 change caller calls at_step.holding at_step.called).fits is number (ap (λ (o : NumberedOutcome). o.reply) (sym at_step.stepped) ∙ held))
