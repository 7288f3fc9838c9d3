-- The states that a change can leave: a property of each of them is one of every step.
use Rattle.std.proofs.Common.{◌≡◌, ℕ, ◌+◌, nat_lt, Bool, true, false, not, ◌||◌, Option, Some, None, is_some, List, [], map, refl}
use Rattle.std.specs.Prelude.{option_and_then}
use Rattle.std.specs.List.{filter, find, list_any}
use Rattle.std.proofs.lemmas.Bool.{cond_both, not-true, not-false, true≢false, or_parts}
use Rattle.names.specs.Texts.{Text}
use Rattle.names.specs.BusName.{is_bus}
use Rattle.match_rules.specs.Rules.{Rule}
use Rattle.match_rules.specs.OwnedRules.{OwnedRule, is_rule_of, without_first}
use Rattle.owner_queues.specs.Queues.{requested, released}
use Rattle.owner_queues.specs.declared.request.RequestFlags.{RequestFlags}
use Rattle.seq_bus_core.specs.BusState.{BusState, Connection, RunningStart, queue_of, with_queue, head_of, start_of, conn_of, is_client, client_of, connection_of, max_number, is_service}
use Rattle.seq_bus_core.specs.Steps.{Stepped, add_match, announced, become_monitor, exited_well, fail_with_start, for_client, free_slot, has_room_for_ticket, hello, hold, is_reserved, is_run, is_taken, is_within_names, is_within_rules, leave, owned_outcome, pass_or_wait, release, release_with_queue, remove_match, request, signals_of_monitor, slots_of, start, step, unchanged, wait_for, wait_with_start, waiting_if, welcomed, with_connection, with_monitor, with_owned, with_rule, without_connection}
use Rattle.seq_bus_core.specs.declared.change.Change.{Change}
use Rattle.seq_bus_core.specs.declared.change.Change.TheVariants.{Hello, Leave, Request, Release, AddMatch, RemoveMatch, BecomeMonitor, Start, Hold, ChildEnded, StartTimedOut}
use Rattle.seq_bus_core.specs.declared.outcome.Reply.TheVariants.{Gone, LimitsExceeded, Done, InvalidName, RuleNotFound, AccessDenied, AlreadyRunning, ServiceUnknown, Pass, Ignored}
use Rattle.seq_bus_core.specs.declared.outcome.Reply.{Reply}
use Rattle.seq_bus_core.proofs.Lists.{find_passes}
use Rattle.seq_bus_core.proofs.ClientLemmas.{client_found}

-- the changes by which a connection may come to wait
abbrev pub Waits : Change → ℕ → Type 0
Waits (Start c name call) d = c ≡ d
Waits (Hold c name call message) d = c ≡ d
Waits (Hello privileged) d = ⊥
Waits (Leave c) d = ⊥
Waits (Request c name flags) d = ⊥
Waits (Release c name) d = ⊥
Waits (AddMatch c rule) d = ⊥
Waits (RemoveMatch c rule) d = ⊥
Waits (BecomeMonitor c rules) d = ⊥
Waits (ChildEnded name number how) d = ⊥
Waits (StartTimedOut name number) d = ⊥

-- what a step can be: the state and the outcome
pub record EachOutcome (s : BusState) (change : Change) (P : Stepped → Type 0) : Type 0 where
  pub same : (reply : Reply) → P (unchanged s reply)
  pub hello : (c : Connection) (seat : ℕ) → c.number ≡ s.next_number → nat_lt max_number s.next_number ≡ false → free_slot s seat ≡ Some c.slot → P (welcomed s c)
  pub leave : (number : ℕ) (c : Connection) → P (leave s number (Some c))
  pub request : (number : ℕ) (name : Text) (flags : RequestFlags) → is_client s.connections number ≡ true → is_reserved name ≡ false → let result = requested s.profile number flags (queue_of s.names name) in is_within_names (with_owned s name result.0) number ≡ true → P (with_owned s name result.0, owned_outcome s (with_owned s name result.0) name result)
  pub release : (number : ℕ) (name : Text) → is_reserved name ≡ false → P (release_with_queue s name (released number (queue_of s.names name)))
  pub add_match : (number : ℕ) (rule : Rule) → is_client s.connections number ≡ true → is_within_rules (with_rule s number rule) number ≡ true → P (announced (with_rule s number rule) Done [])
  pub remove_match : (test : OwnedRule → Bool) → P (announced (record s { rules = without_first test s.rules }) Done [])
  pub monitor : (number : ℕ) (rules : List Rule) → P (announced (with_monitor s number rules) Done (signals_of_monitor s number))
  pub first_ticket : (c : ℕ) → is_client s.connections c ≡ true → Waits change c → (name : Text) → option_and_then (connection_of s) (head_of s name) ≡ None → start_of s name ≡ None → has_room_for_ticket s name ≡ true → P (wait_with_start s name None)
  pub later_ticket : (c : ℕ) → is_client s.connections c ≡ true → Waits change c → (name : Text) (r : RunningStart) → start_of s name ≡ Some r → has_room_for_ticket s name ≡ true → P (wait_with_start s name (Some r))
  pub failed : (name : Text) (number : ℕ) (r : RunningStart) → find (is_run name number) s.starts ≡ Some r → P (fail_with_start s name number (Some r))

-- the slot that a Hello gets is no other connection's
pub free_is_free : (s : BusState) (seat slot : ℕ) → free_slot s seat ≡ Some slot → is_taken s slot ≡ false
free_is_free s seat slot e = not-true (is_taken s slot) (find_passes (λ slot. not (is_taken s slot)) (slots_of s seat) slot e)

client_case : (s : BusState) (P : Stepped → Type 0) (number : ℕ) (o : Option Connection) (act : Connection → Stepped) → client_of s number ≡ o → P (unchanged s Gone) → (is_client s.connections number ≡ true → (c : Connection) → P (act c)) → P (for_client s o act)
client_case s P number None act e gone does = gone
client_case s P number (Some c) act e gone does = does (client_found s number c e) c

hello_case : (s : BusState) (change : Change) (P : Stepped → Type 0) (h : EachOutcome s change P) (seat : ℕ) (privileged : Bool) (o : Option ℕ) → free_slot s seat ≡ o → P (hello s seat privileged o)
hello_case s change P h seat privileged None e = h.same LimitsExceeded
hello_case s change P h seat privileged (Some slot) e =
    let c : Connection = record { number = s.next_number; router = seat; slot = slot; privileged = privileged; monitor = None } in
    cond_both (nat_lt max_number s.next_number) (unchanged s LimitsExceeded) (welcomed s c) P (λ _. h.same LimitsExceeded) (λ numbered. h.hello c seat refl numbered e)

leave_case : (s : BusState) (change : Change) (P : Stepped → Type 0) (h : EachOutcome s change P) (number : ℕ) (o : Option Connection) → P (leave s number o)
leave_case s change P h number None = h.same Gone
leave_case s change P h number (Some c) = h.leave number c

ticket_case : (s : BusState) (change : Change) (P : Stepped → Type 0) (h : EachOutcome s change P) (c : ℕ) → is_client s.connections c ≡ true → Waits change c → (name : Text) (o : Option RunningStart) → option_and_then (connection_of s) (head_of s name) ≡ None → has_room_for_ticket s name ≡ true → start_of s name ≡ o → P (wait_with_start s name o)
ticket_case s change P h c client waits name None unowned room e = h.first_ticket c client waits name unowned e room
ticket_case s change P h c client waits name (Some r) unowned room e = h.later_ticket c client waits name r e room

wait_case : (s : BusState) (change : Change) (P : Stepped → Type 0) (h : EachOutcome s change P) (c : ℕ) → is_client s.connections c ≡ true → Waits change c → (name : Text) → option_and_then (connection_of s) (head_of s name) ≡ None → P (wait_for s name)
wait_case s change P h c client waits name unowned =
    cond_both (not (is_service s name)) _ _ P (λ _. h.same ServiceUnknown)
    (λ _. cond_both (not (has_room_for_ticket s name)) _ _ P (λ _. h.same LimitsExceeded) (λ room. ticket_case s change P h c client waits name (start_of s name) unowned (not-false (has_room_for_ticket s name) room) refl))

no_head : (s : BusState) (o : Option ℕ) → is_some o ≡ false → option_and_then (connection_of s) o ≡ None
no_head s None e = refl
no_head s (Some n) e = absurd (true≢false e)

start_case : (s : BusState) (change : Change) (P : Stepped → Type 0) (h : EachOutcome s change P) (c : ℕ) → is_client s.connections c ≡ true → Waits change c → (name : Text) → P (start s name)
start_case s change P h c client waits name =
    cond_both (is_bus name || is_some (head_of s name)) _ _ P (λ _. h.same AlreadyRunning)
    (λ free. let parts : (is_bus name ≡ false) × (is_some (head_of s name) ≡ false) = or_parts (is_bus name) (is_some (head_of s name)) free in
    wait_case s change P h c client waits name (no_head s (head_of s name) parts.1))

hold_case : (s : BusState) (change : Change) (P : Stepped → Type 0) (h : EachOutcome s change P) (c : ℕ) → is_client s.connections c ≡ true → Waits change c → (name : Text) (o : Option Connection) → option_and_then (connection_of s) (head_of s name) ≡ o → P (pass_or_wait s name o)
hold_case s change P h c client waits name None e = wait_case s change P h c client waits name e
hold_case s change P h c client waits name (Some owner) e = h.same (Pass (conn_of owner))

fail_case : (s : BusState) (change : Change) (P : Stepped → Type 0) (h : EachOutcome s change P) (name : Text) (number : ℕ) (o : Option RunningStart) → find (is_run name number) s.starts ≡ o → P (fail_with_start s name number o)
fail_case s change P h name number None e = h.same Ignored
fail_case s change P h name number (Some r) e = h.failed name number r e

pub outcome_cases : (s : BusState) (P : Stepped → Type 0) (seat : ℕ) (change : Change) → EachOutcome s change P → P (step s seat change)
outcome_cases s P seat (Hello privileged) h = hello_case s (Hello privileged) P h seat privileged (free_slot s seat) refl
outcome_cases s P seat (Leave number) h = leave_case s (Leave number) P h number (connection_of s number)
outcome_cases s P seat (Request number name flags) h =
    client_case s P number (client_of s number) (λ c. request s number name flags) refl (h.same Gone)
    (λ client c. cond_both (is_reserved name) _ _ P (λ _. h.same InvalidName)
    (λ free. let result = requested s.profile number flags (queue_of s.names name) in
    cond_both (is_within_names (with_owned s name result.0) number) _ _ P (λ within. h.request number name flags client free within) (λ _. h.same LimitsExceeded)))
outcome_cases s P seat (Release number name) h =
    client_case s P number (client_of s number) (λ c. release s number name) refl (h.same Gone)
    (λ client c. cond_both (is_reserved name) _ _ P (λ _. h.same InvalidName) (λ free. h.release number name free))
outcome_cases s P seat (AddMatch number rule) h =
    client_case s P number (client_of s number) (λ c. add_match s number rule) refl (h.same Gone)
    (λ client c. cond_both (is_within_rules (with_rule s number rule) number) _ _ P (λ within. h.add_match number rule client within) (λ _. h.same LimitsExceeded))
outcome_cases s P seat (RemoveMatch number rule) h =
    client_case s P number (client_of s number) (λ c. remove_match s number rule) refl (h.same Gone)
    (λ client c. cond_both (list_any (is_rule_of number rule) s.rules) _ _ P (λ _. h.remove_match (is_rule_of number rule)) (λ _. h.same RuleNotFound))
outcome_cases s P seat (BecomeMonitor number rules) h =
    client_case s P number (client_of s number) (λ c. become_monitor s c rules) refl (h.same Gone)
    (λ client c. cond_both c.privileged _ _ P (λ _. h.monitor c.number rules) (λ _. h.same AccessDenied))
outcome_cases s P seat (Start number name call) h =
    client_case s P number (client_of s number) (λ c. start s name) refl (h.same Gone) (λ client c. start_case s (Start number name call) P h number client refl name)
outcome_cases s P seat (Hold number name call message) h =
    client_case s P number (client_of s number) (λ c. hold s name) refl (h.same Gone)
    (λ client c. hold_case s (Hold number name call message) P h number client refl name (option_and_then (connection_of s) (head_of s name)) refl)
outcome_cases s P seat (ChildEnded name number how) h =
    cond_both (exited_well how) _ _ P (λ _. h.same Ignored) (λ _. fail_case s (ChildEnded name number how) P h name number (find (is_run name number) s.starts) refl)
outcome_cases s P seat (StartTimedOut name number) h = fail_case s (StartTimedOut name number) P h name number (find (is_run name number) s.starts) refl

-- what the state after a step can be
pub record AfterEach (s : BusState) (P : BusState → Type 0) : Type 0 where
  pub same : P s
  pub hello : (c : Connection) (seat : ℕ) → c.number ≡ s.next_number → nat_lt max_number s.next_number ≡ false → free_slot s seat ≡ Some c.slot → P (with_connection s c)
  pub leave : (number : ℕ) → P (without_connection s number)
  pub request : (number : ℕ) (name : Text) (flags : RequestFlags) → is_client s.connections number ≡ true → is_reserved name ≡ false → is_within_names (with_owned s name (requested s.profile number flags (queue_of s.names name)).0) number ≡ true → P (with_owned s name (requested s.profile number flags (queue_of s.names name)).0)
  pub release : (number : ℕ) (name : Text) → is_reserved name ≡ false → P (record s { names = with_queue name (released number (queue_of s.names name)).0 s.names })
  pub add_match : (number : ℕ) (rule : Rule) → is_client s.connections number ≡ true → is_within_rules (with_rule s number rule) number ≡ true → P (with_rule s number rule)
  pub remove_match : (test : OwnedRule → Bool) → P (record s { rules = without_first test s.rules })
  pub monitor : (number : ℕ) (rules : List Rule) → P (with_monitor s number rules)
  pub first_ticket : (name : Text) → option_and_then (connection_of s) (head_of s name) ≡ None → start_of s name ≡ None → has_room_for_ticket s name ≡ true → P (wait_with_start s name None).0
  pub later_ticket : (name : Text) → has_room_for_ticket s name ≡ true → P (record s { starts = map (waiting_if name s.next_ticket) s.starts; next_ticket = s.next_ticket + 1 })
  pub failed : (test : RunningStart → Bool) → P (record s { starts = filter test s.starts })

pub step_cases : (s : BusState) (P : BusState → Type 0) → AfterEach s P → (seat : ℕ) (change : Change) → P (step s seat change).0
step_cases s P h seat change =
    outcome_cases s (λ r. P r.0) seat change
    (record {
      same = λ _. h.same;
      hello = h.hello;
      leave = λ number _. h.leave number;
      request = h.request;
      release = h.release;
      add_match = h.add_match;
      remove_match = h.remove_match;
      monitor = h.monitor;
      first_ticket = λ _ _ _ name unowned none room. h.first_ticket name unowned none room;
      later_ticket = λ _ _ _ name _ _ room. h.later_ticket name room;
      failed = λ name number _ _. h.failed (λ q. not (is_run name number q));
    })
