-- No monitor is among the recipients of a message.
use Rattle.std.proofs.Common.{◌≡◌, ℕ, ◌<◌, nat_eq, Bool, true, false, not, ◌&&◌, Option, Some, None, is_some, List, [], ◌∷◌, refl, sym, ap, ◌∙◌, arith}
use Rattle.std.specs.Prelude.{option_and_then, option_map}
use Rattle.std.specs.Option.{option_map_or}
use Rattle.std.specs.List.{AllByRecursion as Each, filter, find, list_all}
use Rattle.std.proofs.lemmas.Bool.{cond_both, true≢false, eqb-true, eq-eqb, and_parts, and_from, not-true, false_from_ne_true}
use Rattle.names.specs.Texts.{Text, text_eq}
use Rattle.names.specs.BusName.{is_bus, is_unique}
use Rattle.names.specs.UniqueName.{unique_text}
use Rattle.match_rules.specs.Facts.{Facts}
use Rattle.owner_queues.specs.Queues.{Queue, queue_head}
use Rattle.seq_bus_core.specs.BusState.{BusState, Connection, is_monitor, is_client, conn_of, queue_of, head_of}
use Rattle.seq_bus_core.specs.Recipients.{conns_that, watches, wants, monitors_shown, may_send, is_for_bus, destination_head, may_start, is_signal}
use Rattle.seq_bus_core.specs.Steps.{is_among}
use Rattle.seq_bus_core.specs.Consistency.{Pairwise, IsOwned, IsConsistent}
use Rattle.seq_bus_core.specs.Laws.{NobodyGetsAMessageTwice}
use Rattle.seq_bus_core.specs.declared.verdict.Verdict.{Verdict}
use Rattle.seq_bus_core.proofs.Lists.{each_weaker, each_both, each_passing, each_map, each_always, any_having, none_any, found_any, find_passes}
use Rattle.seq_bus_core.proofs.OwnedLemmas.{queue_of_each}

abbrev Lower : Connection → Connection → Type 0
Lower a b = a.number < b.number

-- a number is of one connection
alike : (connections : List Connection) → Pairwise Lower connections → Each (λ c. Each (λ d. nat_eq d.number c.number ≡ true → is_monitor d ≡ is_monitor c) connections) connections
alike [] h = tt
alike (x ∷ xs) h = (
  ((λ _. refl), each_weaker (Lower x) (λ d. nat_eq d.number x.number ≡ true → is_monitor d ≡ is_monitor x) (λ d lower same. absurd (above_itself x d lower (sym (eqb-true d.number x.number same)))) xs h.0),
  each_both (Lower x) (λ c. Each (λ d. nat_eq d.number c.number ≡ true → is_monitor d ≡ is_monitor c) xs) (λ c. Each (λ d. nat_eq d.number c.number ≡ true → is_monitor d ≡ is_monitor c) (x ∷ xs))
      (λ c lower others. ((λ same. absurd (above_itself x c lower (eqb-true x.number c.number same))), others)) xs h.0 (alike xs h.1),
)
  where
    above_itself : (a b : Connection) → Lower a b → a.number ≡ b.number → ⊥
    above_itself a b lower same = omega arith

-- where a number is that of a client, it is of no monitor
clients_only : (connections : List Connection) (number : ℕ) → Pairwise Lower connections → is_client connections number ≡ true → Each (λ d. nat_eq d.number number ≡ true → is_monitor d ≡ false) connections
clients_only connections number h client =
    any_having (λ c. Each (λ d. nat_eq d.number c.number ≡ true → is_monitor d ≡ is_monitor c) connections) (λ c. nat_eq c.number number && not (is_monitor c))
    (Each (λ d. nat_eq d.number number ≡ true → is_monitor d ≡ false) connections)
    (λ c is others.
    let parts : (nat_eq c.number number ≡ true) × (not (is_monitor c) ≡ true) = and_parts (nat_eq c.number number) (not (is_monitor c)) is in
    each_weaker (λ d. nat_eq d.number c.number ≡ true → is_monitor d ≡ is_monitor c) (λ d. nat_eq d.number number ≡ true → is_monitor d ≡ false)
    (λ d alike same. alike (ap (nat_eq d.number) (eqb-true c.number number parts.0) ∙ same) ∙ not-true (is_monitor c) parts.1) connections others) connections client (alike connections h)

named_client : (connections : List Connection) (name : Text) (number : ℕ) (o : Option Connection) → find (λ c. not (is_monitor c) && text_eq name (unique_text c.number)) connections ≡ o → option_map (λ c. c.number) o ≡ Some number → is_client connections number ≡ true
named_client connections name number None e head = cc
named_client connections name number (Some c) e head =
    let same : c.number ≡ number = cc in
    let parts = and_parts (not (is_monitor c)) (text_eq name (unique_text c.number)) (find_passes (λ c. not (is_monitor c) && text_eq name (unique_text c.number)) connections c e) in
    found_any (λ c. not (is_monitor c) && text_eq name (unique_text c.number)) (λ c. nat_eq c.number number && not (is_monitor c)) connections c e
    (and_from (nat_eq c.number number) (not (is_monitor c)) (eq-eqb c.number number same) parts.0)

queued_client : (connections : List Connection) (number : ℕ) (queue : Queue) → list_all (λ q. is_client connections q.connection) queue ≡ true → queue_head queue ≡ Some number → is_client connections number ≡ true
queued_client connections number [] clients head = cc
queued_client connections number (owner ∷ waiting) clients head =
    let same : owner.connection ≡ number = cc in
    ap (is_client connections) (sym same) ∙ (and_parts (is_client connections owner.connection) (list_all (λ q. is_client connections q.connection) waiting) clients).0

-- the head of a name is a connection and no monitor
pub head_is_client : (s : BusState) → IsConsistent s → (name : Text) (number : ℕ) → head_of s name ≡ Some number → is_client s.connections number ≡ true
head_is_client s h name number =
    cond_both (is_bus name) _ _ (λ (o : Option ℕ). o ≡ Some number → is_client s.connections number ≡ true) (λ _ head. absurd (none_is_not_some head))
    (λ _. cond_both (is_unique name) _ _ (λ (o : Option ℕ). o ≡ Some number → is_client s.connections number ≡ true)
    (λ _ head. named_client s.connections name number (find (λ c. not (is_monitor c) && text_eq name (unique_text c.number)) s.connections) refl head)
    (λ _ head. queued_client s.connections number (queue_of s.names name)
    (queue_of_each (λ queue. list_all (λ q. is_client s.connections q.connection) queue ≡ true) refl s.names name
    (each_weaker (IsOwned s.connections) (λ n. list_all (λ q. is_client s.connections q.connection) n.queue ≡ true) (λ n o. o.clients) s.names h.names_owned)) head))
  where
    none_is_not_some : None ≡ Some number → ⊥
    none_is_not_some e = cc

destination_client : (s : BusState) → IsConsistent s → (destination : Option Text) (number : ℕ) → option_and_then (head_of s) destination ≡ Some number → is_client s.connections number ≡ true
destination_client s h None number e = cc
destination_client s h (Some name) number e = head_is_client s h name number e

something_passes : {X : Type 0} (test : X → Bool) (o : Option X) → option_map_or test o false ≡ true → is_some o ≡ true
something_passes test None e = absurd (true≢false (sym e))
something_passes test (Some x) e = refl

watcher_is_monitor : (s : BusState) (facts : Facts) (c : Connection) → watches s facts c ≡ true → is_monitor c ≡ true
watcher_is_monitor s facts c e = something_passes _ c.monitor e

-- connections of which none is a monitor, and the monitors that are shown a message
apart : (s : BusState) → IsConsistent s → (facts : Facts) (test : Connection → Bool) → Each (λ d. test d ≡ true → is_monitor d ≡ false) s.connections → Each (λ m. is_among (conns_that test s.connections) m ≡ false) (monitors_shown s facts)
apart s h facts test clients =
    each_map (λ c. is_among (conns_that test s.connections) (conn_of c) ≡ false) (λ m. is_among (conns_that test s.connections) m ≡ false) conn_of (λ c is. is) (filter (watches s facts) s.connections)
    (each_passing (λ c. Each (λ d. nat_eq d.number c.number ≡ true → is_monitor d ≡ is_monitor c) s.connections) (λ c. is_among (conns_that test s.connections) (conn_of c) ≡ false) (watches s facts)
    (λ c others watching.
    none_any (λ k. nat_eq k.number c.number) (conns_that test s.connections)
    (each_map (λ d. nat_eq d.number c.number ≡ false) (λ k. nat_eq k.number c.number ≡ false) conn_of (λ d differ. differ) (filter test s.connections)
    (each_passing (λ d. (nat_eq d.number c.number ≡ true → is_monitor d ≡ is_monitor c) × (test d ≡ true → is_monitor d ≡ false)) (λ d. nat_eq d.number c.number ≡ false) test
    (λ d both passes. false_from_ne_true (nat_eq d.number c.number) (λ same. true≢false (sym (both.0 same ∙ watcher_is_monitor s facts c watching) ∙ both.1 passes))) s.connections
    (each_both (λ d. nat_eq d.number c.number ≡ true → is_monitor d ≡ is_monitor c) (λ d. test d ≡ true → is_monitor d ≡ false) (λ d. (nat_eq d.number c.number ≡ true → is_monitor d ≡ is_monitor c) × (test d ≡ true → is_monitor d ≡ false)) (λ d a b. (a, b)) s.connections others clients)))) s.connections (alike s.connections h.connections_rise))

head_clients : (s : BusState) → IsConsistent s → (o : Option ℕ) → ((number : ℕ) → o ≡ Some number → is_client s.connections number ≡ true) → Each (λ d. option_map_or (λ n. nat_eq d.number n) o false ≡ true → is_monitor d ≡ false) s.connections
head_clients s h None client = each_always (λ d. false ≡ true → is_monitor d ≡ false) (λ d e. absurd (true≢false (sym e))) s.connections
head_clients s h (Some number) client = clients_only s.connections number h.connections_rise (client number refl)

wanting_clients : (s : BusState) (facts : Facts) → Each (λ d. wants s facts d ≡ true → is_monitor d ≡ false) s.connections
wanting_clients s facts = each_always (λ d. wants s facts d ≡ true → is_monitor d ≡ false) (λ d want. not-true (is_monitor d) (and_parts (not (is_monitor d)) _ want).0) s.connections

abbrev IsApart : Verdict → Type 0
IsApart v = Each (λ m. is_among v.to m ≡ false) v.monitors

pub nobody_gets_a_message_twice : NobodyGetsAMessageTwice
nobody_gets_a_message_twice s from facts h =
    let heard : Facts = record facts { sender = from } in
    let nobody : Each (λ m. is_among [] m ≡ false) (monitors_shown s heard) = each_always (λ m. is_among [] m ≡ false) (λ m. refl) (monitors_shown s heard) in
    cond_both (not (may_send s from)) _ _ IsApart (λ _. tt)
    (λ _. cond_both (is_for_bus heard) _ _ IsApart (λ _. nobody)
    (λ _. cond_both (is_some (destination_head s heard)) _ _ IsApart (λ _. apart s h heard _ (head_clients s h (destination_head s heard) (destination_client s h heard.destination)))
    (λ _. cond_both (may_start s heard) _ _ IsApart (λ _. nobody)
    (λ _. cond_both (is_some heard.destination) _ _ IsApart (λ _. nobody)
    (λ _. cond_both (is_signal heard.kind) _ _ IsApart (λ _. apart s h heard (wants s heard) (wanting_clients s heard)) (λ _. nobody))))))
