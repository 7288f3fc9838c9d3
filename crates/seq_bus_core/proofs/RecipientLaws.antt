-- Recipients, each named once.
use Rattle.std.proofs.Common.{◌≡◌, ◌<◌, Bool, false, not, is_some, List}
use Rattle.std.specs.List.{filter}
use Rattle.std.proofs.lemmas.Bool.{cond_both, not-true}
use Rattle.match_rules.specs.Facts.{Facts}
use Rattle.seq_bus_core.specs.BusState.{BusState, Connection, conn_of}
use Rattle.seq_bus_core.specs.Recipients.{conns_that, monitors_shown, may_send, is_for_bus, destination_head, may_start, is_signal}
use Rattle.seq_bus_core.specs.Steps.{facts_of, recipients_of, is_among}
use Rattle.seq_bus_core.specs.Consistency.{IsConsistent}
use Rattle.seq_bus_core.specs.Laws.{Rise, RecipientsAreNamedOnce, SignalsGoToEachOnce}
use Rattle.seq_bus_core.specs.declared.connection.Conn.{Conn}
use Rattle.seq_bus_core.specs.declared.signal.BusSignal.{BusSignal}
use Rattle.seq_bus_core.specs.declared.signal.BusSignal.TheVariants.{NameOwnerChanged, NameLost, NameAcquired}
use Rattle.seq_bus_core.specs.declared.verdict.Verdict.{Verdict}
use Rattle.seq_bus_core.proofs.Lists.{each_passing, each_always, pairs_filter, pairs_map}

pub conns_rise : (s : BusState) → IsConsistent s → (test : Connection → Bool) → Rise (conns_that test s.connections)
conns_rise s h test =
    pairs_map (λ a b. a.number < b.number) (λ a b. a.number < b.number) conn_of (λ a b lower. lower) (filter test s.connections) (pairs_filter (λ a b. a.number < b.number) test s.connections h.connections_rise)

abbrev NamesOnce : Verdict → Type 0
NamesOnce v = Rise v.to × Rise v.monitors

pub recipients_are_named_once : RecipientsAreNamedOnce
recipients_are_named_once s from facts h =
    let heard : Facts = record facts { sender = from } in
    let shown : Rise (monitors_shown s heard) = conns_rise s h _ in
    cond_both (not (may_send s from)) _ _ NamesOnce (λ _. (tt, tt))
    (λ _. cond_both (is_for_bus heard) _ _ NamesOnce (λ _. (tt, shown))
    (λ _. cond_both (is_some (destination_head s heard)) _ _ NamesOnce (λ _. (conns_rise s h _, shown))
    (λ _. cond_both (may_start s heard) _ _ NamesOnce (λ _. (tt, shown))
    (λ _. cond_both (is_some heard.destination) _ _ NamesOnce (λ _. (tt, shown))
    (λ _. cond_both (is_signal heard.kind) _ _ NamesOnce (λ _. (conns_rise s h _, shown)) (λ _. (tt, shown)))))))

signal_recipients_rise : (s : BusState) → IsConsistent s → (signal : BusSignal) → Rise (recipients_of s signal)
signal_recipients_rise s h (NameOwnerChanged name old new) = conns_rise s h _
signal_recipients_rise s h (NameLost name owner) = conns_rise s h _
signal_recipients_rise s h (NameAcquired name owner) = conns_rise s h _

pub signals_go_to_each_once : SignalsGoToEachOnce
signals_go_to_each_once s signal h =
    let shown : List Conn = monitors_shown s (facts_of signal) in (
      signal_recipients_rise s h signal,
      pairs_filter (λ a b. a.number < b.number) (λ m. not (is_among (recipients_of s signal) m)) shown (conns_rise s h _),
      each_passing (λ m. Unit {0}) (λ m. is_among (recipients_of s signal) m ≡ false) (λ m. not (is_among (recipients_of s signal) m)) (λ m _ keeps. not-true (is_among (recipients_of s signal) m) keeps) shown (each_always (λ m. Unit {0}) (λ m. tt) shown),
    )
