-- Who gets a message, and which monitors are shown it.
-- (D-Bus Specification: "Message Bus Message Routing", "Eavesdropping", "org.freedesktop.DBus.Monitoring.BecomeMonitor".)
use Rattle.std.specs.Prelude.{ℕ, Bool, true, false, ◌&&◌, ◌||◌, not, ◌==◌, Option, is_some, option_and_then, List, [], map, filter, length, if◌then◌else◌}
use Rattle.std.specs.List.{list_any}
use Rattle.std.specs.Option.{option_map_or}
use Rattle.names.specs.BusName.{is_bus}
use Rattle.match_rules.specs.declared.kind.MessageKind.{MessageKind}
use Rattle.match_rules.specs.declared.kind.MessageKind.TheVariants.{MethodCall, MethodReturn, Error, Signal, Unknown}
use Rattle.match_rules.specs.Facts.{Facts, bus_number}
use Rattle.match_rules.specs.Fitting.{Heads, fits}
use Rattle.match_rules.specs.Rules.{Rule}
use Rattle.match_rules.specs.OwnedRules.{OwnedRule, has_fitting}
use Rattle.match_rules.specs.Lists.{inserted_by}
use Rattle.seq_bus_core.specs.BusState.{BusState, Connection, is_monitor, conn_of, is_client, head_of, is_service}
use Rattle.seq_bus_core.specs.declared.connection.Conn.{Conn}
use Rattle.seq_bus_core.specs.declared.signal.AddressedSignal.{AddressedSignal}
use Rattle.seq_bus_core.specs.declared.signal.BusSignal.{BusSignal}
use Rattle.seq_bus_core.specs.declared.verdict.VerdictKind.{VerdictKind}
use Rattle.seq_bus_core.specs.declared.verdict.VerdictKind.TheVariants.{Plain, Bus, Start, Nobody, Absent}
use Rattle.seq_bus_core.specs.declared.verdict.Verdict.{Verdict}

abbrev pub is_call : MessageKind → Bool
is_call MethodCall = true
is_call MethodReturn = false
is_call Error = false
is_call Signal = false
is_call (Unknown code) = false

abbrev pub is_signal : MessageKind → Bool
is_signal MethodCall = false
is_signal MethodReturn = false
is_signal Error = false
is_signal Signal = true
is_signal (Unknown code) = false

-- the connections that pass a test, in order
abbrev pub conns_that : (Connection → Bool) → List Connection → List Conn
conns_that test connections = map conn_of (filter test connections)

-- the connection of a number, if it is there
abbrev pub conn_at : BusState → Option ℕ → List Conn
conn_at s number = conns_that (λ c. option_map_or (λ n. c.number == n) number false) s.connections

-- a signal of the bus that goes to these connections and is shown to these monitors
abbrev pub addressed_to : BusSignal → List Conn → List Conn → AddressedSignal
addressed_to signal to monitors = record { signal = signal; to = to; monitors = monitors }

-- the connections with one more, which stands before the first with a higher number
abbrev pub inserted_conn : Conn → List Conn → List Conn
inserted_conn conn conns = inserted_by (λ c. c.number) conn conns

-- A monitor is shown everything where it has no rules, or what one of them fits.
abbrev pub watched : Heads → Facts → List Rule → Bool
watched heads facts rules = (length rules == 0) || list_any (λ rule. fits heads rule facts) rules

abbrev pub watches_by : Heads → Facts → Connection → Bool
watches_by heads facts c = option_map_or (watched heads facts) c.monitor false

abbrev pub watches : BusState → Facts → Connection → Bool
watches s facts c = watches_by (head_of s) facts c

abbrev pub monitors_shown : BusState → Facts → List Conn
monitors_shown s facts = conns_that (watches s facts) s.connections

-- a rule that the connection added fits
abbrev pub wants_by : Heads → List OwnedRule → Facts → Connection → Bool
wants_by heads rules facts c = not (is_monitor c) && has_fitting heads rules facts c.number

abbrev pub wants : BusState → Facts → Connection → Bool
wants s facts c = wants_by (head_of s) s.rules facts c

abbrev pub all_that_want : BusState → Facts → List Conn
all_that_want s facts = conns_that (wants s facts) s.connections

-- the bus itself, or a connection that is no monitor
abbrev pub may_send : BusState → ℕ → Bool
may_send s sender = (sender == bus_number) || is_client s.connections sender

-- A call without a destination is for the bus.
abbrev pub is_for_bus : Facts → Bool
is_for_bus facts = option_map_or is_bus facts.destination (is_call facts.kind)

-- the head of the message's destination
abbrev pub destination_head : BusState → Facts → Option ℕ
destination_head s facts = option_and_then (head_of s) facts.destination

-- a call that may start the service of its destination
abbrev pub may_start : BusState → Facts → Bool
may_start s facts = is_call facts.kind && facts.auto_start && option_map_or (is_service s) facts.destination false

abbrev pub verdict : VerdictKind → List Conn → List Conn → Verdict
verdict kind to monitors = record { kind = kind; to = to; monitors = monitors }

-- where a message with these facts goes: the first case that holds
abbrev pub verdict_of : BusState → Facts → Verdict
verdict_of s facts =
    if not (may_send s facts.sender) then verdict Absent [] []
    else if is_for_bus facts then verdict Bus [] (monitors_shown s facts)
    else if is_some (destination_head s facts) then verdict Plain (conn_at s (destination_head s facts)) (monitors_shown s facts)
    else if may_start s facts then verdict Start [] (monitors_shown s facts)
    else if is_some facts.destination then verdict Nobody [] (monitors_shown s facts)
    else if is_signal facts.kind then verdict Plain (all_that_want s facts) (monitors_shown s facts)
    else verdict Nobody [] (monitors_shown s facts)

-- where a message from this connection goes, whatever sender its facts name
abbrev pub recipients : BusState → ℕ → Facts → Verdict
recipients s from facts = verdict_of s (record facts { sender = from })
