-- The state of a message bus: its connections, the queues of its names, the match rules and the starts that run.
-- (D-Bus Specification: "Message Bus Specification".)
use Rattle.std.specs.Prelude.{ℕ, Bool, ◌&&◌, not, ◌==◌, Option, None, is_some, List, [], ◌∷◌, ◌++◌, length, filter, find, sum_by, count_by, option_map, if◌then◌else◌}
use Rattle.std.specs.List.{list_any}
use Rattle.names.specs.Texts.{Text, text_eq, text_lt}
use Rattle.names.specs.BusName.{is_bus, is_unique}
use Rattle.names.specs.UniqueName.{unique_text}
use Rattle.match_rules.specs.Rules.{Rule}
use Rattle.match_rules.specs.OwnedRules.{OwnedRule}
use Rattle.owner_queues.specs.Queues.{Queue, queue_head, is_in}
use Rattle.owner_queues.specs.declared.request.Profile.{Profile}
use Rattle.seq_bus_core.specs.declared.connection.Conn.{Conn}
use Rattle.seq_bus_core.specs.declared.limits.TheConstants.{MAX_CONNECTIONS, MAX_NAMES, MAX_QUEUED, MAX_NAMES_OF_ONE, MAX_RULES, MAX_RULES_OF_ONE, MAX_TICKETS, MAX_NUMBER}

-- a connection; a monitor has the rules by which it is shown messages
pub record Connection : Type 0 where
  pub number : ℕ
  pub router : ℕ
  pub slot : ℕ
  pub privileged : Bool
  pub monitor : Option (List Rule)

-- a well-known name that has an owner, and its queue
pub record OwnedName : Type 0 where
  pub name : Text
  pub queue : Queue

-- a start that runs, and the numbers of the tickets that wait for it
pub record RunningStart : Type 0 where
  pub name : Text
  pub number : ℕ
  pub tickets : List ℕ

-- Connections and starts stand by rising number, names by rising bytes, rules and tickets in order of arrival.
pub record BusState : Type 0 where
  pub profile : Profile
  pub routers : ℕ
  pub services : List Text
  pub connections : List Connection
  pub names : List OwnedName
  pub rules : List OwnedRule
  pub starts : List RunningStart
  pub next_number : ℕ
  pub next_ticket : ℕ
  pub next_start : ℕ

-- ## Connections

abbrev pub is_monitor : Connection → Bool
is_monitor c = is_some c.monitor

-- where a connection is reached
abbrev pub conn_of : Connection → Conn
conn_of c = record { number = c.number; slot = c.slot; router = c.router }

-- the connection of this number
abbrev pub connection_of : BusState → ℕ → Option Connection
connection_of s number = find (λ c. c.number == number) s.connections

-- whether there is a connection of this number that is no monitor
abbrev pub is_client : List Connection → ℕ → Bool
is_client connections number = list_any (λ c. (c.number == number) && not (is_monitor c)) connections

-- the connection of this number, if it is no monitor
abbrev pub client_of : BusState → ℕ → Option Connection
client_of s number = find (λ c. (c.number == number) && not (is_monitor c)) s.connections

-- ## Names

-- the queue of a name, which is empty where the name has no owner
abbrev pub queue_of : List OwnedName → Text → Queue
queue_of [] name = []
queue_of (n ∷ names) name = if text_eq n.name name then n.queue else queue_of names name

-- a name stands among the names while somebody is in its queue
abbrev pub kept_name : Text → Queue → List OwnedName
kept_name name [] = []
kept_name name (owner ∷ waiting) = record { name = name; queue = owner ∷ waiting } ∷ []

-- the names, once this one has this queue
abbrev pub with_queue : Text → Queue → List OwnedName → List OwnedName
with_queue name queue names = filter (λ n. text_lt n.name name) names ++ kept_name name queue ++ filter (λ n. text_lt name n.name) names

-- the connection whose unique name this is, if it is no monitor
abbrev pub client_named : List Connection → Text → Option ℕ
client_named connections name = option_map (λ c. c.number) (find (λ c. not (is_monitor c) && text_eq name (unique_text c.number)) connections)

-- The head of a name: the connection that messages to it are delivered to. The bus itself is no connection.
abbrev pub head_of : BusState → Text → Option ℕ
head_of s name =
    if is_bus name then None
    else if is_unique name then client_named s.connections name
    else queue_head (queue_of s.names name)

abbrev pub is_service : BusState → Text → Bool
is_service s name = list_any (λ service. text_eq service name) s.services

-- the start of this name that runs
abbrev pub start_of : BusState → Text → Option RunningStart
start_of s name = find (λ r. text_eq r.name name) s.starts

-- ## Limits

abbrev pub max_connections : ℕ
max_connections = MAX_CONNECTIONS

-- well-known names that have an owner
abbrev pub max_names : ℕ
max_names = MAX_NAMES

-- places in all queues, those of the owners included
abbrev pub max_queued : ℕ
max_queued = MAX_QUEUED

-- names that one connection owns or waits for
abbrev pub max_names_of_one : ℕ
max_names_of_one = MAX_NAMES_OF_ONE

-- rules that were added, those of monitors not counted
abbrev pub max_rules : ℕ
max_rules = MAX_RULES

abbrev pub max_rules_of_one : ℕ
max_rules_of_one = MAX_RULES_OF_ONE

abbrev pub max_tickets : ℕ
max_tickets = MAX_TICKETS

-- the last number that a connection, a ticket or a start can have
abbrev pub max_number : ℕ
max_number = MAX_NUMBER

abbrev pub queued_in : List OwnedName → ℕ
queued_in names = sum_by (λ n. length n.queue) names

abbrev pub names_of : ℕ → List OwnedName → ℕ
names_of connection names = count_by (λ n. is_in connection n.queue) names

abbrev pub tickets_in : List RunningStart → ℕ
tickets_in starts = sum_by (λ r. length r.tickets) starts
