-- Runs of a bus: what is asked of it, in order, and what it tells.
use Rattle.std.specs.Prelude.{◌≡◌, ℕ, ◌-◌, Bool, true, false, Option, Some, None, List, [], ◌∷◌, map, codes}
use Rattle.names.specs.Texts.{Text}
use Rattle.match_rules.specs.declared.kind.MessageKind.TheVariants.{MethodCall, Signal}
use Rattle.match_rules.specs.Facts.{Facts}
use Rattle.owner_queues.specs.declared.request.Profile.{Profile}
use Rattle.owner_queues.specs.declared.request.RequestFlags.{RequestFlags}
use Rattle.seq_bus_core.specs.BusState.{BusState}
use Rattle.seq_bus_core.specs.Steps.{step}
use Rattle.seq_bus_core.specs.Answers.{Answer, answer}
use Rattle.seq_bus_core.specs.Recipients.{recipients}
use Rattle.seq_bus_core.specs.Histories.{opening}
use Rattle.seq_bus_core.specs.declared.change.Change.{Change}
use Rattle.seq_bus_core.specs.declared.change.CallHead.{CallHead}
use Rattle.seq_bus_core.specs.declared.connection.Conn.{Conn}
use Rattle.seq_bus_core.specs.declared.outcome.NumberedOutcome.{NumberedOutcome}
use Rattle.seq_bus_core.specs.declared.outcome.Reply.{Reply}
use Rattle.seq_bus_core.specs.declared.query.Query.{Query}
use Rattle.seq_bus_core.specs.declared.signal.BusSignal.{BusSignal}
use Rattle.seq_bus_core.specs.declared.signal.BusSignal.TheVariants.{NameOwnerChanged, NameLost, NameAcquired}
use Rattle.seq_bus_core.specs.declared.signal.AddressedSignal.{AddressedSignal}
use Rattle.seq_bus_core.specs.declared.verdict.Verdict.{Verdict}
use Rattle.seq_bus_core.specs.declared.verdict.VerdictKind.{VerdictKind}

-- a change that a seat makes, a query, or a message from a connection
pub data Deed : Type 0 where
  Makes : ℕ → Change → Deed
  Asks : Query → Deed
  Sends : ℕ → Facts → Deed

pub data Told : Type 0 where
  Outcome : NumberedOutcome → Told
  Answered : Option Answer → Told
  Routed : Verdict → Told

pub record Line : Type 0 where
  pub deed : Deed
  pub told : Told

abbrev pub told_by : BusState → Deed → Told
told_by s (Makes seat change) = Outcome (step s seat change).1
told_by s (Asks query) = Answered (answer s query)
told_by s (Sends from facts) = Routed (recipients s from facts)

abbrev pub state_by : BusState → Deed → BusState
state_by s (Makes seat change) = (step s seat change).0
state_by s (Asks query) = s
state_by s (Sends from facts) = s

abbrev pub told_in_order : BusState → List Deed → List Told
told_in_order s [] = []
told_in_order s (deed ∷ deeds) = told_by s deed ∷ told_in_order (state_by s deed) deeds

-- at each line the bus tells what stands there
abbrev pub IsRun : BusState → List Line → Type 0
IsRun s lines = told_in_order s (map (λ l. l.deed) lines) ≡ map (λ l. l.told) lines

-- ## Words of lines

-- one router, and no services
abbrev pub plain_bus : Profile → BusState
plain_bus profile = opening profile 1 []

abbrev pub makes : Change → NumberedOutcome → Line
makes change outcome = record { deed = Makes 1 change; told = Outcome outcome }

abbrev pub asks : Query → Option Answer → Line
asks query a = record { deed = Asks query; told = Answered a }

abbrev pub sends : ℕ → Facts → Verdict → Line
sends from facts verdict = record { deed = Sends from facts; told = Routed verdict }

-- with one router, connection n has slot n - 1
abbrev pub at : ℕ → Conn
at number = record { number = number; slot = number - 1; router = 1 }

abbrev pub told : Reply → List AddressedSignal → NumberedOutcome
told reply signals = record { reply = reply; signals = signals; tickets = []; start = None }

abbrev pub goes : VerdictKind → List ℕ → Verdict
goes kind to = record { kind = kind; to = map at to; monitors = [] }

abbrev pub addressed_to : BusSignal → List ℕ → List ℕ → AddressedSignal
addressed_to signal to monitors = record { signal = signal; to = map at to; monitors = map at monitors }

-- these signals where no connection has a rule, and none is a monitor
abbrev pub changed : Text → Option ℕ → Option ℕ → AddressedSignal
changed name old new = addressed_to (NameOwnerChanged name old new) [] []

abbrev pub loses : ℕ → Text → AddressedSignal
loses owner name = addressed_to (NameLost name owner) (owner ∷ []) []

abbrev pub acquires : ℕ → Text → AddressedSignal
acquires owner name = addressed_to (NameAcquired name owner) (owner ∷ []) []

abbrev pub flags : Bool → Bool → Bool → RequestFlags
flags allow replace no_queue = record { allow_replacement = allow; replace_existing = replace; do_not_queue = no_queue }

abbrev pub plain_request : RequestFlags
plain_request = flags false false false

abbrev pub a_call : CallHead
a_call = record { serial = 7; flags = 0 }

abbrev pub name_a : Text
name_a = codes "com.example.A"

abbrev pub call_to : Text → Facts
call_to name = record {
  kind = MethodCall;
  auto_start = true;
  sender = 0;
  path = Some (codes "/a");
  interface = Some (codes "a.b");
  member = Some (codes "C");
  destination = Some name;
  arguments = [];
}

abbrev pub a_signal : Facts
a_signal = record (call_to []) { kind = Signal; destination = None }
