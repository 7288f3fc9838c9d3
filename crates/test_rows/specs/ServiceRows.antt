-- Calls that wait for a service. (D-Bus Specification: "Message Bus Starting Services (Activation)".)
use Rattle.std.specs.Prelude.{ℕ, true, Some, None, List, [], ◌∷◌, ◌++◌, map, codes}
use Rattle.names.specs.Texts.{Text}
use Rattle.names.specs.UniqueName.{unique_text}
use Rattle.owner_queues.specs.declared.request.Profile.TheVariants.{One}
use Rattle.owner_queues.specs.declared.reply.Reply.TheVariants.{PrimaryOwner}
use Rattle.seq_bus_core.specs.BusState.{BusState}
use Rattle.seq_bus_core.specs.Histories.{opening}
use Rattle.seq_bus_core.specs.declared.change.Change.TheVariants.{Hello, Leave, Request, BecomeMonitor, Start, Hold, ChildEnded, StartTimedOut}
use Rattle.seq_bus_core.specs.declared.change.Ending.TheVariants.{Exit}
use Rattle.seq_bus_core.specs.declared.outcome.NumberedOutcome.{NumberedOutcome}
use Rattle.seq_bus_core.specs.declared.outcome.Reply.TheVariants.{Done, Welcome, OfQueue, Held, Pass, Ignored}
use Rattle.seq_bus_core.specs.declared.signal.AddressedSignal.{AddressedSignal}
use Rattle.seq_bus_core.specs.declared.ticket.Fate.{Fate}
use Rattle.seq_bus_core.specs.declared.ticket.Fate.TheVariants.{Served, Failed}
use Rattle.seq_bus_core.specs.declared.verdict.VerdictKind.TheVariants.{Start as ToBeStarted}
use Rattle.test_rows.specs.Runs.{Line, IsRun, makes, sends, at, told, goes, changed, loses, acquires, plain_request, a_call, call_to}
use Rattle.test_rows.specs.QueueRows.{says_hello}

abbrev pub service : Text
service = codes "com.example.S"

abbrev pub bus_with_service : BusState
bus_with_service = opening One 1 (service ∷ [])

abbrev pub asks_for_start : ℕ → NumberedOutcome → NumberedOutcome
asks_for_start number outcome = record outcome { start = Some number }

abbrev pub settles : Fate → List ℕ → NumberedOutcome → NumberedOutcome
settles fate numbers outcome = record outcome { tickets = map (λ n. record { fate = fate; number = n }) numbers }

-- two calls to the service, and one StartServiceByName
abbrev pub three_wait : List Line
three_wait =
    says_hello 1 ∷ says_hello 2
    ∷ sends 1 (call_to service) (goes ToBeStarted [])
    ∷ makes (Hold 1 service a_call []) (asks_for_start 1 (told (Held 1) []))
    ∷ makes (Hold 1 service a_call []) (told (Held 2) [])
    ∷ makes (Start 1 service a_call) (told (Held 3) [])
    ∷ []

-- The program takes its name. That it ended then changes nothing.
abbrev pub ServiceTakesItsName : Type 0
ServiceTakesItsName = IsRun bus_with_service (three_wait ++
    makes (ChildEnded service 1 (Exit 0)) (told Ignored [])
    ∷ makes (Request 2 service plain_request) (settles Served (1 ∷ 2 ∷ 3 ∷ []) (told (OfQueue PrimaryOwner) (changed service None (Some 2) ∷ acquires 2 service ∷ [])))
    ∷ makes (Hold 1 service a_call []) (told (Pass (at 2)) [])
    ∷ makes (ChildEnded service 1 (Exit 1)) (told Ignored [])
    ∷ [])

-- The program exits with 1. Then it is started again, and does not take its name in time.
abbrev pub ServiceFails : Type 0
ServiceFails = IsRun bus_with_service (three_wait ++
    makes (ChildEnded service 1 (Exit 1)) (settles Failed (1 ∷ 2 ∷ 3 ∷ []) (told Done []))
    ∷ makes (Start 1 service a_call) (asks_for_start 2 (told (Held 4) []))
    ∷ makes (StartTimedOut service 1) (told Ignored [])
    ∷ makes (StartTimedOut (codes "com.example.T") 2) (told Ignored [])
    ∷ makes (StartTimedOut service 2) (settles Failed (4 ∷ []) (told Done []))
    ∷ [])

-- connection 3, which has the slot that connection 1 had
abbrev pub to_3 : AddressedSignal → AddressedSignal
to_3 signal = record signal { to = record { number = 3; slot = 0; router = 1 } ∷ [] }

-- connection 2 is a monitor
abbrev pub shown_to_2 : AddressedSignal → AddressedSignal
shown_to_2 signal = record signal { monitors = at 2 ∷ [] }

-- The connection that called leaves, another one calls and becomes a monitor. Their tickets wait on and are served.
abbrev pub TicketsOutliveTheirCallers : Type 0
TicketsOutliveTheirCallers = IsRun bus_with_service (three_wait ++
    makes (Leave 1) (told Done (changed (unique_text 1) (Some 1) None ∷ []))
    ∷ makes (Hold 2 service a_call []) (told (Held 4) [])
    ∷ makes (BecomeMonitor 2 []) (told Done (loses 2 (unique_text 2) ∷ shown_to_2 (changed (unique_text 2) (Some 2) None) ∷ []))
    ∷ makes (Hello true) (told (Welcome (record { number = 3; slot = 0; router = 1 })) (shown_to_2 (changed (unique_text 3) None (Some 3)) ∷ shown_to_2 (to_3 (acquires 3 (unique_text 3))) ∷ []))
    ∷ makes (Request 3 service plain_request) (settles Served (1 ∷ 2 ∷ 3 ∷ 4 ∷ []) (told (OfQueue PrimaryOwner) (shown_to_2 (changed service None (Some 3)) ∷ shown_to_2 (to_3 (acquires 3 service)) ∷ [])))
    ∷ [])
