-- Monitors. (D-Bus Specification: "org.freedesktop.DBus.Monitoring.BecomeMonitor".)
use Rattle.std.specs.Prelude.{false, Some, None, [], ◌∷◌, codes}
use Rattle.names.specs.BusName.{bus_text}
use Rattle.names.specs.UniqueName.{unique_text}
use Rattle.owner_queues.specs.declared.request.Profile.TheVariants.{One}
use Rattle.owner_queues.specs.declared.reply.Reply.TheVariants.{Released}
use Rattle.match_rules.specs.declared.key.Key.TheVariants.{Member}
use Rattle.seq_bus_core.specs.Answers.{NameList}
use Rattle.seq_bus_core.specs.declared.change.Change.TheVariants.{Hello, Leave, Release, AddMatch, BecomeMonitor}
use Rattle.seq_bus_core.specs.declared.outcome.Reply.TheVariants.{Gone, Done, OfQueue, AccessDenied, Welcome}
use Rattle.seq_bus_core.specs.declared.query.Query.TheVariants.{GetNameOwner, ListNames}
use Rattle.seq_bus_core.specs.declared.signal.BusSignal.TheVariants.{NameOwnerChanged, NameLost, NameAcquired}
use Rattle.seq_bus_core.specs.declared.verdict.Verdict.{Verdict}
use Rattle.seq_bus_core.specs.declared.verdict.VerdictKind.TheVariants.{Bus, Nobody, Absent}
use Rattle.test_rows.specs.Runs.{IsRun, plain_bus, makes, asks, sends, at, told, goes, addressed_to, changed, acquires, name_a, call_to, a_signal}
use Rattle.test_rows.specs.QueueRows.{says_hello, gets_free_name, waits}

-- a verdict that connection 1 is shown as a monitor
abbrev pub shown : Verdict → Verdict
shown v = record v { monitors = at 1 ∷ [] }

-- The second connection is not privileged. The first has a name for which the second waits, and becomes a monitor.
abbrev pub MonitorGivesUpItsNames : Type 0
MonitorGivesUpItsNames = IsRun (plain_bus One) (
    says_hello 1
    ∷ makes (Hello false) (told (Welcome (at 2)) (changed (unique_text 2) None (Some 2) ∷ acquires 2 (unique_text 2) ∷ []))
    ∷ makes (BecomeMonitor 2 []) (told AccessDenied [])
    ∷ gets_free_name 1 false false
    ∷ waits 2 false
    ∷ makes (AddMatch 1 []) (told Done [])
    ∷ makes (BecomeMonitor 1 []) (told Done (
    addressed_to (NameLost name_a 1) (1 ∷ []) []
    ∷ addressed_to (NameOwnerChanged name_a (Some 1) (Some 2)) [] (1 ∷ [])
    ∷ addressed_to (NameAcquired name_a 2) (2 ∷ []) (1 ∷ [])
    ∷ addressed_to (NameLost (unique_text 1) 1) (1 ∷ []) []
    ∷ addressed_to (NameOwnerChanged (unique_text 1) (Some 1) None) [] (1 ∷ [])
    ∷ []))
    ∷ asks ListNames (Some (NameList (bus_text ∷ unique_text 2 ∷ name_a ∷ [])))
    ∷ sends 2 (call_to bus_text) (shown (goes Bus []))
    ∷ sends 2 (call_to (unique_text 1)) (shown (goes Nobody []))
    ∷ sends 1 a_signal (goes Absent [])
    ∷ makes (BecomeMonitor 1 []) (told Gone [])
    ∷ makes (Leave 1) (told Done [])
    ∷ [])

-- The second connection is a monitor for NameLost alone. It does nothing else than leave, of which nobody hears.
abbrev pub MonitorIsShownWhatItsRulesFit : Type 0
MonitorIsShownWhatItsRulesFit = IsRun (plain_bus One) (
    says_hello 1
    ∷ says_hello 2
    ∷ makes (BecomeMonitor 2 (((Member, codes "NameLost") ∷ []) ∷ [])) (told Done (addressed_to (NameLost (unique_text 2) 2) (2 ∷ []) [] ∷ changed (unique_text 2) (Some 2) None ∷ []))
    ∷ gets_free_name 1 false false
    ∷ makes (Release 1 name_a) (told (OfQueue Released) (addressed_to (NameLost name_a 1) (1 ∷ []) (2 ∷ []) ∷ changed name_a (Some 1) None ∷ []))
    ∷ asks (GetNameOwner (unique_text 2)) None
    ∷ sends 1 (call_to (unique_text 2)) (goes Nobody [])
    ∷ makes (Leave 2) (told Done [])
    ∷ [])
