-- Where messages go. (D-Bus Specification: "Message Bus Message Routing", "Match Rules".)
use Rattle.std.specs.Prelude.{true, false, Some, None, [], ◌∷◌, ◌++◌}
use Rattle.names.specs.UniqueName.{unique_text}
use Rattle.owner_queues.specs.declared.request.Profile.TheVariants.{One}
use Rattle.match_rules.specs.declared.key.Key.TheVariants.{Sender}
use Rattle.seq_bus_core.specs.Histories.{opening}
use Rattle.seq_bus_core.specs.declared.change.Change.TheVariants.{Hello, Leave, AddMatch}
use Rattle.seq_bus_core.specs.declared.outcome.Reply.TheVariants.{Done, Welcome}
use Rattle.seq_bus_core.specs.declared.verdict.VerdictKind.TheVariants.{Plain, Nobody, Absent}
use Rattle.test_rows.specs.Runs.{Line, Makes, Outcome, IsRun, plain_bus, makes, sends, told, goes, changed, acquires, name_a, call_to, a_signal}
use Rattle.test_rows.specs.QueueRows.{says_hello, three_connections, gets_free_name, takes_name_from}

-- A slot is given again, a number is not.
abbrev pub SlotIsGivenAgain : Type 0
SlotIsGivenAgain = IsRun (plain_bus One) (
    says_hello 1
    ∷ makes (Leave 1) (told Done (changed (unique_text 1) (Some 1) None ∷ []))
    ∷ makes (Hello true) (told (Welcome (record { number = 2; slot = 0; router = 1 })) (changed (unique_text 2) None (Some 2) ∷ record (acquires 2 (unique_text 2)) { to = record { number = 2; slot = 0; router = 1 } ∷ [] } ∷ []))
    ∷ sends 2 (call_to (unique_text 1)) (goes Nobody [])
    ∷ sends 1 a_signal (goes Absent [])
    ∷ [])

-- With two routers, the connection of the second one has its first slot.
abbrev pub hello_at_second_router : Line
hello_at_second_router = record {
  deed = Makes 2 (Hello true);
  told = Outcome (told (Welcome (record { number = 2; slot = 128; router = 2 }))
      (changed (unique_text 2) None (Some 2) ∷ record (acquires 2 (unique_text 2)) { to = record { number = 2; slot = 128; router = 2 } ∷ [] } ∷ []));
}

-- The first router's connection takes a name; a call from the second router's goes there.
abbrev pub CallGoesToOtherRouter : Type 0
CallGoesToOtherRouter = IsRun (opening One 2 []) (says_hello 1 ∷ hello_at_second_router ∷ gets_free_name 1 false false ∷ sends 2 (call_to name_a) (goes Plain (1 ∷ [])) ∷ [])

-- A rule names the owner of a name as sender; the name goes to another owner.
abbrev pub SenderRuleFollowsOwner : Type 0
SenderRuleFollowsOwner = IsRun (plain_bus One) (three_connections ++
    makes (AddMatch 3 ((Sender, name_a) ∷ [])) (told Done [])
    ∷ gets_free_name 1 true false
    ∷ sends 1 a_signal (goes Plain (3 ∷ []))
    ∷ takes_name_from 2 1
    ∷ sends 1 a_signal (goes Plain [])
    ∷ [])
