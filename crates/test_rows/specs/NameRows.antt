-- Names that nobody requests, and what queries are answered. (D-Bus Specification: "Message Bus Messages".)
use Rattle.std.specs.Prelude.{true, false, Some, None, [], ◌∷◌, ◌++◌, codes}
use Rattle.names.specs.Texts.{Text}
use Rattle.names.specs.BusName.{bus_text}
use Rattle.names.specs.UniqueName.{unique_text}
use Rattle.owner_queues.specs.declared.reply.Reply.TheVariants.{InQueue, PrimaryOwner}
use Rattle.owner_queues.specs.declared.request.Profile.TheVariants.{One}
use Rattle.match_rules.specs.declared.key.Key.TheVariants.{«Type» as MessageType}
use Rattle.seq_bus_core.specs.Answers.{OneName, HasOwner, NameList}
use Rattle.seq_bus_core.specs.declared.change.Change.TheVariants.{Leave, Request, Release, AddMatch, Start, Hold}
use Rattle.seq_bus_core.specs.declared.outcome.Reply.TheVariants.{Gone, Done, OfQueue, InvalidName, AlreadyRunning, ServiceUnknown, Pass}
use Rattle.seq_bus_core.specs.declared.query.Query.TheVariants.{GetNameOwner, NameHasOwner, ListNames, ListActivatableNames, ListQueuedOwners}
use Rattle.seq_bus_core.specs.declared.signal.BusSignal.TheVariants.{NameOwnerChanged, NameAcquired}
use Rattle.test_rows.specs.Runs.{IsRun, plain_bus, makes, asks, at, told, addressed_to, plain_request, a_call, name_a}
use Rattle.test_rows.specs.QueueRows.{says_hello, three_connections}
use Rattle.test_rows.specs.ServiceRows.{bus_with_service, service}

-- Nobody requests or releases the names of the bus and of connections. They have their owners all the same.
abbrev pub ReservedNames : Type 0
ReservedNames = IsRun bus_with_service (
    says_hello 1
    ∷ makes (Request 1 bus_text plain_request) (told InvalidName [])
    ∷ makes (Release 1 (unique_text 1)) (told InvalidName [])
    ∷ makes (Request 9 bus_text plain_request) (told Gone [])
    ∷ makes (Start 1 bus_text a_call) (told AlreadyRunning [])
    ∷ makes (Hold 1 bus_text a_call []) (told ServiceUnknown [])
    ∷ makes (Start 1 (unique_text 1) a_call) (told AlreadyRunning [])
    ∷ makes (Hold 1 (unique_text 1) a_call []) (told (Pass (at 1)) [])
    ∷ makes (Start 1 (unique_text 9) a_call) (told ServiceUnknown [])
    ∷ asks (GetNameOwner bus_text) (Some (OneName bus_text))
    ∷ asks (ListQueuedOwners bus_text) (Some (NameList (bus_text ∷ [])))
    ∷ asks (ListQueuedOwners (unique_text 1)) (Some (NameList (unique_text 1 ∷ [])))
    ∷ asks (ListQueuedOwners name_a) None
    ∷ asks (GetNameOwner (unique_text 9)) None
    ∷ asks (NameHasOwner (unique_text 1)) (Some (HasOwner true))
    ∷ asks (NameHasOwner service) (Some (HasOwner false))
    ∷ asks ListActivatableNames (Some (NameList (bus_text ∷ service ∷ [])))
    ∷ [])

-- what the third connection hears of a name, by a rule for every signal
abbrev pub name_c : Text
name_c = codes "b.c"

abbrev pub name_b : Text
name_b = codes "a.b"

-- Who waits leaves unheard. An owner's names go by rising bytes to those who wait, its unique name last.
abbrev pub LeavingGivesUpNames : Type 0
LeavingGivesUpNames = IsRun (plain_bus One) (three_connections ++
    makes (AddMatch 3 ((MessageType, codes "signal") ∷ [])) (told Done [])
    ∷ makes (Request 1 name_c plain_request) (told (OfQueue PrimaryOwner) (addressed_to (NameOwnerChanged name_c None (Some 1)) (3 ∷ []) [] ∷ addressed_to (NameAcquired name_c 1) (1 ∷ []) [] ∷ []))
    ∷ makes (Request 1 name_b plain_request) (told (OfQueue PrimaryOwner) (addressed_to (NameOwnerChanged name_b None (Some 1)) (3 ∷ []) [] ∷ addressed_to (NameAcquired name_b 1) (1 ∷ []) [] ∷ []))
    ∷ makes (Request 2 name_b plain_request) (told (OfQueue InQueue) [])
    ∷ makes (Request 3 name_b plain_request) (told (OfQueue InQueue) [])
    ∷ makes (Leave 2) (told Done (addressed_to (NameOwnerChanged (unique_text 2) (Some 2) None) (3 ∷ []) [] ∷ []))
    ∷ makes (Leave 1) (told Done (
    addressed_to (NameOwnerChanged name_b (Some 1) (Some 3)) (3 ∷ []) []
    ∷ addressed_to (NameAcquired name_b 3) (3 ∷ []) []
    ∷ addressed_to (NameOwnerChanged name_c (Some 1) None) (3 ∷ []) []
    ∷ addressed_to (NameOwnerChanged (unique_text 1) (Some 1) None) (3 ∷ []) []
    ∷ []))
    ∷ asks ListNames (Some (NameList (bus_text ∷ unique_text 3 ∷ name_b ∷ [])))
    ∷ [])
