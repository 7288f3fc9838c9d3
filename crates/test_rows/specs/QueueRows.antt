-- Who owns a name and who waits for it. (D-Bus Specification: "org.freedesktop.DBus.RequestName".)
use Rattle.std.specs.Prelude.{ℕ, Bool, true, false, Some, None, List, [], ◌∷◌, ◌++◌, map}
use Rattle.names.specs.UniqueName.{unique_text}
use Rattle.owner_queues.specs.declared.request.Profile.{Profile}
use Rattle.owner_queues.specs.declared.request.Profile.TheVariants.{One, Two}
use Rattle.owner_queues.specs.declared.reply.Reply.TheVariants.{PrimaryOwner, InQueue, Exists, Released, NonExistent, NotOwner}
use Rattle.seq_bus_core.specs.Answers.{OneName, NameList}
use Rattle.seq_bus_core.specs.declared.change.Change.TheVariants.{Hello, Request, Release}
use Rattle.seq_bus_core.specs.declared.outcome.Reply.TheVariants.{OfQueue, Welcome}
use Rattle.seq_bus_core.specs.declared.query.Query.TheVariants.{GetNameOwner, ListQueuedOwners}
use Rattle.test_rows.specs.Runs.{Line, IsRun, plain_bus, makes, asks, at, told, changed, loses, acquires, flags, name_a}

-- connection n says Hello
abbrev pub says_hello : ℕ → Line
says_hello n = makes (Hello true) (told (Welcome (at n)) (changed (unique_text n) None (Some n) ∷ acquires n (unique_text n) ∷ []))

abbrev pub three_connections : List Line
three_connections = says_hello 1 ∷ says_hello 2 ∷ says_hello 3 ∷ []

-- the connections in the queue of the name, its owner first
abbrev pub queue_is : List ℕ → Line
queue_is numbers = asks (ListQueuedOwners name_a) (Some (NameList (map unique_text numbers)))

-- connection n gets the name, which had no owner
abbrev pub gets_free_name : ℕ → Bool → Bool → Line
gets_free_name n allow no_queue = makes (Request n name_a (flags allow false no_queue)) (told (OfQueue PrimaryOwner) (changed name_a None (Some n) ∷ acquires n name_a ∷ []))

abbrev pub waits : ℕ → Bool → Line
waits n replace = makes (Request n name_a (flags false replace false)) (told (OfQueue InQueue) [])

-- connection n takes the name from connection m
abbrev pub takes_name_from : ℕ → ℕ → Line
takes_name_from n m = makes (Request n name_a (flags false true false)) (told (OfQueue PrimaryOwner) (loses m name_a ∷ changed name_a (Some m) (Some n) ∷ acquires n name_a ∷ []))

-- One connection says Hello and asks who owns its unique name.
abbrev pub OwnsItsUniqueName : Type 0
OwnsItsUniqueName = IsRun (plain_bus One) (says_hello 1 ∷ asks (GetNameOwner (unique_text 1)) (Some (OneName (unique_text 1))) ∷ [])

-- The first allows replacement, the second waits, the third replaces.
abbrev pub ReplacedOwnerWaitsNext : Profile → Type 0
ReplacedOwnerWaitsNext profile = IsRun (plain_bus profile) (three_connections ++ gets_free_name 1 true false ∷ waits 2 false ∷ takes_name_from 3 1 ∷ queue_is (3 ∷ 1 ∷ 2 ∷ []) ∷ [])

-- The same, but the first asked not to wait. Then the second asks not to wait either, and names are released.
abbrev pub ReplacedOwnerLeavesAndReleasesFollow : Profile → Type 0
ReplacedOwnerLeavesAndReleasesFollow profile = IsRun (plain_bus profile) (three_connections ++
    gets_free_name 1 true true ∷ waits 2 false ∷ takes_name_from 3 1 ∷ queue_is (3 ∷ 2 ∷ [])
    ∷ makes (Request 2 name_a (flags false false true)) (told (OfQueue Exists) []) ∷ queue_is (3 ∷ [])
    ∷ makes (Release 2 name_a) (told (OfQueue NotOwner) [])
    ∷ makes (Release 3 name_a) (told (OfQueue Released) (loses 3 name_a ∷ changed name_a (Some 3) None ∷ []))
    ∷ makes (Release 3 name_a) (told (OfQueue NonExistent) []) ∷ [])

-- The third would replace the first, which does not allow it; then the second would.
abbrev pub run_of_waiting_replacers : List ℕ → List ℕ → List Line
run_of_waiting_replacers then later = three_connections ++
    gets_free_name 1 false false ∷ waits 2 false ∷ waits 3 true ∷ queue_is then ∷ waits 2 true ∷ queue_is later ∷ []

abbrev pub ReplacersWaitLast : Type 0
ReplacersWaitLast = IsRun (plain_bus One) (run_of_waiting_replacers (1 ∷ 2 ∷ 3 ∷ []) (1 ∷ 2 ∷ 3 ∷ []))

abbrev pub ReplacersWaitNext : Type 0
ReplacersWaitNext = IsRun (plain_bus Two) (run_of_waiting_replacers (1 ∷ 3 ∷ 2 ∷ []) (1 ∷ 2 ∷ 3 ∷ []))
