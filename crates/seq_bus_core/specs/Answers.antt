-- What a query is answered. (D-Bus Specification: "Message Bus Messages".)
use Rattle.std.specs.Prelude.{Bool, ◌||◌, not, Option, Some, None, is_some, option_map, List, [], ◌∷◌, ◌++◌, map, filter, if◌then◌else◌}
use Rattle.names.specs.Texts.{Text}
use Rattle.names.specs.BusName.{bus_text, is_bus, is_unique}
use Rattle.names.specs.UniqueName.{unique_text}
use Rattle.owner_queues.specs.Queues.{Queue}
use Rattle.seq_bus_core.specs.BusState.{BusState, is_monitor, head_of, queue_of}
use Rattle.seq_bus_core.specs.declared.query.Query.{Query}
use Rattle.seq_bus_core.specs.declared.query.Query.TheVariants.{GetNameOwner, NameHasOwner, ListNames, ListActivatableNames, ListQueuedOwners}

-- the one value of a reply: a string, a boolean or an array of strings
pub data Answer : Type 0 where
  OneName : Text → Answer
  HasOwner : Bool → Answer
  NameList : List Text → Answer

-- The owner of a name by its name. The bus and each connection own their names themselves.
abbrev pub owner_name : BusState → Text → Option Text
owner_name s name = if is_bus name then Some bus_text else option_map unique_text (head_of s name)

-- the owner of a name and those who wait for it
abbrev pub queued_names : Queue → Option (List Text)
queued_names [] = None
queued_names (owner ∷ waiting) = Some (map (λ q. unique_text q.connection) (owner ∷ waiting))

abbrev pub queue_names : BusState → Text → Option (List Text)
queue_names s name =
    if is_bus name || is_unique name then option_map (λ owner. owner ∷ []) (owner_name s name)
    else queued_names (queue_of s.names name)

-- the unique names by number, then the well-known names by bytes
abbrev pub names_there : BusState → List Text
names_there s = map (λ c. unique_text c.number) (filter (λ c. not (is_monitor c)) s.connections) ++ map (λ n. n.name) s.names

-- the answer to a query; none where the name has no owner (NameHasNoOwner)
abbrev pub answer : BusState → Query → Option Answer
answer s (GetNameOwner name) = option_map OneName (owner_name s name)
answer s (NameHasOwner name) = Some (HasOwner (is_some (owner_name s name)))
answer s ListNames = Some (NameList (bus_text ∷ names_there s))
answer s ListActivatableNames = Some (NameList (bus_text ∷ s.services))
answer s (ListQueuedOwners name) = option_map NameList (queue_names s name)
