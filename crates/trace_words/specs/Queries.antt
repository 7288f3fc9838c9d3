-- The words of queries.
use Rattle.std.specs.Prelude.{Option, Some, None, option_map, List, ◌∷◌, codes, if◌then◌else◌}
use Rattle.names.specs.Texts.{Text, text_eq}
use Rattle.seq_bus_core.specs.declared.query.Query.{Query}
use Rattle.seq_bus_core.specs.declared.query.Query.TheVariants.{GetNameOwner, NameHasOwner, ListNames, ListActivatableNames, ListQueuedOwners}
use Rattle.trace_words.specs.Words.{name_of}

-- a query about a name, and the words behind it
abbrev pub asked_from : (Text → Query) → List Text → Option (Query × List Text)
asked_from query (name ∷ words) = option_map (λ n. (query n, words)) (name_of name)
asked_from query other = None

abbrev pub query_of : Text → List Text → Option (Query × List Text)
query_of verb words =
    if text_eq verb (codes "owner") then asked_from GetNameOwner words
    else if text_eq verb (codes "has") then asked_from NameHasOwner words
    else if text_eq verb (codes "names") then Some (ListNames, words)
    else if text_eq verb (codes "activatable") then Some (ListActivatableNames, words)
    else if text_eq verb (codes "queued") then asked_from ListQueuedOwners words
    else None

abbrev pub query_from : List Text → Option (Query × List Text)
query_from (verb ∷ words) = query_of verb words
query_from other = None
