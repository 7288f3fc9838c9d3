-- Lists of names. (D-Bus Specification: "org.freedesktop.DBus.ListNames", "org.freedesktop.DBus.ListActivatableNames",
-- "org.freedesktop.DBus.ListQueuedOwners")
use Rattle.std.specs.Prelude.{Option, Some, None, List, [], ◌∷◌, map}
use Rattle.names.specs.Texts.{Text}
use Rattle.names.specs.BusName.{bus_text}
use Rattle.names.specs.UniqueName.{unique_text}
use Rattle.seq_bus_core.specs.Answers.{names_there}
use Rattle.seq_bus_core.specs.BusState.{BusState, queue_of}
use Rattle.registry.specs.declared.listed.NamesOf.{NamesOf}
use Rattle.registry.specs.declared.listed.NamesOf.TheVariants.{All, Services, Bus, Client, Queued}

-- what there is of a name
abbrev pub only : Option Text → List Text
only None = []
only (Some text) = text ∷ []

abbrev pub names_in : BusState → NamesOf → List Text
names_in s All = bus_text ∷ names_there s
names_in s Services = bus_text ∷ s.services
names_in s Bus = bus_text ∷ []
names_in s (Client number) = unique_text number ∷ []
names_in s (Queued name) = map (λ q. unique_text q.connection) (queue_of s.names name)
