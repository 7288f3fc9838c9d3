-- Which names each connection owns or waits for.
use Rattle.std.specs.Prelude.{◌≡◌, ◌==◌, ℕ, false, List, [], length, get_or, count_by}
use Rattle.names.specs.Texts.{Text, text_lt}
use Rattle.match_rules.specs.Lists.{Pairwise}
use Rattle.seq_bus_core.specs.BusState.{max_names, max_queued}
use Rattle.match_index.specs.PlaceIndexes.{places_of}
use Rattle.match_index.specs.declared.place_index.KeyedPlace.{KeyedPlace}

-- the numbers of names by the connections in their queues, and the names by their numbers
pub record IndexedNames : Type 0 where
  pub places : List KeyedPlace
  pub names : List Text

-- how often a connection holds a name
abbrev pub held : ℕ → ℕ → List KeyedPlace → ℕ
held c id places = count_by (λ i. i == id) (places_of c places)

abbrev pub name_at : List Text → ℕ → Text
name_at names id = get_or names id []

-- the names of these numbers rise
abbrev pub AreByName : List Text → List ℕ → Type 0
AreByName names ids = Pairwise (λ i j. text_lt (name_at names j) (name_at names i) ≡ false) ids

-- the names of each connection rise
abbrev pub AreSorted : List Text → List KeyedPlace → Type 0
AreSorted names places = (c : ℕ) → AreByName names (places_of c places)

-- an index that has so much room
pub record IsIndex (index : IndexedNames) (room : ℕ) : Type 0 where
  pub sorted : AreSorted index.names index.places
  pub numbered : length index.names ≡ max_names
  pub has_room : room ≡ max_queued
