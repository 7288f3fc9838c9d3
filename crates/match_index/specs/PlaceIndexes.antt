-- Where things stand, by a key of each.
use Rattle.std.specs.Prelude.{◌≤◌, ◌==◌, ℕ, List, map, filter}
use Rattle.match_rules.specs.Lists.{Pairwise}
use Rattle.match_index.specs.declared.place_index.KeyedPlace.{KeyedPlace}

-- places, and how many have room
pub record PlacesInRoom : Type 0 where
  pub room : ℕ
  pub places : List KeyedPlace

abbrev pub places_in : List KeyedPlace → List ℕ
places_in places = map (λ p. p.place) places

-- those of a key, in order
abbrev pub places_of : ℕ → List KeyedPlace → List ℕ
places_of key places = places_in (filter (λ p. p.key == key) places)

abbrev pub ByKey : List KeyedPlace → Type 0
ByKey places = Pairwise (λ a b. a.key ≤ b.key) places

-- an index that has so much room
pub record IsPlaceIndex (index : PlacesInRoom) (room : ℕ) : Type 0 where
  pub sorted : ByKey index.places
  pub has_room : index.room ≤ room
