-- Indexes of match rules.
use Rattle.std.specs.Prelude.{◌≡◌, ◌≤◌, ◌+◌, ◌*◌, ℕ, List, length, Bool, true, false, slice_index_or}
use Rattle.std.specs.List.{AllByRecursion}
use Rattle.match_index.specs.Buckets.{bucket_of}
use Rattle.match_index.specs.Entries.{ArePlaced, by_code, by_connection, live}
use Rattle.match_index.specs.PlaceIndexes.{PlacesInRoom}
use Rattle.match_index.specs.declared.entries.Entry.{Entry}
use Rattle.match_index.specs.declared.place_index.KeyedPlace.{KeyedPlace}

-- the most rules that an index has
abbrev pub max_rules : ℕ
max_rules = 4096

-- as many rules that are gone may stand there as rules, and so many more
abbrev pub max_gone : ℕ
max_gone = 64

-- each rule has its bucket
abbrev pub AreFiled : List Entry → Type 0
AreFiled entries = AllByRecursion (λ e. e.bucket ≡ bucket_of e.rule) entries

-- the shape of each rule is marked
abbrev pub AreShaped : List Bool → List Entry → Type 0
AreShaped shapes entries = AllByRecursion (λ e. slice_index_or shapes e.bucket.shape false ≡ true) entries

-- the rules that are there are found by their connections and by their buckets
pub record AreIndexed (entries : List Entry) (connections codes : List KeyedPlace) : Type 0 where
  pub owned : ArePlaced by_connection entries connections
  pub coded : ArePlaced by_code entries codes
  pub filed : AreFiled entries

-- an index, and how many entries and moves have room
pub record IsIndex (entries : List Entry) (connections codes : PlacesInRoom) (shapes : List Bool) (capacity moves : ℕ) : Type 0 where
  pub indexed : AreIndexed entries connections.places codes.places
  pub shaped : AreShaped shapes entries
  pub few_gone : length entries ≤ 2 * length (live entries) + max_gone
  pub few : length (live entries) ≤ max_rules
  pub has_room : 2 * max_rules + max_gone ≤ capacity
  pub has_moves : 2 * max_rules + max_gone ≤ moves
  pub connections_room : connections.room ≡ max_rules
  pub codes_room : codes.room ≡ max_rules
