-- Tables of the names that have an owner.
use Rattle.std.specs.Prelude.{◌≡◌, ◌==◌, ℕ, ◌+◌, ◌≤◌, nat_lt, nat_le, sum_by, if◌then◌else◌, Box, ◌&&◌, Bool, true, false, Result, Ok, Err, List, [], ◌∷◌, ◌++◌, length, map, filter}
use Rattle.std.specs.List.{AllByRecursion}
use Rattle.std.specs.Global.{Global}
use Rattle.names.specs.Texts.{Text, text_lt}
use Rattle.match_rules.specs.Lists.{Pairwise}
use Rattle.owner_queues.specs.Queues.{Queue, is_free, is_in}
use Rattle.seq_bus_core.specs.BusState.{OwnedName, queue_of, queued_in, names_of, max_names, max_queued, max_names_of_one}
use Rattle.registry_core.specs.declared.name_table.NameEntry.{NameEntry}
use Rattle.registry_core.specs.NameIndexes.{IndexedNames, held, name_at}

abbrev pub owned_name : NameEntry → OwnedName
owned_name e = record { name = e.name; queue = e.queue }

abbrev pub NamesRise : List OwnedName → Type 0
NamesRise names = Pairwise (λ a b. text_lt a.name b.name ≡ true) names

-- nobody's name is not there
abbrev pub AreOwned : List OwnedName → Type 0
AreOwned names = AllByRecursion (λ n. is_free n.queue ≡ false) names

-- the names of a table that has so many spare entries, places in its queues, and room for its entries
pub record AreInTable (names : List OwnedName) (spare queued room spare_room : ℕ) : Type 0 where
  pub rise : NamesRise names
  pub owned : AreOwned names
  pub entries : length names + spare ≡ max_names
  pub counted : queued ≡ queued_in names
  pub few_places : queued ≤ max_queued
  pub has_room : max_names ≤ room
  pub has_spare_room : max_names ≤ spare_room

-- ## The index of a table

abbrev pub Entry : Type 0
Entry = Box NameEntry Global

-- what lies in entries
abbrev pub values_of : List Entry → List NameEntry
values_of entries = map (λ e. e.value) entries

abbrev pub numbers_of : List Entry → List ℕ
numbers_of entries = map (λ e. e.value.id) entries

-- how often a number is that of an entry
abbrev pub numbered : ℕ → List Entry → ℕ
numbered id entries = sum_by (λ e. if e.value.id == id then 1 else 0) entries

-- whether a connection stands in the queue of an entry of this number
abbrev pub waits_here : ℕ → ℕ → Entry → ℕ
waits_here c id e = if e.value.id == id then (if is_in c e.value.queue then 1 else 0) else 0

-- Each entry has a number of its own, the spare ones too, and the index has the names by these numbers and each place of the queues.
pub record AreIndexed (entries spare : List Entry) (index : IndexedNames) (queued : ℕ) : Type 0 where
  pub once : (id : ℕ) → numbered id entries + numbered id spare ≤ (if nat_lt id max_names then 1 else 0)
  pub named : AllByRecursion (λ e. name_at index.names e.value.id ≡ e.value.name) entries
  pub places : (c id : ℕ) → held c id index.places ≡ sum_by (waits_here c id) entries
  pub all : length index.places ≡ queued

-- those before a name and those behind it
pub record IsBetween (names : List OwnedName) (name : Text) (front back : List OwnedName) (queue : Queue) (place : ℕ) : Type 0 where
  pub place_is : length front ≡ place
  pub before : filter (λ n. text_lt n.name name) names ≡ front
  pub behind : filter (λ n. text_lt name n.name) names ≡ back
  pub queue_is : queue_of names name ≡ queue

-- a name stands at a place with this queue
pub record IsAt (names : List OwnedName) (name : Text) (place : ℕ) : Type 0 where
  pub front : List OwnedName
  pub queue : Queue
  pub back : List OwnedName
  pub names_are : names ≡ front ++ record { name = name; queue = queue } ∷ back
  pub between : IsBetween names name front back queue place

-- a name is not there, and would stand at a place
pub record WouldStand (names : List OwnedName) (name : Text) (place : ℕ) : Type 0 where
  pub front : List OwnedName
  pub back : List OwnedName
  pub names_are : names ≡ front ++ back
  pub between : IsBetween names name front back [] place

abbrev pub SearchGives : List OwnedName → Text → Result ℕ ℕ → Type 0
SearchGives names name (Ok place) = IsAt names name place
SearchGives names name (Err place) = WouldStand names name place

-- whether the limits of names hold, for a connection too
abbrev pub are_within : List OwnedName → ℕ → Bool
are_within names connection = nat_le (length names) max_names && nat_le (queued_in names) max_queued && nat_le (names_of connection names) max_names_of_one
