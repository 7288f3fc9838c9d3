-- Histories of a bus: the changes that were made, in order.
use Rattle.std.specs.Prelude.{◌≡◌, ℕ, ◌+◌, ◌≤◌, Bool, true, false, ◌&&◌, ◌||◌, ◌==◌, ltb, Option, Some, None, List, [], ◌∷◌, ◌++◌, length, map, filter, if◌then◌else◌}
use Rattle.std.specs.List.{range_with_len, AllByRecursion, IsDistinct}
use Rattle.names.specs.Texts.{Text, text_eq, text_lt}
use Rattle.owner_queues.specs.declared.request.Profile.{Profile}
use Rattle.seq_bus_core.specs.BusState.{BusState}
use Rattle.seq_bus_core.specs.Steps.{is_reserved, step}
use Rattle.seq_bus_core.specs.declared.change.Change.{Change}
use Rattle.seq_bus_core.specs.declared.entry.Entry.{Entry}
use Rattle.seq_bus_core.specs.declared.limits.TheConstants.{MAX_ROUTERS, MAX_SERVICES}

abbrev pub History : Type 0
History = List Entry

-- ## The bus before its first change

abbrev pub inserted : Text → List Text → List Text
inserted name [] = name ∷ []
inserted name (n ∷ names) = if text_lt n name then n ∷ inserted name names else name ∷ n ∷ names

-- the names by rising bytes
abbrev pub sorted : List Text → List Text
sorted [] = []
sorted (n ∷ names) = inserted n (sorted names)

abbrev pub max_routers : ℕ
max_routers = MAX_ROUTERS

abbrev pub max_services : ℕ
max_services = MAX_SERVICES

-- what a bus can be opened with: its services are well-known names other than the bus's own, none of them twice
pub record CanOpen (routers : ℕ) (services : List Text) : Type 0 where
  pub routed : (1 ≤ routers) × (routers ≤ max_routers)
  pub few : length services ≤ max_services
  pub distinct : IsDistinct text_eq services
  pub ownable : AllByRecursion (λ name. is_reserved name ≡ false) services

-- a bus with nothing but its routers and its services
abbrev pub opening : Profile → ℕ → List Text → BusState
opening profile routers services = record {
  profile = profile;
  routers = routers;
  services = sorted services;
  connections = [];
  names = [];
  rules = [];
  starts = [];
  next_number = 1;
  next_ticket = 1;
  next_start = 1;
}

-- the state after the changes of a history
abbrev pub after : BusState → History → BusState
after s [] = s
after s (e ∷ history) = after (step s e.seat e.change).0 history

-- ## Legal histories

abbrev pub numbers_of : ℕ → History → List ℕ
numbers_of seat history = map (λ e. e.number) (filter (λ e. e.seat == seat) history)

-- An entry that others of its publication follow is followed by one of the same seat, with one less to follow.
abbrev pub goes_on : Entry → History → Bool
goes_on e [] = e.left == 0
goes_on e (next ∷ history) = (e.left == 0) || ((next.seat == e.seat) && (e.left == next.left + 1))

abbrev pub has_whole_publications : History → Bool
has_whole_publications [] = true
has_whole_publications (e ∷ history) = goes_on e history && has_whole_publications history

-- each seat numbers its changes 1, 2, 3 and so on, and no publication is cut
pub record IsLegal (history : History) : Type 0 where
  pub numbered : (seat : ℕ) → numbers_of seat history ≡ range_with_len 1 (length (numbers_of seat history))
  pub whole : has_whole_publications history ≡ true

-- a list is another followed by something, perhaps by nothing
abbrev pub Begins : History → History → Type 0
Begins front history = (rest : History) × (front ++ rest ≡ history)

-- nothing, or a last entry that none of its publication follows
abbrev pub ends_publication : History → Bool
ends_publication [] = true
ends_publication (e ∷ []) = e.left == 0
ends_publication (e ∷ next ∷ history) = ends_publication (next ∷ history)

-- the history has of a seat's changes just the first `made`, each once and in order
abbrev pub HasJust : ℕ → ℕ → History → Type 0
HasJust seat made history = numbers_of seat history ≡ range_with_len 1 made

-- the entry of a change that is a publication of its own
abbrev pub entry_alone : ℕ → ℕ → Change → Entry
entry_alone seat number change = record { seat = seat; number = number; change = change; left = 0 }

-- of what is held and what is told, the longer
abbrev pub longer : Option History → History → History
longer None told = told
longer (Some held) told = if ltb (length held) (length told) then told else held
