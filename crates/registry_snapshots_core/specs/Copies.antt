-- What contracts see of a beginning of the history, and of a copy of the registry.
use Rattle.std.specs.Prelude.{◌≡◌, ℕ, ◌<◌, ltb, if◌then◌else◌, List, length, slice_index, slice_set}
use Rattle.logbook.specs.Pages.{Book}
use Rattle.seq_bus_core.specs.BusState.{BusState}
use Rattle.seq_bus_core.specs.Histories.{History, numbers_of}
use Rattle.seq_bus_core.specs.Steps.{step}
use Rattle.seq_bus_core.specs.Tickets.{WholeBus, bus_after}
use Rattle.registry.specs.PreparedChanges.{PreparedChange, absorbed_along}

-- what tells a registry from all others: the book of its history, and the ledger of its seats, with its parts
pub record Identity : Type 0 where
  pub book : Book
  pub ledger : ℕ
  pub parts : ℕ

abbrev pub identity : Book → (ledger parts : ℕ) → Identity
identity book ledger parts = record { book = book; ledger = ledger; parts = parts }

-- a beginning of a book's history
pub record PrefixView : Type 0 where
  pub book : Book
  pub log : History

abbrev pub prefix_of : Book → History → PrefixView
prefix_of book log = record { book = book; log = log }

-- a copy: the state of the bus, the number of each seat's last change, and the beginning of the history that it stands for
pub record SnapView : Type 0 where
  pub bus : BusState
  pub last : List ℕ
  pub prefix : PrefixView

-- `last` has the number of each seat's last change
abbrev pub IsLastOf : List ℕ → History → Type 0
IsLastOf last history = (seat : ℕ) → seat < length last → slice_index last seat ≡ length (numbers_of seat history)

-- the number of a seat's last change, written down
abbrev pub put_number : List ℕ → ℕ → ℕ → List ℕ
put_number last seat number = if ltb seat (length last) then slice_set last seat number else last

-- the copy after a seat's change of this number, whose entry ends the beginning `prefix`
abbrev pub absorbed : SnapView → ℕ → ℕ → PreparedChange → PrefixView → SnapView
absorbed s seat number p prefix = record { bus = (step s.bus p.seat p.change).0; last = put_number s.last seat number; prefix = prefix }

-- the copy after a seat's changes, the last of which has this number, and whose entries end the beginning `prefix`
abbrev pub absorbed_all : SnapView → ℕ → ℕ → List PreparedChange → PrefixView → SnapView
absorbed_all s seat number prepared prefix = record { bus = absorbed_along s.bus prepared; last = put_number s.last seat number; prefix = prefix }

-- the copy is the bus after its beginning of this book's history, with the number of each seat's last change
pub record IsSnapOf (book : Book) (opening : WholeBus) (s : SnapView) : Type 0 where
  pub book_is : s.prefix.book ≡ book
  pub bus_is : s.bus ≡ (bus_after opening s.prefix.log).state
  pub last_is : IsLastOf s.last s.prefix.log
