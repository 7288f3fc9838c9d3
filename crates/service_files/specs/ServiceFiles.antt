-- What a service file says. (D-Bus Specification: "Message Bus Starting Services")
use Rattle.std.specs.Prelude.{ℕ, ◌+◌, ◌-◌, nat_le, nat_lt, Bool, true, false, not, ◌&&◌, ◌||◌, ◌==◌, codes, List, [], ◌∷◌, length, filter, slice_index, Option, Some, None, is_some, is_none, Result, Ok, Err, if◌then◌else◌}
use Rattle.std.specs.List.{slice_split, position_or_len, before_first, after_first}
use Rattle.std.specs.Str.{is_utf8}
use Rattle.names.specs.Texts.{Text, text_eq}
use Rattle.names.specs.WellKnown.{well_known_fault}
use Rattle.names.specs.BusName.{is_bus}
use Rattle.service_files.specs.declared.fault.FileFault.{FileFault}
use Rattle.service_files.specs.declared.fault.FileFault.TheVariants.{Group, NameMissing, ExecMissing, Twice, Name, Line}
use Rattle.service_files.specs.declared.group_kind.GroupKind.{GroupKind}
use Rattle.service_files.specs.declared.group_kind.GroupKind.TheVariants.{BeforeGroups, Service, Elsewhere}

-- the most bytes of a file
abbrev pub max_file_length : ℕ
max_file_length = 65536

-- ## Bytes

abbrev pub line_feed : ℕ
line_feed = 10

abbrev pub space : ℕ
space = 32

-- #
abbrev pub hash : ℕ
hash = 35

-- =
abbrev pub equals : ℕ
equals = 61

-- [
abbrev pub opening : ℕ
opening = 91

-- ]
abbrev pub closing : ℕ
closing = 93

abbrev pub is_empty : Text → Bool
is_empty text = length text == 0

-- ## A line

abbrev pub service_header : Text
service_header = codes "[D-BUS Service]"

abbrev pub name_key : Text
name_key = codes "Name"

abbrev pub exec_key : Text
exec_key = codes "Exec"

-- What a line says: nothing, that a group begins (the service's, or another), or a key's value.
pub data Said : Type 0 where
  Silence : Said
  Header : (is_service : Bool) → Said
  Entry : (key value : Text) → Said

-- A group is anything that ends with a bracket, too.
abbrev pub header_in : Text → Option Said
header_in line = if slice_index line (length line - 1) == closing then Some (Header (text_eq line service_header)) else None

-- where the first = stands
abbrev pub equals_at : Text → ℕ
equals_at line = position_or_len (λ b. b == equals) line

-- A key is not empty, and ends at the first =. Nothing is trimmed.
abbrev pub entry_in : Text → Option Said
entry_in line =
    if nat_lt 0 (equals_at line) && nat_lt (equals_at line) (length line)
    then Some (Entry (before_first (λ b. b == equals) line) (after_first (λ b. b == equals) line))
    else None

-- A line of text is empty, a comment, a group in brackets, or a key with its value. What is none of these says nothing that reads.
abbrev pub said_of : Text → Option Said
said_of line =
    if is_empty line || (slice_index line 0 == hash) then Some Silence
    else (if slice_index line 0 == opening then header_in line else entry_in line)

-- Nor does what is no UTF-8.
abbrev pub said_by : List ℕ → Option Said
said_by line = if is_utf8 line then said_of line else None

-- ## The lines above a line

-- in which group the next line stands, whether the service's group has begun, and the Name and Exec in it
pub record Above : Type 0 where
  pub group : GroupKind
  pub has_service : Bool
  pub name : Option Text
  pub exec : Option Text

abbrev pub nothing_above : Above
nothing_above = record { group = BeforeGroups; has_service = false; name = None; exec = None }

-- A well-known name, and not the bus's own.
abbrev pub is_service_name : Text → Bool
is_service_name text = is_none (well_known_fault text) && not (is_bus text)

abbrev pub header_fault : Above → Bool → Option FileFault
header_fault above is_service = if is_service && above.has_service then Some Twice else None

-- a key of the service's group
abbrev pub entry_fault : Above → Text → Text → Option FileFault
entry_fault above key value =
    if text_eq key name_key then (if is_some above.name then Some Twice else (if is_service_name value then None else Some Name))
    else (if text_eq key exec_key && is_some above.exec then Some Twice else None)

-- a key that stands in this group; there is none before the first group
abbrev pub placed_fault : ℕ → Above → GroupKind → Text → Text → Option FileFault
placed_fault n above BeforeGroups key value = Some (Line n)
placed_fault n above Service key value = entry_fault above key value
placed_fault n above Elsewhere key value = None

-- what is wrong with line n, below these lines
abbrev pub fault_at : ℕ → Above → Option Said → Option FileFault
fault_at n above None = Some (Line n)
fault_at n above (Some Silence) = None
fault_at n above (Some (Header is_service)) = header_fault above is_service
fault_at n above (Some (Entry key value)) = placed_fault n above above.group key value

abbrev pub with_header : Above → Bool → Above
with_header above is_service =
    if is_service then record above { group = Service; has_service = true } else record above { group = Elsewhere }

abbrev pub with_entry : Above → Text → Text → Above
with_entry above key value =
    if text_eq key name_key then record above { name = Some value }
    else (if text_eq key exec_key then record above { exec = Some value } else above)

abbrev pub with_placed : Above → GroupKind → Text → Text → Above
with_placed above BeforeGroups key value = above
with_placed above Service key value = with_entry above key value
with_placed above Elsewhere key value = above

-- these lines, and a line without a fault
abbrev pub below : Above → Option Said → Above
below above None = above
below above (Some Silence) = above
below above (Some (Header is_service)) = with_header above is_service
below above (Some (Entry key value)) = with_placed above above.group key value

-- ## The file

-- what a service is called, and the words of the command that starts it
pub record Described : Type 0 where
  pub name : Text
  pub words : List Text

-- A command is split at spaces, without quoting.
abbrev pub words_of : Text → List Text
words_of command = filter (λ word. not (is_empty word)) (slice_split (λ b. b == space) command)

abbrev pub described_as : Text → List Text → Result Described FileFault
described_as name [] = Err ExecMissing
described_as name (program ∷ arguments) = Ok (record { name = name; words = program ∷ arguments })

abbrev pub described_by : Bool → Option Text → Option Text → Result Described FileFault
described_by false name exec = Err Group
described_by true None exec = Err NameMissing
described_by true (Some name) None = Err ExecMissing
described_by true (Some name) (Some command) = described_as name (words_of command)

-- the service of a file that has these lines, each without a fault
abbrev pub service_of : Above → Result Described FileFault
service_of above = described_by above.has_service above.name above.exec

abbrev pub unless_fault : Option FileFault → Result Described FileFault → Result Described FileFault
unless_fault None described = described
unless_fault (Some fault) described = Err fault

-- what lines say below others, of which the first is line n: the first fault from the top, or else the service
abbrev pub service_from : Above → ℕ → List Text → Result Described FileFault
service_from above n [] = service_of above
service_from above n (line ∷ lines) =
    unless_fault (fault_at n above (said_by line)) (service_from (below above (said_by line)) (n + 1) lines)

-- A file's lines are parted by line feeds. One that is too long is not looked at.
abbrev pub service_in : List ℕ → Result Described FileFault
service_in bytes =
    if nat_le (length bytes) max_file_length then service_from nothing_above 1 (slice_split (λ b. b == line_feed) bytes) else Err (Line 0)
