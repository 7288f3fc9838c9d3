-- Paths of sockets that need no escaping in an address of D-Bus. (D-Bus Specification: "Server Addresses".)
use Rattle.std.specs.Prelude.{ℕ, List, Bool, ◌||◌, ◌==◌, ◌<◌, ◌≤◌, length, IsTrue}
use Rattle.std.specs.List.{list_all}
use Rattle.std.specs.Char.{is_ascii_alphanumeric}

abbrev pub is_plain : ℕ → Bool
is_plain byte = is_ascii_alphanumeric byte || (byte == 45) || (byte == 95) || (byte == 47) || (byte == 46)

abbrev pub IsSocketPath : List ℕ → Type 0
IsSocketPath text = (0 < length text) × (length text ≤ 107) × IsTrue (list_all is_plain text)
