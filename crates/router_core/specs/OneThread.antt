-- Events over a bus of one thread, where nothing is refused.
use Rattle.std.specs.Prelude.{◌≡◌, ℕ, ◌+◌, ◌==◌, true, List, [], ◌∷◌, ◌++◌, length, if◌then◌else◌}
use Rattle.message.specs.MessageBytes.{message_bytes}
use Rattle.bus_view.specs.Views.{Knowledge}
use Rattle.router_core.specs.Acts.{Exchange, IsGranted, IsServedBy}
use Rattle.router_core.specs.Deeds.{Deed, Writes, Sends}
use Rattle.router_core.specs.Events.{Occasion, Opened}
use Rattle.router_core.specs.Standing.{Standing}

-- the connections, and what the view knows
pub record Rest : Type 0 where
  pub standing : Standing
  pub view : Knowledge

-- The occasion brings these deeds, and leaves this.
pub record IsEffect (before : Rest) (occasion : Occasion) (deeds : List Deed) (after : Rest) : Type 0 where
  pub asked : List Exchange
  pub served : IsServedBy true before.standing before.view occasion asked deeds after.standing after.view
  pub granted : IsGranted asked

-- ## The bytes to each connection

-- the keys of the connections that came, the last first
abbrev pub keys_after : Occasion → List ℕ → List ℕ
keys_after (Opened key challenge) keys = key ∷ keys
keys_after other keys = keys

-- which of all connections that came has the key, from 1; its key was another's before, perhaps
abbrev pub opening_of : ℕ → List ℕ → ℕ
opening_of key [] = 0
opening_of key (last ∷ keys) = if last == key then length keys + 1 else opening_of key keys

abbrev pub bytes_if : ℕ → ℕ → List ℕ → List ℕ
bytes_if opening other bytes = if opening == other then bytes else []

-- what is written to the connection of this opening
abbrev pub bytes_to : ℕ → List ℕ → List Deed → List ℕ
bytes_to opening keys [] = []
bytes_to opening keys (Writes key bytes ∷ deeds) = bytes_if opening (opening_of key keys) bytes ++ bytes_to opening keys deeds
bytes_to opening keys (Sends key message ∷ deeds) = bytes_if opening (opening_of key keys) (message_bytes message) ++ bytes_to opening keys deeds
bytes_to opening keys (other ∷ deeds) = bytes_to opening keys deeds

-- The occasions come one after the other, and these bytes go to the connection which came as this one of all, from the first; its key may
-- be another's later.
abbrev pub IsRun : ℕ → List ℕ → Rest → List Occasion → List ℕ → Rest → Type 0
IsRun opening keys before [] bytes after = (bytes ≡ []) × (after ≡ before)
IsRun opening keys before (occasion ∷ occasions) bytes after =
    (deeds : List Deed) × (between : Rest) × (later : List ℕ) × IsEffect before occasion deeds between
    × IsRun opening (keys_after occasion keys) between occasions later after × (bytes ≡ bytes_to opening (keys_after occasion keys) deeds ++ later)
