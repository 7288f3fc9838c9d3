-- Where a connection that has a slot is found.
use Rattle.std.specs.Prelude.{◌≡◌, ℕ, ◌<◌, true, Option, Some, None, List, slice_index, slice_index_or}
use Rattle.seq_bus_core.specs.BusState.{max_connections}
use Rattle.router_core.specs.Standing.{Peer, Stage, Authenticating, Unnamed, Named, Closing, has_slot}

-- the bus gives slots below this
abbrev pub slot_count : ℕ
slot_count = max_connections

-- For each slot a key is kept: that of the connection which has the slot, if there is one. So no two have the same slot.
abbrev pub IsIndexed : List (Option Peer) → List ℕ → Type 0
IsIndexed peers key_of_slot = (key slot : ℕ) → slot < slot_count → has_slot slot (slice_index_or peers key None) ≡ true → slice_index key_of_slot slot ≡ key

-- nobody has the slot
abbrev pub IsVacant : ℕ → List (Option Peer) → Type 0
IsVacant slot peers = (key : ℕ) → slot < slot_count → has_slot slot (slice_index_or peers key None) ≡ true → ⊥

-- a connection that has no name yet
abbrev pub AwaitsHello : Stage → Type 0
AwaitsHello (Authenticating setting state) = ⊥
AwaitsHello (Unnamed privileged) = Unit {0}
AwaitsHello (Named conn) = ⊥
AwaitsHello (Closing conn) = ⊥

-- a connection is there that has no name yet
abbrev pub IsNameless : Option Peer → Type 0
IsNameless None = ⊥
IsNameless (Some p) = AwaitsHello p.stage
