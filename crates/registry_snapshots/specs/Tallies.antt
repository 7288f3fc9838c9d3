-- How many changes seats made, as they count them in the ledger of their registry.
use Rattle.std.specs.Prelude.{◌≡◌, ℕ, ◌+◌, List, [], ◌∷◌, map}
use Rattle.std.specs.List.{range_with_len}
use Rattle.registry_snapshots_core.specs.Seating.{parts_of}
use Rattle.registry_snapshots.specs.Seats.{SeatView}

-- how many a seat made, and how many parts of the ledger it has
pub record Tallied : Type 0 where
  pub made : ℕ
  pub parts : ℕ

abbrev pub tallied : (made parts : ℕ) → Tallied
tallied made parts = record { made = made; parts = parts }

-- how many changes these seats made
abbrev pub made_by : List SeatView → ℕ
made_by [] = 0
made_by (seat ∷ seats) = seat.made + made_by seats

-- how many parts of the ledger these seats have
abbrev pub parts_by : (routers : ℕ) → List SeatView → ℕ
parts_by routers [] = 0
parts_by routers (seat ∷ seats) = parts_of routers seat.number + parts_by routers seats

-- These are all seats of a registry with so many routers, in order.
abbrev pub AreAllSeats : (routers : ℕ) → List SeatView → Type 0
AreAllSeats routers seats = map (λ (seat : SeatView). seat.number) seats ≡ range_with_len 0 (routers + 1)
