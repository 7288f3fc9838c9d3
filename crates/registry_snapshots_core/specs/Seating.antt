-- How the seats of a registry divide its ledger.
use Rattle.std.specs.Prelude.{ℕ, zero, suc, ◌+◌, ◌-◌}
use Rattle.seq_bus_core.specs.Histories.{max_routers}

-- as many parts as there may be seats
abbrev pub all_parts : ℕ
all_parts = max_routers + 1

-- Each router's seat has one part, and seat 0 what is left.
abbrev pub parts_of : (routers seat : ℕ) → ℕ
parts_of routers zero = all_parts - routers
parts_of routers (suc seat) = 1
