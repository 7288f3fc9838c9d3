-- What seats counted, gathered from the last on.
use Rattle.std.proofs.Common.{◌≡◌, ◌∙◌, ℕ, zero, suc, ◌+◌, ◌-◌, ◌≤◌, List, [], ◌∷◌, ◌++◌, map, refl, ap, sym, subst, arith}
use Rattle.std.specs.List.{range_with_len}
use Rattle.seq_bus_core.specs.Histories.{max_routers}
use Rattle.registry_snapshots_core.specs.Seating.{all_parts, parts_of}
use Rattle.registry_snapshots.specs.Seats.{SeatView}
use Rattle.registry_snapshots.specs.Tallies.{AreAllSeats, made_by, parts_by}

pub made_more : (xs ys : List SeatView) → made_by (xs ++ ys) ≡ made_by xs + made_by ys
made_more [] ys = let same : made_by ys ≡ 0 + made_by ys = omega arith in same
made_more (x ∷ xs) ys =
    let more : made_by (xs ++ ys) ≡ made_by xs + made_by ys = made_more xs ys in
    let whole : x.made + made_by (xs ++ ys) ≡ x.made + made_by xs + made_by ys = omega arith in
    whole

pub parts_more : (routers : ℕ) (xs ys : List SeatView) → parts_by routers (xs ++ ys) ≡ parts_by routers xs + parts_by routers ys
parts_more routers [] ys = let same : parts_by routers ys ≡ 0 + parts_by routers ys = omega arith in same
parts_more routers (x ∷ xs) ys =
    let more : parts_by routers (xs ++ ys) ≡ parts_by routers xs + parts_by routers ys = parts_more routers xs ys in
    let whole : parts_of routers x.number + parts_by routers (xs ++ ys) ≡ parts_of routers x.number + parts_by routers xs + parts_by routers ys = omega arith in
    whole

-- the parts of the seats of these numbers
abbrev numbered : (routers : ℕ) → List ℕ → ℕ
numbered routers [] = 0
numbered routers (n ∷ ns) = parts_of routers n + numbered routers ns

by_numbers : (routers : ℕ) (seats : List SeatView) → parts_by routers seats ≡ numbered routers (map (λ (seat : SeatView). seat.number) seats)
by_numbers routers [] = refl
by_numbers routers (x ∷ xs) = ap (λ (n : ℕ). parts_of routers x.number + n) (by_numbers routers xs)

one_each : (routers k n : ℕ) → numbered routers (range_with_len (suc k) n) ≡ n
one_each routers k zero = refl
one_each routers k (suc n) =
    let next : suc k + 1 ≡ suc (suc k) = omega arith in
    let rest : numbered routers (range_with_len (suc k + 1) n) ≡ n = subst (λ (a : ℕ). numbered routers (range_with_len a n) ≡ n) (sym next) (one_each routers (suc k) n) in
    let whole : 1 + numbered routers (range_with_len (suc k + 1) n) ≡ suc n = omega arith in
    whole

-- All seats have the whole ledger.
pub all_have_all : (routers : ℕ) (seats : List SeatView) → routers ≤ max_routers → AreAllSeats routers seats → parts_by routers seats ≡ all_parts
all_have_all routers seats few all =
    let ones : numbered routers (range_with_len (suc zero) routers) ≡ routers = one_each routers zero routers in
    let more : routers + 1 ≡ suc routers = omega arith in
    let first : numbered routers (range_with_len 0 (suc routers)) ≡ (max_routers + 1 - routers) + numbered routers (range_with_len (suc zero) routers) = refl in
    let whole : (max_routers + 1 - routers) + numbered routers (range_with_len (suc zero) routers) ≡ all_parts = omega arith in
    by_numbers routers seats ∙ ap (numbered routers) (all ∙ ap (range_with_len 0) more) ∙ first ∙ whole
