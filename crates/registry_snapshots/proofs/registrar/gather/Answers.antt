use Rattle.std.proofs.Common.{◌≡◌, ◌∙◌, ℕ, ◌+◌, List, [], ◌∷◌, ◌++◌, ap, append_assoc, arith}
use Rattle.registry_snapshots_core.specs.Seating.{parts_of}
use Rattle.registry_snapshots.specs.Seats.{SeatView}
use Rattle.registry_snapshots.specs.Tallies.{made_by, parts_by}
use Rattle.registry_snapshots.proofs.Gatherings.{made_more, parts_more}
use Rattle.registry_snapshots.proofs.registrar.gather.Goals as goal

pub loop-seat-preserved : goal.loop-seat-preserved
loop-seat-preserved g c =
    let routers : ℕ = g.J.Naming.opening.state.routers in
    let seat : SeatView = c.in-Some.seat in
    let rest : List SeatView = c.pop.new.self.items in
    let here : List SeatView = c.loop-seat.seats.items in
    let invariant = c.loop-seat.invariant in
    let items : here ≡ rest ++ seat ∷ [] = c.in-Some.ensures.items in
    let whole = invariant.0.1 ∙ ap (λ (seats : List SeatView). seats ++ invariant.0.0) items ∙ append_assoc rest (seat ∷ []) invariant.0.0 in
    let parts : parts_by routers here ≡ parts_by routers rest + (parts_of routers seat.number + 0) = ap (parts_by routers) items ∙ parts_more routers rest (seat ∷ []) in
    let made : made_by here ≡ made_by rest + (seat.made + 0) = ap made_by items ∙ made_more rest (seat ∷ []) in
    let parts_handed : c.hand_in.new.all.parts ≡ c.loop-seat.all.parts + parts_of routers seat.number = c.hand_in.ensures.parts in
    let made_handed : c.hand_in.new.all.amount ≡ c.loop-seat.all.amount + seat.made = c.hand_in.ensures.amount in
    let parts_before : c.loop-seat.all.parts + parts_by routers here ≡ c.args.all.now.parts + parts_by routers c.args.seats.items = invariant.1 in
    let made_before : c.loop-seat.all.amount + made_by here ≡ c.args.all.now.amount + made_by c.args.seats.items = invariant.2 in
    let parts_now : c.hand_in.new.all.parts + parts_by routers rest ≡ c.args.all.now.parts + parts_by routers c.args.seats.items = omega arith in
    let made_now : c.hand_in.new.all.amount + made_by rest ≡ c.args.all.now.amount + made_by c.args.seats.items = omega arith in
    ((seat ∷ invariant.0.0, whole, (c.hand_in.ensures.begins c.if-not-hand_in.false, invariant.0.2)), parts_now, made_now)
