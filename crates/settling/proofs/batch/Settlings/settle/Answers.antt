use Rattle.std.proofs.Common.{◌≡◌, ◌∙◌, ◌<◌, ◌+◌, ◌++◌, ◌∷◌, [], ℕ, List, length, get_or, take, drop, refl, ap, sym, subst, arith, length-append, length-drop}
use Rattle.std.proofs.lemmas.List.{take_all}
use Rattle.activation.specs.Holdings.{Calls, IsHolding}
use Rattle.match_index.proofs.Lists.{done_is, next_is}
use Rattle.seq_bus_core.specs.Batches.{outcomes_of}
use Rattle.seq_bus_core.specs.Tickets.{WholeBus}
use Rattle.seq_bus_core.specs.declared.change.Change.{Change}
use Rattle.seq_bus_core.specs.declared.outcome.Outcome.{Outcome}
use Rattle.settling.specs.Batches.{AreSettledTo, bus_along}
use Rattle.settling.specs.Settlings.{Settling}
use Rattle.settling.proofs.Along.{settled_more}
use Rattle.settling.proofs.batch.Settlings.settle.Goals as goal

-- the same, where a change is left and what settles it
one_left : (b : WholeBus) (seat : ℕ) (changes : List Change) (i : ℕ) (change : Change) (calls : Calls) (each rest : List Settling) (outcomes : List Outcome) → i < length changes → change ≡ get_or changes i change → each ≡ rest
    → AreSettledTo b seat (take i changes) (drop i changes) calls each outcomes → AreSettledTo b seat (take i changes) (change ∷ drop (i + 1) changes) calls rest outcomes
one_left b seat changes i change calls each rest outcomes lt is each_is so_far =
    subst (λ (xs : List Settling). AreSettledTo b seat (take i changes) (change ∷ drop (i + 1) changes) calls xs outcomes) each_is
    (subst (λ (cs : List Change). AreSettledTo b seat (take i changes) cs calls each outcomes) (next_is changes i change lt is) so_far)

nothing_left : {X : Type 0} (xs : List X) → xs ≡ drop 1 xs → xs ≡ []
nothing_left [] same = refl
nothing_left (x ∷ xs) same = absurd (omega (arith, ap length same, length-drop 1 (x ∷ xs)))

pub settle-requires : goal.settle-requires
settle-requires c =
    let inv = c.loop-change.invariant in
    let changes : List Change = c.args.changes.now in
    let i = c.loop-change.change-index in
    let change : Change = c.change-item.result in
    let b : WholeBus = c.requires.0 in
    let seat : ℕ = c.requires.1.0 in
    let so_far = one_left b seat changes i change c.loop-change.calls c.loop-change.each.items (c.in-Some.settling ∷ c.pop_front.new.self.items) c.loop-change.outcomes.items c.loop-change-test.true c.change-item.is c.in-Some.ensures.items
    (inv.settled b seat c.requires.1.1.0 c.requires.1.1.1) in
    (bus_along b seat (take i changes), (seat, (so_far.holding, so_far.along.0)))

pub push_reserved-requires : goal.push_reserved-requires
push_reserved-requires c = omega (arith, c.loop-change.invariant.room, ap length c.in-Some.ensures.items)

pub loop-change-preserved : goal.loop-change-preserved
loop-change-preserved c =
    let inv = c.loop-change.invariant in
    let changes : List Change = c.args.changes.now in
    let i = c.loop-change.change-index in
    let change : Change = c.change-item.result in
    let left : List Change = drop (i + 1) changes in
    let x : Settling = c.in-Some.settling in
    let later : List Settling = c.pop_front.new.self.items in
    let told : List Outcome = c.push_reserved.new.self.items in
    let more : take (i + 1) changes ≡ take i changes ++ change ∷ [] = done_is changes i change c.loop-change-test.true c.change-item.is in
    record {
      room = omega (arith, inv.room, ap length c.in-Some.ensures.items, ap length c.push_reserved.ensures.items, length-append c.loop-change.outcomes.items (c.settle.result ∷ []), c.push_reserved.ensures.capacity);
      settled = λ b seat holding along.
          let so_far = one_left b seat changes i change c.loop-change.calls c.loop-change.each.items (x ∷ later) c.loop-change.outcomes.items c.loop-change-test.true c.change-item.is c.in-Some.ensures.items (inv.settled b seat holding along) in
          let next = settled_more b seat (take i changes) change left c.loop-change.calls c.settle.new.calls x later c.loop-change.outcomes.items c.settle.result so_far c.settle.ensures in
          subst (λ (done : List Change). AreSettledTo b seat done left c.settle.new.calls later told) (sym more)
          (subst (λ (os : List Outcome). AreSettledTo b seat (take i changes ++ change ∷ []) left c.settle.new.calls later os) (sym c.push_reserved.ensures.items) next);
    }

pub returns-in-None : goal.returns-in-None
returns-in-None c b seat holding along =
    let inv = c.loop-change.invariant in
    let changes : List Change = c.args.changes.now in
    let none : c.loop-change.each.items ≡ [] = nothing_left c.loop-change.each.items (c.in-None.ensures.items ∙ c.in-None.ensures.rest) in
    let so_far = one_left b seat changes c.loop-change.change-index c.change-item.result c.loop-change.calls c.loop-change.each.items [] c.loop-change.outcomes.items c.loop-change-test.true c.change-item.is none (inv.settled b seat holding along) in
    absurd so_far.along

pub returns : goal.returns
returns c b seat holding along =
    let inv = c.loop-change.invariant in
    let changes : List Change = c.args.changes.now in
    let all : take c.loop-change.change-index changes ≡ changes = take_all c.loop-change.change-index changes (omega (arith, c.loop-change-test.false)) in
    let so_far = inv.settled b seat holding along in (
      subst (λ (done : List Change). IsHolding (bus_along b seat done) c.loop-change.calls) all so_far.holding,
      so_far.told ∙ ap (outcomes_of b seat) all,
    )
