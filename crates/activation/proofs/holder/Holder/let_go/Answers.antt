use Rattle.std.proofs.Common.{◌≡◌, ◌<◌, suc, List, length, map, ap, sym, ◌∙◌, arith, length-append, subst}
use Rattle.std.proofs.lemmas.List.{map-append, length-map}
use Rattle.activation.specs.Holding.{Waiting}
use Rattle.activation.specs.declared.holder.Held.{Held}
use Rattle.activation.proofs.Rounds.{Round, round_goes_on, round_turns, round_ends}
use Rattle.activation.proofs.holder.Holder.let_go.Goals as goal
use Rattle.activation.proofs.holder.Holder.let_go.Goals.{then-eq, else-eq}

pub loop-place-preserved : goal.loop-place-preserved
loop-place-preserved g c =
    let seen : Held g.row.T.Denot → Waiting g.row.T.Denot = λ w. record { name = w.name; what = w.what } in
    let first : List (Waiting g.row.T.Denot) = map seen c.self.inside.held.items in
    let count : c.loop-place._place < length first = omega (arith, length-map c.self.inside.held.items seen, c.len-place-end.ensures) in
    let now = c.loop-place.self-inside in
    let turned = round_turns g.row.T.Denot c.args.name.now c.args.fate first c.self.inside.given.items c.loop-place._place (map seen now.held.items) now.given.items
    c.loop-place.invariant.round count (seen c.in-Some.held) (map seen c.pop_front.new.self.items) (ap (map seen) (c.in-Some.ensures.items)) in
    let popped : length now.held.items ≡ suc (length c.pop_front.new.self.items) = ap length c.in-Some.ensures.items in
    elim c.if-eq.branch [
      | then-eq w ↦
          let grown = simp length-append at (ap length w.push_back_reserved.ensures.items) in
          rw w.self-inside-is (record {
            round = rw w.push_back_reserved.ensures.items (turned.0 (sym c.eq.ensures ∙ w.if-eq.true));
            held_room = c.pop_front.ensures.capacity ∙ c.loop-place.invariant.held_room;
            given_room = w.push_back_reserved.ensures.capacity ∙ c.loop-place.invariant.given_room;
            both = omega (arith, grown, popped, c.loop-place.invariant.both);
          })
      | else-eq w ↦
          let grown = simp length-append at (ap length w.push_back_reserved-else-eq.ensures.items) in
          rw w.self-inside-is (record {
            round = rw (w.push_back_reserved-else-eq.ensures.items, map-append) (turned.1 (sym c.eq.ensures ∙ w.if-eq.false));
            held_room = w.push_back_reserved-else-eq.ensures.capacity ∙ c.pop_front.ensures.capacity ∙ c.loop-place.invariant.held_room;
            given_room = c.loop-place.invariant.given_room;
            both = omega (arith, grown, popped, c.loop-place.invariant.both);
          })
    ]

pub returns-in_default : goal.returns-in_default
returns-in_default g c =
    let seen : Held g.row.T.Denot → Waiting g.row.T.Denot = λ w. record { name = w.name; what = w.what } in
    let first : List (Waiting g.row.T.Denot) = map seen c.self.inside.held.items in
    let now = c.loop-place.self-inside in
    let count : c.loop-place._place < length first = omega (arith, length-map c.self.inside.held.items seen, c.len-place-end.ensures) in
    absurd (round_goes_on g.row.T.Denot c.args.name.now c.args.fate first c.self.inside.given.items c.loop-place._place (map seen now.held.items) now.given.items
    c.loop-place.invariant.round count (omega (arith, length-map now.held.items seen, c.in_default.ensures.cases.0)))

pub returns : goal.returns
returns g c =
    let seen : Held g.row.T.Denot → Waiting g.row.T.Denot = λ w. record { name = w.name; what = w.what } in
    let first : List (Waiting g.row.T.Denot) = map seen c.self.inside.held.items in
    let now = c.loop-place.self-inside in
    let all : c.loop-place._place ≡ length first = omega (arith, length-map c.self.inside.held.items seen, c.len-place-end.ensures) in
    let ends = round_ends g.row.T.Denot c.args.name.now c.args.fate first c.self.inside.given.items (map seen now.held.items) now.given.items
    (subst (λ n. Round g.row.T.Denot c.args.name.now c.args.fate first c.self.inside.given.items n (map seen now.held.items) now.given.items) all c.loop-place.invariant.round) in
    rw (← c.self.view_is) (λ i. record { held = ends.0 i; given = ends.1 i })
