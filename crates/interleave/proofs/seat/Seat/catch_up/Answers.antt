use Rattle.std.proofs.Common.{◌≡◌, ◌∙◌, ℕ, ◌+◌, ◌-◌, ◌≤◌, List, map, take, drop, ap, sym, arith}
use Rattle.std.proofs.lemmas.List.{drop-take}
use Rattle.interleave.specs.declared.seat.Made.{Made}
use Rattle.interleave.specs.declared.seat.Seat.{Seat}
use Rattle.interleave.specs.Playing.{bus_along, making}
use Rattle.interleave.proofs.seat.Seat.catch_up.Goals as goal
use Rattle.interleave.proofs.seat.Seat.catch_up.Goals.{then-self-place+then-place-published+in_ok-make_all, else-self-place, else-self-place-via-then-self-place+else-place-published, else-self-place-via-else-self-place}

between : {X : Type 0} (from to : ℕ) (xs : List X) → from ≤ to → take (to - from) (drop from xs) ≡ drop from (take to xs)
between from to xs le =
    let e : from + (to - from) ≡ to = omega (arith, le) in
    sym (drop-take from (to - from) xs) ∙ ap (λ n. drop from (take n xs)) e

pub returns : goal.returns
returns c le within = elim c.if-self-place.branch [
  | then-self-place+then-place-published+in_ok-make_all w ↦ (
      let seen = c.args.self.now.seen in
      let published = c.args.published.now in
      let rest : take (c.args.place - seen) (drop seen published) ≡ drop seen (take c.args.place published) = between seen c.args.place published le in
      let bus : c.if-self-place.self.bus ≡ bus_along c.args.self.now.bus (map making (drop seen (take c.args.place published))) =
      ap (λ (s : Seat). s.bus) w.self-is ∙ w.in_ok-make_all.ensures ∙ ap (λ (made : List Made). bus_along c.args.self.now.bus (map making made)) rest in
      λ i. record { seen = c.args.place; bus = bus i }
      )
  | else-self-place w ↦ elim w.else-self-place.branch [
    | else-self-place-via-then-self-place+else-place-published v ↦ absurd (omega (arith, within, v.if-place-published.false))
    | else-self-place-via-else-self-place v ↦ absurd (omega (arith, le, v.if-self-place.false))
  ]
]
