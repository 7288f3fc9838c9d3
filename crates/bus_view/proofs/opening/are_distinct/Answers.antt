use Rattle.std.proofs.Common.{◌≡◌, ◌∷◌, length, refl, sym}
use Rattle.names.specs.Texts.{text_eq}
use Rattle.bus_view.proofs.OpeningLemmas.{all_unlike, some_like, distinct_empty, distinct_cons, distinct_parts}
use Rattle.bus_view.proofs.opening.are_distinct.Goals as goal

pub returns-then-is_among : goal.returns-then-is_among
returns-then-is_among c =
    let split : c.loop-first.rest.now ≡ c.in-Some.first.now ∷ c.in-Some.others.now = c.in-Some.ensures.cases.0 in (
      λ never. absurd cc,
      λ distinct. absurd (some_like (text_eq c.in-Some.first.now) c.in-Some.others.now (sym c.if-is_among.ensures)
          (distinct_parts c.loop-first.rest.now c.in-Some.others.now c.in-Some.first.now split (c.loop-first.invariant.0 distinct)).0),
    )

pub loop-first-preserved : goal.loop-first-preserved
loop-first-preserved c =
    let split : c.loop-first.rest.now ≡ c.in-Some.first.now ∷ c.in-Some.others.now = c.in-Some.ensures.cases.0 in (
      λ distinct. (distinct_parts c.loop-first.rest.now c.in-Some.others.now c.in-Some.first.now split (c.loop-first.invariant.0 distinct)).1,
      λ others. c.loop-first.invariant.1 (distinct_cons c.loop-first.rest.now c.in-Some.others.now c.in-Some.first.now split
          (all_unlike (text_eq c.in-Some.first.now) c.in-Some.others.now (sym c.if-is_among.ensures)) others),
    )

pub returns : goal.returns
returns c =
    let empty : length c.loop-first.rest.now ≡ 0 = c.in_default.ensures.cases in
    (λ h. c.loop-first.invariant.1 (distinct_empty c.loop-first.rest.now empty), λ h. refl)
