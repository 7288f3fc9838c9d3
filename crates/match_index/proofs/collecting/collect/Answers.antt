use Rattle.std.proofs.Common.{◌≡◌, ◌<◌, ◌||◌, List, filter, length, sym, ap, ◌∙◌, subst, arith}
use Rattle.std.specs.List.{AllByRecursion as Each, count_by, list_any}
use Rattle.match_index.specs.Buckets.{asked, code_of, message_parts}
use Rattle.match_index.specs.Collecting.{AreAmong, AreOwned, entries_at, is_tested, is_near_below, is_wanting, is_wanting_below}
use Rattle.match_index.specs.Entries.{by_code, has_key, live}
use Rattle.match_index.specs.PlaceIndexes.{places_in}
use Rattle.match_index.specs.Sets.{is_in}
use Rattle.match_index.specs.declared.entries.Entry.{Entry}
use Rattle.match_index.proofs.CollectLemmas.{any_at_first, any_at_last, any_next, any_of_shape, any_skipped, coded_owned, count_at_last, count_next, count_of_shape, entries_at_positions}
use Rattle.match_index.proofs.EntryLemmas.{positions_within}
use Rattle.match_index.proofs.Lists.{each_mapped}
use Rattle.match_index.proofs.collecting.collect.Goals.{After-of-places}
use Rattle.match_index.proofs.collecting.collect.Goals.{then-shapes-shape, else-shapes-shape}
use Rattle.match_index.proofs.collecting.collect.Goals as goal

pub loop-shape-init : goal.loop-shape-init
loop-shape-init g c = record {
  found = λ n. ap (is_in n) c.requires.empty ∙ sym (any_at_first (g.O.Owners.heads c.args.owners.now) c.args.facts.now n (live c.args.entries.now));
  among = subst (AreAmong (live c.args.entries.now)) (sym c.requires.empty) (tt, tt);
  cost = omega arith;
}

pub collect_at-requires-clause-there : goal.collect_at-requires-clause-there
collect_at-requires-clause-there g c =
    let es : List Entry = c.args.entries.now in
    let k = c.code_for.result in
    each_mapped (λ p. p < length es) (λ k. k.place) c.of-places.result.now (subst (Each (λ p. p < length es)) (sym (c.of-places.ensures ∙ c.requires.coded.places_are k)) (positions_within by_code k es))

pub collect_at-requires-clause-owned : goal.collect_at-requires-clause-owned
collect_at-requires-clause-owned g c =
    let es : List Entry = c.args.entries.now in
    let k = c.code_for.result in
    subst (AreOwned (live es)) (sym (ap (entries_at es) (c.of-places.ensures ∙ c.requires.coded.places_are k) ∙ entries_at_positions k es)) (coded_owned k es)

pub loop-shape-preserved : goal.loop-shape-preserved
loop-shape-preserved g c =
    let heads = g.O.Owners.heads c.args.owners.now in
    let facts = c.args.facts.now in
    let shape = c.loop-shape.shape in
    let es : List Entry = c.args.entries.now in
    let all = count_next shape facts (live es) in
    elim c.if-shapes-shape.branch [
      | then-shapes-shape w ↦
          let k = w.code_for.result in
          let code_is : k ≡ code_of (asked shape (message_parts facts)) = w.code_for.ensures ∙ ap (λ p. code_of (asked shape p)) c.of-parts.ensures in
          let looked_at : entries_at es (places_in w.of-places.result.now) ≡ filter (has_key by_code (code_of (asked shape (message_parts facts)))) es =
          ap (entries_at es) (w.of-places.ensures ∙ c.requires.coded.places_are k) ∙ entries_at_positions k es ∙ ap (λ x. filter (has_key by_code x) es) code_is in
          let counted = ap (count_by (is_tested shape facts)) looked_at ∙ count_of_shape shape facts es c.requires.filed in
          record {
            found = λ n. ap (is_in n) w.found-is ∙ w.collect_at.ensures.found n ∙ ap (λ t. t || list_any (is_wanting heads shape facts n) (entries_at es (places_in w.of-places.result.now))) (c.loop-shape.invariant.found n)
                ∙ ap (λ t. list_any (is_wanting_below heads shape facts n) (live es) || t) (ap (list_any (is_wanting heads shape facts n)) looked_at ∙ any_of_shape heads shape facts n es c.requires.filed) ∙ sym (any_next heads shape facts n (live es));
            among = subst (AreAmong (live es)) (sym w.found-is) w.collect_at.ensures.among;
            cost = omega (arith, w.steps-is, w.collect_at.ensures.cost, c.loop-shape.invariant.cost, counted, all);
          }
      | else-shapes-shape w ↦ record {
        found = λ n. ap (is_in n) w.found-is ∙ c.loop-shape.invariant.found n ∙ any_skipped heads c.args.shapes.now shape facts n es c.requires.filed c.requires.shaped w.if-shapes-shape.false;
        among = subst (AreAmong (live es)) (sym w.found-is) c.loop-shape.invariant.among;
        cost = omega (arith, w.steps-is, c.loop-shape.invariant.cost, all);
      }
    ]

pub returns-clause-found : goal.returns-clause-found
returns-clause-found g c = λ n.
    let last : c.loop-shape.shape ≡ 48 = omega (arith, c.loop-shape-test.false, c.loop-shape.auto.shape-end) in
    c.loop-shape.invariant.found n ∙ ap (λ s. list_any (is_wanting_below (g.O.Owners.heads c.args.owners.now) s c.args.facts.now n) (live c.args.entries.now)) last
    ∙ any_at_last (g.O.Owners.heads c.args.owners.now) c.args.facts.now n (live c.args.entries.now)

pub returns-clause-cost : goal.returns-clause-cost
returns-clause-cost g c =
    let last : c.loop-shape.shape ≡ 48 = omega (arith, c.loop-shape-test.false, c.loop-shape.auto.shape-end) in
    let all = ap (λ s. count_by (is_near_below s c.args.facts.now) (live c.args.entries.now)) last ∙ count_at_last c.args.facts.now (live c.args.entries.now) in
    omega (arith, all, c.loop-shape.invariant.cost)
