use Rattle.std.proofs.Common.{◌≡◌, ◌+◌, ◌<◌, ◌||◌, ◌==◌, ℕ, IfSome, true, false, List, ◌∷◌, [], ◌++◌, cond, length, take, sym, ap, ◌∙◌, subst, arith}
use Rattle.std.specs.List.{count_by, list_any}
use Rattle.std.proofs.lemmas.Bool.{eqb-true}
use Rattle.match_index.specs.Collecting.{AreAmong, IsKnown, connections_of, entries_at, is_tested, is_wanted, is_wanting}
use Rattle.match_index.specs.Entries.{live}
use Rattle.match_index.specs.PlaceIndexes.{places_in}
use Rattle.match_index.specs.Sets.{is_in}
use Rattle.match_index.specs.declared.entries.Entry.{Entry}
use Rattle.match_index.specs.declared.place_index.KeyedPlace.{KeyedPlace}
use Rattle.match_index.proofs.CollectLemmas.{among_with, any_more, count_more, each_entry, entries_more, found_here, none_here, room_for, wanted_here}
use Rattle.match_index.proofs.Lists.{each_at}
use Rattle.match_index.proofs.SetLemmas.{in_with}
use Rattle.match_index.proofs.collecting.collect_at.Goals.{then-not-contains+then-is_wanted, else-not-contains}
use Rattle.match_index.proofs.collecting.collect_at.Goals.{else-not-contains-via-then-not-contains+else-is_wanted, else-not-contains-via-else-not-contains}
use Rattle.match_index.proofs.collecting.collect_at.Goals as goal

nowhere : KeyedPlace
nowhere = record { key = 0; place = 0 }

pub insert-requires : goal.insert-requires
unfolding nowhere
insert-requires g c = λ fresh.
    let es : List Entry = c.args.entries.now in
    let ps : List KeyedPlace = c.args.places.now in
    let e : Entry = c.index-entries-place.result in
    let i = c.loop-place.place-index in
    let there = each_at (λ p. p.place < length es) ps i nowhere c.requires.there c.loop-place-test.true in
    let owned : is_in e.connection (connections_of (live es)) ≡ true =
    ap (λ (x : Entry). is_in x.connection (connections_of (live es))) c.index-entries-place.is ∙ each_entry (λ x. is_in x.connection (connections_of (live es)) ≡ true) es ps i nowhere e c.requires.owned c.loop-place-test.true there in
    let room = room_for (live es) c.loop-place.found e.connection c.loop-place.invariant.among owned fresh in
    omega (arith, room, c.requires.few)

pub loop-place-preserved : goal.loop-place-preserved
unfolding nowhere
loop-place-preserved g c =
    let heads = g.O.Owners.heads c.args.owners.now in
    let facts = c.args.facts.now in
    let shape = c.args.shape in
    let es : List Entry = c.args.entries.now in
    let ps : List KeyedPlace = c.args.places.now in
    let e : Entry = c.index-entries-place.result in
    let i = c.loop-place.place-index in
    let done = entries_at es (places_in (take i ps)) in
    let there = each_at (λ p. p.place < length es) ps i nowhere c.requires.there c.loop-place-test.true in
    let owned : is_in e.connection (connections_of (live es)) ≡ true =
    ap (λ (x : Entry). is_in x.connection (connections_of (live es))) c.index-entries-place.is ∙ each_entry (λ x. is_in x.connection (connections_of (live es)) ≡ true) es ps i nowhere e c.requires.owned c.loop-place-test.true there in
    let grown : entries_at es (places_in (take (i + 1) ps)) ≡ done ++ e ∷ [] = entries_more es ps i nowhere e c.loop-place-test.true there ∙ ap (λ (x : Entry). done ++ x ∷ []) (sym c.index-entries-place.is) in
    let any_now : (n : ℕ) → list_any (is_wanting heads shape facts n) (entries_at es (places_in (take (i + 1) ps))) ≡ (list_any (is_wanting heads shape facts n) done || is_wanting heads shape facts n e) = λ n. ap (list_any (is_wanting heads shape facts n)) grown ∙ any_more (is_wanting heads shape facts n) done e in
    let count_now : count_by (is_tested shape facts) (entries_at es (places_in (take (i + 1) ps))) ≡ count_by (is_tested shape facts) done + cond (is_tested shape facts e) 1 0 = ap (count_by (is_tested shape facts)) grown ∙ count_more (is_tested shape facts) done e in
    elim c.if-not-contains.branch [
      | then-not-contains+then-is_wanted w ↦
          let wanted : is_wanted heads shape facts e ≡ true = sym w.is_wanted.ensures.value ∙ w.if-is_wanted.true in
          let with_it = w.found-is ∙ w.insert.ensures in
          record {
            found = λ n. ap (is_in n) with_it ∙ in_with n e.connection c.loop-place.found ∙ ap (λ t. t || (e.connection == n)) (c.loop-place.invariant.found n)
                ∙ wanted_here (is_in n c.args.found.now) (list_any (is_wanting heads shape facts n) done) (e.connection == n) (is_wanted heads shape facts e) wanted ∙ ap (λ t. is_in n c.args.found.now || t) (sym (any_now n));
            among = subst (AreAmong (live es)) (sym with_it) (among_with (live es) c.loop-place.found e.connection c.loop-place.invariant.among owned);
            last = subst (λ last. IfSome last (IsKnown heads shape facts)) (sym w.last-is) w.is_wanted.ensures.last;
            cost = omega (arith, w.steps-is, w.is_wanted.ensures.cost, count_now, c.loop-place.invariant.cost);
          }
      | else-not-contains w ↦
          elim w.else-not-contains.branch [
            | else-not-contains-via-then-not-contains+else-is_wanted v ↦
                let unwanted : is_wanted heads shape facts e ≡ false = sym v.is_wanted.ensures.value ∙ v.if-is_wanted.false in
                record {
                  found = λ n. ap (is_in n) w.found-is ∙ c.loop-place.invariant.found n
                      ∙ none_here (is_in n c.args.found.now) (list_any (is_wanting heads shape facts n) done) (e.connection == n) (is_wanted heads shape facts e) unwanted ∙ ap (λ t. is_in n c.args.found.now || t) (sym (any_now n));
                  among = subst (AreAmong (live es)) (sym w.found-is) c.loop-place.invariant.among;
                  last = subst (λ last. IfSome last (IsKnown heads shape facts)) (sym (w.last-is ∙ v.last-is)) v.is_wanted.ensures.last;
                  cost = omega (arith, w.steps-is, v.steps-is, v.is_wanted.ensures.cost, count_now, c.loop-place.invariant.cost);
                }
            | else-not-contains-via-else-not-contains v ↦
                let there : is_in e.connection c.loop-place.found ≡ true = sym c.contains.ensures ∙ v.if-not-contains.false in
                record {
                  found = λ n. ap (is_in n) w.found-is ∙ c.loop-place.invariant.found n
                      ∙ found_here (is_in n c.args.found.now) (list_any (is_wanting heads shape facts n) done) (e.connection == n) (is_wanted heads shape facts e)
                      (λ is. sym (c.loop-place.invariant.found n) ∙ ap (λ m. is_in m c.loop-place.found) (sym (eqb-true e.connection n is)) ∙ there) ∙ ap (λ t. is_in n c.args.found.now || t) (sym (any_now n));
                  among = subst (AreAmong (live es)) (sym w.found-is) c.loop-place.invariant.among;
                  last = subst (λ last. IfSome last (IsKnown heads shape facts)) (sym (w.last-is ∙ v.last-is)) c.loop-place.invariant.last;
                  cost = omega (arith, w.steps-is, v.steps-is, count_now, c.loop-place.invariant.cost);
                }
          ]
    ]
