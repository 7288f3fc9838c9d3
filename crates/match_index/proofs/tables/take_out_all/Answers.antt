use Rattle.std.proofs.Common.{◌≡◌, ◌<◌, ◌+◌, ℕ, List, length, get_or, sym, ap, ◌∙◌, arith, subst}
use Rattle.std.proofs.lemmas.List.{length-map}
use Rattle.match_rules.specs.OwnedRules.{rules_without}
use Rattle.match_index.specs.Entries.{by_connection, live, positions}
use Rattle.match_index.specs.Indexes.{AreShaped}
use Rattle.match_index.specs.declared.entries.Entry.{Entry}
use Rattle.match_index.specs.declared.place_index.KeyedPlace.{KeyedPlace}
use Rattle.match_index.proofs.EntryLemmas.{length_marked, none_left, nth_position, others_stay, taken_own}
use Rattle.match_index.proofs.IndexLemmas.{length_removed, shaped_marked}
use Rattle.match_index.proofs.tables.take_out_all.Goals as goal

-- how many rules the connection has
counted : (c : ℕ) (ps : List KeyedPlace) (ks : List ℕ) → Rattle.match_index.specs.PlaceIndexes.places_in ps ≡ ks → length ps ≡ length ks
counted c ps ks is = sym (length-map ps (λ p. p.place)) ∙ ap length is

pub take_out-requires-clause-there : goal.take_out-requires-clause-there
take_out-requires-clause-there c =
    let all = counted c.args.connection c.of-end.result.now _ (c.of-end.ensures ∙ c.requires.owned.places_are c.args.connection) in
    omega (arith, all, c.loop-test.true, c.loop.invariant.left)

pub loop-preserved : goal.loop-preserved
loop-preserved c =
    let n = c.args.connection in
    let es : List Entry = c.loop.entries.items in
    let all = counted n c.of-end.result.now _ (c.of-end.ensures ∙ c.requires.owned.places_are n) in
    let there : 0 < length (positions by_connection n es) = omega (arith, all, c.loop-test.true, c.loop.invariant.left) in
    let p = get_or (positions by_connection n es) 0 0 in
    let nth = nth_position by_connection n 0 es there in
    let fewer : length (positions by_connection n c.take_out.new.entries.items) + 1 ≡ length (positions by_connection n es) =
    ap (λ ys. length (positions by_connection n ys) + 1) c.take_out.ensures.items ∙ ap (λ ks. length ks + 1) (taken_own by_connection n 0 es p nth) ∙ length_removed (positions by_connection n es) 0 there in
    record {
      indexed = c.take_out.ensures.indexed;
      others = ap (λ ys. rules_without n (live ys)) c.take_out.ensures.items ∙ others_stay n 0 es p nth ∙ c.loop.invariant.others;
      left = omega (arith, fewer, c.loop.invariant.left);
      shaped = λ shapes h. subst (AreShaped shapes) (sym c.take_out.ensures.items) (shaped_marked shapes es p (c.loop.invariant.shaped shapes h));
      as_many = ap length c.take_out.ensures.items ∙ length_marked es p ∙ c.loop.invariant.as_many;
      capacity = omega (arith, c.take_out.ensures.capacity, c.loop.invariant.capacity);
      owner_room = c.take_out.ensures.owner_room ∙ c.loop.invariant.owner_room;
      bucket_room = c.take_out.ensures.bucket_room ∙ c.loop.invariant.bucket_room;
    }

pub returns-clause-live : goal.returns-clause-live
returns-clause-live c =
    let n = c.args.connection in
    let all = counted n c.of-end.result.now _ (c.of-end.ensures ∙ c.requires.owned.places_are n) in
    let none : length (positions by_connection n c.loop.entries.items) ≡ 0 = omega (arith, all, c.loop-test.false, c.loop.invariant.left) in
    sym (none_left n c.loop.entries.items none) ∙ c.loop.invariant.others
