use Rattle.std.proofs.Common.{false, ◌≡◌, ◌+◌, length, ◌++◌, ◌∷◌, [], refl, sym, ap, ◌∙◌, subst, arith, rules, ◌<◌}
use Rattle.std.proofs.lemmas.List.{length-append}
use Rattle.match_index.specs.Entries.{by_code, by_connection, live}
use Rattle.match_index.specs.Indexes.{AreIndexed, AreShaped}
use Rattle.match_index.specs.PlaceIndexes.{places_of}
use Rattle.match_index.specs.declared.entries.Entry.{Entry}
use Rattle.match_index.proofs.IndexLemmas.{filed_added, placed_added, shaped_added}
use Rattle.match_index.proofs.index.Index.add.Goals as goal

pub invariant_of-self : goal.invariant_of-self
invariant_of-self c =
    let r = c.self.inside in
    let entries = r.entries.items in
    let n = c.args.connection in
    let k = c.bucket_of-bucket.result.code in
    let e : Entry = record { connection = n; rule = c.args.rule; bucket = c.bucket_of-bucket.result; is_gone = false } in
    let at : c.len-place.result ≡ length entries = c.len-place.ensures ∙ r.entries.ok.0 in
    let indexed : AreIndexed (entries ++ e ∷ []) c.add.new.self.places c.add-2.new.self.places = record {
      owned = placed_added by_connection n r.by_owner.places c.add.new.self.places entries e c.self.invariant.indexed.owned refl (λ x. refl) (c.add.ensures.own ∙ ap (λ p. places_of n r.by_owner.places ++ p ∷ []) at) c.add.ensures.others c.add.ensures.all;
      coded = placed_added by_code k r.by_bucket.places c.add-2.new.self.places entries e c.self.invariant.indexed.coded refl (λ x. refl) (c.add-2.ensures.own ∙ ap (λ p. places_of k r.by_bucket.places ++ p ∷ []) at) c.add-2.ensures.others c.add-2.ensures.all;
      filed = filed_added entries e c.self.invariant.indexed.filed c.bucket_of-bucket.ensures.value;
    } in
    let more = ap length c.push_reserved.ensures.items ∙ length-append entries (e ∷ []) in
    let live_more : length (live (entries ++ e ∷ [])) ≡ length (live entries) + 1 = sym indexed.owned.all ∙ c.add.ensures.all ∙ ap (λ k. k + 1) c.self.invariant.indexed.owned.all in
    let same = ap (λ es. length (live es)) c.push_reserved.ensures.items in
    let now = ap length c.self.view_is in
    let in_room : c.bucket_of-bucket.result.shape < length r.shapes = search (rules, arith) in
    record {
      indexed = subst (λ es. AreIndexed es c.add.new.self.places c.add-2.new.self.places) (sym c.push_reserved.ensures.items) indexed;
      shaped = subst (AreShaped _) (sym c.push_reserved.ensures.items) (shaped_added r.shapes entries e c.self.invariant.shaped in_room);
      few_gone = omega (arith, more, live_more, same, c.self.invariant.few_gone);
      few = omega (arith, live_more, same, now, c.requires);
      has_room = omega (arith, c.self.invariant.has_room, c.push_reserved.ensures.capacity);
      has_moves = c.self.invariant.has_moves;
      connections_room = c.add.ensures.room ∙ c.self.invariant.connections_room;
      codes_room = c.add-2.ensures.room ∙ c.self.invariant.codes_room;
    }
