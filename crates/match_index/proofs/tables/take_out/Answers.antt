use Rattle.std.proofs.Common.{◌≡◌, ◌<◌, ◌==◌, ◌++◌, ℕ, refl, List, length, get_or, remove, take, drop, sym, ap, ◌∙◌, subst, arith}
use Rattle.std.specs.List.{position}
use Rattle.match_index.specs.Entries.{by_code, by_connection, marked, positions}
use Rattle.match_index.specs.Indexes.{AreIndexed}
use Rattle.match_index.specs.PlaceIndexes.{places_of}
use Rattle.match_index.specs.declared.entries.Entry.{Entry}
use Rattle.match_index.specs.declared.place_index.KeyedPlace.{KeyedPlace}
use Rattle.match_index.proofs.EntryLemmas.{IsAmong, length_marked, positions_within}
use Rattle.match_index.proofs.Lists.{each_at}
use Rattle.match_index.proofs.IndexLemmas.{chosen, chosen_number, chosen_place, indexed_taken, number_below, written_back}
use Rattle.match_index.proofs.tables.take_out.Goals.{After-mark}
use Rattle.match_index.proofs.tables.take_out.Goals as goal

nowhere : KeyedPlace
nowhere = record { key = 0; place = 0 }

-- the place of the rule
abbrev at : After-mark → ℕ
at c = get_or (positions by_connection c.args.connection c.args.entries.now.items) c.args.n 0

below : (n c : ℕ) (es : List Entry) → n < length (positions by_connection c es) → get_or (positions by_connection c es) n 0 < length es
below n c es lt = each_at (λ k. k < length es) (positions by_connection c es) n 0 (positions_within by_connection c es) lt

place_is : (c : After-mark) → (get_or c.of.result.now c.args.n nowhere).place ≡ get_or (positions by_connection c.args.connection c.args.entries.now.items) c.args.n 0
unfolding nowhere
place_is c = chosen_place c.args.connection c.args.n c.args.entries.now.items c.args.by_owner.now.places c.args.by_bucket.now.places c.of.result.now nowhere c.requires.indexed c.of.ensures refl

pub index-requires : goal.index-requires
unfolding nowhere
index-requires c =
    let es : List Entry = c.args.entries.now.items in
    let is = chosen_place c.args.connection c.args.n es c.args.by_owner.now.places c.args.by_bucket.now.places c.of.result.now nowhere c.requires.indexed c.of.ensures refl in
    let lt = below c.args.n c.args.connection es c.requires.there in
    omega (arith, is, lt, c.args.entries.now.ok.0)

pub mark-requires : goal.mark-requires
unfolding nowhere
mark-requires c =
    let es : List Entry = c.args.entries.now.items in
    let is = chosen_place c.args.connection c.args.n es c.args.by_owner.now.places c.args.by_bucket.now.places c.of.result.now nowhere c.requires.indexed c.of.ensures refl in
    let lt = below c.args.n c.args.connection es c.requires.there in
    let size = ap length c.deref_mut.ensures.value in
    omega (arith, is, lt, size)

-- where the rule stands in its bucket
its : (c : After-mark) → IsAmong by_code c.index.result.now.bucket.code c.args.entries.now.items (at c)
unfolding nowhere
its c =
    let es : List Entry = c.args.entries.now.items in
    let d : Entry = c.index.result.now in
    let code_is : by_code d ≡ by_code (get_or es (at c) d) = ap by_code (c.index.ensures ∙ ap (λ q. get_or es q d) (place_is c)) in
    subst (λ k. IsAmong by_code k es (at c)) (sym code_is) (chosen c.args.connection c.args.n es d c.requires.there).its

number_is : (c : After-mark) → c.number_of-number.result ≡ (its c).place
unfolding nowhere
number_is c =
    let k = c.index.result.now.bucket.code in
    let codes = c.args.by_bucket.now.places in
    chosen_number k (at c) c.number_of-number.result c.args.entries.now.items c.args.by_owner.now.places codes c.requires.indexed (its c)
    (λ i found. c.number_of-number.ensures i (ap (λ q. position (λ r. r == q) (places_of k codes)) (place_is c) ∙ found))

pub take-requires-2 : goal.take-requires-2
take-requires-2 c =
    let after = (goal.at.take-requires-2 c).After-mark in
    number_below c.index.result.now.bucket.code (at after) c.number_of-number.result c.args.entries.now.items c.args.by_owner.now.places c.args.by_bucket.now.places c.requires.indexed (its after) (number_is after)

left : (c : After-mark) → take c.args.entries.now.len (c.mark.new.entries ++ drop (length c.mark.new.entries) c.args.entries.now.items) ≡ marked c.args.entries.now.items (at c)
unfolding nowhere
left c =
    let es : List Entry = c.args.entries.now.items in
    let p = at c in
    let is : c.mark.new.entries ≡ marked es p = c.mark.ensures ∙ ap (λ (ys : List Entry). marked ys (get_or c.of.result.now c.args.n nowhere).place) c.deref_mut.ensures.value ∙ ap (marked es) (place_is c) in
    written_back c.args.entries.now.len es c.mark.new.entries (ap length is ∙ length_marked es p ∙ sym c.args.entries.now.ok.0) ∙ is

pub returns-clause-items : goal.returns-clause-items
returns-clause-items c = left (goal.at.returns-clause-items c).After-mark

pub returns-clause-indexed : goal.returns-clause-indexed
returns-clause-indexed c =
    let after = (goal.at.returns-clause-indexed c).After-mark in
    let es : List Entry = c.args.entries.now.items in
    let codes = c.args.by_bucket.now.places in
    let k = c.index.result.now.bucket.code in
    subst (λ ys. AreIndexed ys c.take.new.self.places c.take-2.new.self.places) (sym (left after))
    (indexed_taken c.args.connection c.args.n (at after) k es c.args.by_owner.now.places codes c.take.new.self.places c.take-2.new.self.places c.requires.indexed
    (chosen c.args.connection c.args.n es c.index.result.now c.requires.there).nth (its after) c.take.ensures.own c.take.ensures.others c.take.ensures.all
    (c.take-2.ensures.own ∙ ap (remove (places_of k codes)) (number_is after)) c.take-2.ensures.others c.take-2.ensures.all)
