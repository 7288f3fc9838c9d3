use Rattle.std.proofs.Common.{◌≡◌, rules, ℕ, List, filter, length, map, get_or, sym, ap, ◌∙◌, subst}
use Rattle.std.proofs.lemmas.Fn.{filter_same}
use Rattle.match_index.specs.Entries.{is_there, live, new_places}
use Rattle.match_index.specs.Indexes.{AreIndexed, AreShaped}
use Rattle.match_index.specs.PlaceIndexes.{places_of}
use Rattle.match_index.specs.declared.entries.Entry.{Entry}
use Rattle.match_index.proofs.EntryLemmas.{swept_live, swept_length}
use Rattle.match_index.proofs.IndexLemmas.{indexed_swept, shaped_swept}
use Rattle.match_index.proofs.tables.sweep.Goals.{After-retain}
use Rattle.match_index.proofs.tables.sweep.Goals as goal

kept : (c : After-retain) → c.retain.new.self.items ≡ filter is_there c.args.entries.now.items
kept c = filter_same _ _ _ (λ d b f k. search rules) _ _ c.retain.ensures.filtered

pub returns-clause-live : goal.returns-clause-live
returns-clause-live c = ap live (kept (goal.at.returns-clause-live c).After-retain) ∙ swept_live c.args.entries.now.items

pub returns-clause-indexed : goal.returns-clause-indexed
returns-clause-indexed c =
    let after = (goal.at.returns-clause-indexed c).After-retain in
    let es : List Entry = c.args.entries.now.items in
    let moved : c.number.new.moves.items ≡ new_places 0 es = c.number.ensures.moves ∙ ap (new_places 0) c.as_slice.ensures.value in
    let first = c.as_slice-2.ensures.value ∙ moved in
    let second = c.as_slice-3.ensures.value ∙ moved in
    subst (λ ys. AreIndexed ys c.renumber.new.self.places c.renumber-2.new.self.places) (sym (kept after))
    (indexed_swept es c.args.by_owner.now.places c.args.by_bucket.now.places c.renumber.new.self.places c.renumber-2.new.self.places c.requires.indexed
    (λ k. c.renumber.ensures.places k ∙ ap (λ (ms : List ℕ). map (λ place. get_or ms place 0) (places_of k c.args.by_owner.now.places)) first) c.renumber.ensures.all
    (λ k. c.renumber-2.ensures.places k ∙ ap (λ (ms : List ℕ). map (λ place. get_or ms place 0) (places_of k c.args.by_bucket.now.places)) second) c.renumber-2.ensures.all)

pub returns-clause-none_gone : goal.returns-clause-none_gone
returns-clause-none_gone c =
    let is = kept (goal.at.returns-clause-none_gone c).After-retain in
    ap length is ∙ swept_length c.args.entries.now.items ∙ sym (ap length (ap live is ∙ swept_live c.args.entries.now.items))

pub returns-clause-shaped : goal.returns-clause-shaped
returns-clause-shaped c = λ shapes h. subst (AreShaped shapes) (sym (kept (goal.at.returns-clause-shaped c).After-retain)) (shaped_swept shapes c.args.entries.now.items h)
