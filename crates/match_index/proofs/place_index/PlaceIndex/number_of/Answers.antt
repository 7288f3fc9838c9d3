use Rattle.std.proofs.Common.{◌==◌, sym, ap, ◌∙◌}
use Rattle.match_index.specs.declared.place_index.KeyedPlace.{KeyedPlace}
use Rattle.match_index.proofs.Lists.{first_place, position_is}
use Rattle.match_index.proofs.EntryLemmas.{first_place-map}
use Rattle.match_index.proofs.place_index.PlaceIndex.number_of.Goals as goal

pub returns : goal.returns
returns c n found =
    c.number_in.ensures n (position_is (λ (p : KeyedPlace). p.place == c.args.place) c.of.result.now ∙ sym (first_place-map (λ k. k == c.args.place) (λ (p : KeyedPlace). p.place) c.of.result.now)
    ∙ ap (first_place (λ k. k == c.args.place)) c.of.ensures ∙ sym (position_is (λ k. k == c.args.place) _) ∙ found)
