-- Beginnings of legal histories.
use Rattle.std.proofs.Common.{◌≡◌, ℕ, ◌+◌, true, List, [], ◌∷◌, ◌++◌, length, refl, sym, subst}
use Rattle.std.specs.List.{range_with_len}
use Rattle.std.proofs.lemmas.Bool.{and_parts, and_from}
use Rattle.seq_bus_core.specs.Histories.{History, numbers_of, goes_on, has_whole_publications, ends_publication, IsLegal}
use Rattle.seq_bus_core.specs.Laws.{BeginningsAreLegal}
use Rattle.seq_bus_core.proofs.Extending.{numbers_more}

counted_front : (from : ℕ) (xs ys : List ℕ) → xs ++ ys ≡ range_with_len from (length (xs ++ ys)) → xs ≡ range_with_len from (length xs)
counted_front from [] ys e = refl
counted_front from (x ∷ xs) ys e =
    let first : x ≡ from = cc in
    let others : xs ++ ys ≡ range_with_len (from + 1) (length (xs ++ ys)) = cc in
    λ i. first i ∷ counted_front (from + 1) xs ys others i

whole_front : (front rest : History) → ends_publication front ≡ true → has_whole_publications (front ++ rest) ≡ true → has_whole_publications front ≡ true
whole_front [] rest ends whole = refl
whole_front (e ∷ []) rest ends whole = and_from (goes_on e []) true ends refl
whole_front (e ∷ next ∷ es) rest ends whole =
    let parts : (goes_on e (next ∷ es ++ rest) ≡ true) × (has_whole_publications (next ∷ es ++ rest) ≡ true) = and_parts (goes_on e (next ∷ es ++ rest)) (has_whole_publications (next ∷ es ++ rest)) whole in
    and_from (goes_on e (next ∷ es)) (has_whole_publications (next ∷ es)) parts.0 (whole_front (next ∷ es) rest ends parts.1)

pub beginnings_are_legal : BeginningsAreLegal
beginnings_are_legal front history begins ends legal =
    let joined : IsLegal (front ++ begins.0) = subst IsLegal (sym begins.1) legal in
    record {
      numbered = λ seat. counted_front 1 (numbers_of seat front) (numbers_of seat begins.0) (subst (λ ns. ns ≡ range_with_len 1 (length ns)) (numbers_more seat front begins.0) (joined.numbered seat));
      whole = whole_front front begins.0 ends joined.whole;
    }
