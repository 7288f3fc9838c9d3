-- The steps of the walk in the code.
use Rattle.std.proofs.Common.{◌≡◌, ℕ, ◌+◌, ◌<◌, ◌≤◌, Option, None, List, [], ◌∷◌, ◌++◌, length, map, take, take_all, flat_map, get_or, sym, ap, ◌∙◌, arith}
use Rattle.std.specs.List.{take-map, AllByRecursion as Each}
use Rattle.std.proofs.lemmas.List.{length-map, map-append, take_more}
use Rattle.seq_bus_core.specs.BusState.{BusState}
use Rattle.trace_check_core.specs.KeptLines.{IsSeated}
use Rattle.trace_check_core.specs.Placing.{LinesThere, line_seen, lines_by_place, place_seen}
use Rattle.trace_check_core.specs.Traces.{Trace}
use Rattle.trace_check_core.specs.Verdicts.{misplaced, wrong}
use Rattle.trace_check_core.specs.Walks.{Walk, first_step, in_turn, walked, walked_along}
use Rattle.trace_check_core.specs.declared.places.NumberedLine.{NumberedLine as KeptWithNumber}
use Rattle.trace_check_core.specs.declared.places.PlaceLines.{PlaceLines}
use Rattle.trace_check_core.proofs.WalkLaws.{places_more, walk_finds_wrong, walked_more}

one_more : {X Y : Type 0} (f : X → Y) (xs : List X) (i : ℕ) (x : X) → i < length xs → x ≡ get_or xs i x → map f (take i xs) ++ f x ∷ [] ≡ map f (take (i + 1) xs)
one_more f xs i x within is =
    sym (ap (map f) (take_more xs i x within ∙ ap (λ y. take i xs ++ y ∷ []) (sym is)) ∙ map-append f (take i xs) (x ∷ []))

-- one read more
pub read_walked : (w here next : Walk) (reads : List KeptWithNumber) (i : ℕ) (read : KeptWithNumber) → i < length reads → read ≡ get_or reads i read →
    here ≡ walked_along w (map line_seen (take i reads)) → next ≡ walked here (line_seen read) → next ≡ walked_along w (map line_seen (take (i + 1) reads))
read_walked w here next reads i read within is so_far step =
    step ∙ walked_more w here (map line_seen (take i reads)) (line_seen read) so_far ∙ ap (walked_along w) (one_more line_seen reads i read within is)

-- one place more
pub place_walked : (w here next : Walk) (places : List PlaceLines) (i : ℕ) (place : PlaceLines) → i < length places → place ≡ get_or places i place →
    here ≡ walked_along w (flat_map in_turn (take i (map place_seen places))) → next ≡ walked_along here (in_turn (place_seen place)) →
    next ≡ walked_along w (flat_map in_turn (take (i + 1) (map place_seen places)))
place_walked w here next places i place within is so_far step =
    let done : List LinesThere = map place_seen (take i places) in
    step
    ∙ places_more w here done (place_seen place) (so_far ∙ ap (λ (ls : List LinesThere). walked_along w (flat_map in_turn ls)) (take-map place_seen i places))
    ∙ ap (λ (ls : List LinesThere). walked_along w (flat_map in_turn ls)) (one_more place_seen places i place within is ∙ sym (take-map place_seen (i + 1) places))

-- all places were walked along
pub all_walked : (t : Trace) (places : List PlaceLines) (i : ℕ) (bus : BusState) (least : Option ℕ) → misplaced t ≡ None → Each (IsSeated t.routers) t.lines → map place_seen places ≡ lines_by_place t → length places ≤ i →
    record { bus = bus; least = least } ≡ walked_along (first_step t) (flat_map in_turn (take i (map place_seen places))) → least ≡ wrong t
all_walked t places i bus least placed seated seen past so_far =
    let count = length-map places place_seen in
    ap (λ (w : Walk). w.least) (so_far ∙ ap (λ (ls : List LinesThere). walked_along (first_step t) (flat_map in_turn ls)) (take_all i (map place_seen places) (omega (arith, count, past)) ∙ seen))
    ∙ walk_finds_wrong t placed seated
