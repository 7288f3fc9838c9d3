use Rattle.std.proofs.Common.{◌≡◌, ◌++◌, map, take, drop, get_or}
use Rattle.match_index.proofs.PlaceIndexLemmas.{moved}
use Rattle.match_index.proofs.place_index.PlaceIndex.renumber.Given as goal

-- the places before this one are the new ones
abbrev pub invariant-loop-place : goal.invariant-loop-place
invariant-loop-place l = l.place-items ≡ map (moved (λ place. get_or l.moves place 0)) (take l.place-index l.initial.place-items) ++ drop l.place-index l.initial.place-items
