use Rattle.std.proofs.Common.{◌≡◌, ◌≤◌, ◌+◌, ◌||◌, ℕ, IfSome, take}
use Rattle.std.specs.List.{count_by, list_any}
use Rattle.match_index.specs.Collecting.{AreAmong, IsKnown, entries_at, is_tested, is_wanting}
use Rattle.match_index.specs.Entries.{live}
use Rattle.match_index.specs.PlaceIndexes.{places_in}
use Rattle.match_index.specs.Sets.{is_in}
use Rattle.match_index.proofs.collecting.collect_at.Given as goal

-- what the places before this one give
abbrev pub invariant-loop-place : goal.invariant-loop-place
invariant-loop-place g l = record {
  found : (c : ℕ) → is_in c l.found ≡ (is_in c l.fn.found || list_any (is_wanting (g.O.Owners.heads l.owners) l.shape l.facts c) (entries_at l.entries (places_in (take l.place-index l.places))));
  among : AreAmong (live l.entries) l.found;
  last : IfSome l.last (IsKnown (g.O.Owners.heads l.owners) l.shape l.facts);
  cost : l.steps ≤ l.fn.steps + count_by (is_tested l.shape l.facts) (entries_at l.entries (places_in (take l.place-index l.places)));
}
