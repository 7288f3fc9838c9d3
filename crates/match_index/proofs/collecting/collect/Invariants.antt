use Rattle.std.proofs.Common.{◌≡◌, ◌≤◌, ◌+◌, ℕ}
use Rattle.std.specs.List.{count_by, list_any}
use Rattle.match_index.specs.Collecting.{AreAmong, is_near_below, is_wanting_below}
use Rattle.match_index.specs.Entries.{live}
use Rattle.match_index.specs.Sets.{is_in}
use Rattle.match_index.proofs.collecting.collect.Given as goal

-- what the shapes before this one give
abbrev pub invariant-loop-shape : goal.invariant-loop-shape
invariant-loop-shape g l = record {
  found : (c : ℕ) → is_in c l.found ≡ list_any (is_wanting_below (g.O.Owners.heads l.owners) l.shape l.facts c) (live l.entries);
  among : AreAmong (live l.entries) l.found;
  cost : l.steps ≤ l.fn.steps + count_by (is_near_below l.shape l.facts) (live l.entries);
}
