use Rattle.std.proofs.Common.{◌≡◌, ◌≤◌, take, length, vec_capacity}
use Rattle.match_index.specs.Entries.{new_places}
use Rattle.match_index.proofs.EntryLemmas.{told}
use Rattle.match_index.proofs.entries.number.Given as goal

-- the entries before this one are numbered
abbrev pub invariant-loop-entry : goal.invariant-loop-entry
invariant-loop-entry l = record {
  done : l.moves.items ≡ new_places 0 (take l.entry-index l.entries);
  few : l.next_place ≤ l.entry-index;
  next : l.next_place ≡ told 0 (take l.entry-index l.entries);
  room : length l.entries ≤ vec_capacity l.moves;
  more : vec_capacity l.fn.moves ≤ vec_capacity l.moves;
}
