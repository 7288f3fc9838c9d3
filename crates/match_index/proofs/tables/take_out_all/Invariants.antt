use Rattle.std.proofs.Common.{◌≡◌, ◌≤◌, ◌+◌, length, vec_capacity, Bool, List}
use Rattle.match_rules.specs.OwnedRules.{rules_without}
use Rattle.match_index.specs.Entries.{by_connection, live, positions}
use Rattle.match_index.specs.Indexes.{AreIndexed, AreShaped}
use Rattle.match_index.proofs.tables.take_out_all.Given as goal

-- so many rules of the connection are taken out
abbrev pub invariant-loop : goal.invariant-loop
invariant-loop l = record {
  indexed : AreIndexed l.entries.items l.by_owner.places l.by_bucket.places;
  others : rules_without l.connection (live l.entries.items) ≡ rules_without l.connection (live l.fn.entries.items);
  left : length (positions by_connection l.connection l.entries.items) + l.counter ≡ length (positions by_connection l.connection l.fn.entries.items);
  shaped : (shapes : List Bool) → AreShaped shapes l.fn.entries.items → AreShaped shapes l.entries.items;
  as_many : length l.entries.items ≡ length l.fn.entries.items;
  capacity : vec_capacity l.fn.entries ≤ vec_capacity l.entries;
  owner_room : l.by_owner.room ≡ l.fn.by_owner.room;
  bucket_room : l.by_bucket.room ≡ l.fn.by_bucket.room;
}
