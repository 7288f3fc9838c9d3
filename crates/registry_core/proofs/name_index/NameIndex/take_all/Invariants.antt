use Rattle.std.proofs.Common.{◌≡◌, ◌+◌, ◌==◌, ℕ, false, take, length, count_by}
use Rattle.registry_core.specs.NameIndexes.{held}
use Rattle.registry_core.proofs.name_index.NameIndex.take_all.Given as goal

-- so many connections of the queue have the name no longer
abbrev pub invariant-loop-owner : goal.invariant-loop-owner
invariant-loop-owner l = record {
  its : (c : ℕ) → held c l.id l.self.places + count_by (λ o. o.connection == c) (take l.owner-index l.queue) ≡ held c l.id l.fn.self.places;
  others : (c i : ℕ) → (l.id == i) ≡ false → held c i l.self.places ≡ held c i l.fn.self.places;
  all : length l.self.places + l.owner-index ≡ length l.fn.self.places;
  names : l.self.names ≡ l.fn.self.names;
}
