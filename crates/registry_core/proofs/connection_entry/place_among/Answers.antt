use Rattle.std.proofs.Common.{rules, ◌<◌, ◌≤◌, nat_lt, take, drop, arith}
use Rattle.std.specs.List.{AllByRecursion as Each}
use Rattle.std.proofs.lemmas.List.Sorted.{IsPartitionPoint-from_clause}
use Rattle.match_index.proofs.Lists.{parted_by}
use Rattle.registry_core.proofs.connection_entry.place_among.Goals as goal
use Rattle.registry_core.proofs.connection_entry.place_among.Goals.{After-partition_point}

sides : (c : After-partition_point) → Each (λ m. m.conn.number < c.args.number) (take c.partition_point.result c.args.entries.now) × Each (λ m. c.args.number ≤ m.conn.number) (drop c.partition_point.result c.args.entries.now)
sides c =
    parted_by (λ m. m.conn.number) c.args.number (λ a b. a.conn.number < b.conn.number) (λ a b lt. omega (arith, lt)) c.args.entries.now c.partition_point.result c.requires c.partition_point.ensures.bound
    (λ by. IsPartitionPoint-from_clause (λ m. nat_lt m.conn.number c.args.number) c.args.entries.now c.partition_point.result c.partition_point.ensures.partitioned by (λ a r f k. search rules))

pub returns-clause-before : goal.returns-clause-before
returns-clause-before c = (sides c).0

pub returns-clause-behind : goal.returns-clause-behind
returns-clause-behind c = (sides c).1
