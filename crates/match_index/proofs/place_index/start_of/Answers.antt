use Rattle.std.proofs.Common.{rules, ◌<◌, ◌≤◌, nat_lt, take, drop}
use Rattle.std.specs.List.{AllByRecursion as Each}
use Rattle.std.proofs.lemmas.List.Sorted.{IsPartitionPoint-from_clause}
use Rattle.match_index.proofs.Lists.{parted_by}
use Rattle.match_index.proofs.place_index.start_of.Goals as goal
use Rattle.match_index.proofs.place_index.start_of.Goals.{After-partition_point}

sides : (c : After-partition_point) → Each (λ p. p.key < c.args.key) (take c.partition_point.result c.args.places.now) × Each (λ p. c.args.key ≤ p.key) (drop c.partition_point.result c.args.places.now)
sides c =
    parted_by (λ p. p.key) c.args.key (λ a b. a.key ≤ b.key) (λ a b le. le) c.args.places.now c.partition_point.result c.requires c.partition_point.ensures.bound
    (λ by. IsPartitionPoint-from_clause (λ p. nat_lt p.key c.args.key) c.args.places.now c.partition_point.result c.partition_point.ensures.partitioned by (λ a r f k. search rules))

pub returns-clause-before : goal.returns-clause-before
returns-clause-before c = (sides c).0

pub returns-clause-behind : goal.returns-clause-behind
returns-clause-behind c = (sides c).1
