use Rattle.std.proofs.Common.{rules, ◌≡◌, ◌<◌, ◌≤◌, nat_le, true, false, take, drop}
use Rattle.std.specs.List.{AllByRecursion as Each}
use Rattle.std.proofs.lemmas.List.Sorted.{IsPartitionPoint-from_clause}
use Rattle.match_index.specs.declared.place_index.KeyedPlace.{KeyedPlace}
use Rattle.match_index.proofs.PlaceIndexLemmas.{not_higher_too}
use Rattle.match_index.proofs.Lists.{each_weaker, is_le, not_le, parted}
use Rattle.match_index.proofs.place_index.end_of.Goals as goal
use Rattle.match_index.proofs.place_index.end_of.Goals.{After-partition_point}

sides : (c : After-partition_point) → Each (λ p. nat_le p.key c.args.key ≡ true) (take c.partition_point.result c.args.places.now) × Each (λ p. nat_le p.key c.args.key ≡ false) (drop c.partition_point.result c.args.places.now)
sides c =
    parted (λ a b. a.key ≤ b.key) (λ p. nat_le p.key c.args.key) (not_higher_too c.args.key) c.args.places.now c.partition_point.result c.requires c.partition_point.ensures.bound
    (λ by. IsPartitionPoint-from_clause (λ p. nat_le p.key c.args.key) c.args.places.now c.partition_point.result c.partition_point.ensures.partitioned by (λ a r f k. search rules))

pub returns-clause-before : goal.returns-clause-before
returns-clause-before c = each_weaker (λ p. nat_le p.key c.args.key ≡ true) (λ (p : KeyedPlace). p.key ≤ c.args.key) (λ p passes. is_le p.key c.args.key passes) _ (sides c).0

pub returns-clause-behind : goal.returns-clause-behind
returns-clause-behind c = each_weaker (λ p. nat_le p.key c.args.key ≡ false) (λ (p : KeyedPlace). c.args.key < p.key) (λ p fails. not_le p.key c.args.key fails) _ (sides c).1
