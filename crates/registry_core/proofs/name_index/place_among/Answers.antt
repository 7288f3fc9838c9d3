use Rattle.std.proofs.Common.{rules, ◌≡◌, true, false, take, drop}
use Rattle.std.specs.List.{AllByRecursion as Each}
use Rattle.std.proofs.lemmas.List.Sorted.{IsPartitionPoint-from_clause}
use Rattle.names.specs.Texts.{text_lt}
use Rattle.match_index.proofs.Lists.{dropped_mapped, pairs_mapped, parted, taken_mapped}
use Rattle.registry_core.specs.NameIndexes.{name_at}
use Rattle.registry_core.proofs.IndexLemmas.{before_too}
use Rattle.registry_core.proofs.name_index.place_among.Goals as goal
use Rattle.registry_core.proofs.name_index.place_among.Goals.{After-name-2-1}

sides : (c : After-name-2-1) → Each (λ p. text_lt (name_at c.args.names.now p.place) c.args.name.now ≡ true) (take c.partition_point.result c.args.places.now) × Each (λ p. text_lt (name_at c.args.names.now p.place) c.args.name.now ≡ false) (drop c.partition_point.result c.args.places.now)
sides c =
    let names = c.args.names.now in
    let name = c.args.name.now in
    let places = c.args.places.now in
    parted (λ a b. text_lt (name_at names b.place) (name_at names a.place) ≡ false) (λ p. text_lt (name_at names p.place) name) (λ a b. before_too (name_at names a.place) (name_at names b.place) name) places c.partition_point.result
    (pairs_mapped (λ i j. text_lt (name_at names j) (name_at names i) ≡ false) (λ p. p.place) places c.requires) c.partition_point.ensures.bound
    (λ by. IsPartitionPoint-from_clause (λ p. text_lt (name_at names p.place) name) places c.partition_point.result c.partition_point.ensures.partitioned by (λ a r f k. search rules))

pub returns-clause-before : goal.returns-clause-before
returns-clause-before c = taken_mapped (λ id. text_lt (name_at c.args.names.now id) c.args.name.now ≡ true) (λ p. p.place) c.args.places.now c.partition_point.result (sides c).0

pub returns-clause-behind : goal.returns-clause-behind
returns-clause-behind c = dropped_mapped (λ id. text_lt (name_at c.args.names.now id) c.args.name.now ≡ false) (λ p. p.place) c.args.places.now c.partition_point.result (sides c).1
