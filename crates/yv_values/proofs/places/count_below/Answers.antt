use Rattle.std.proofs.Common.{ltb, arith, rules}
use Rattle.std.proofs.lemmas.Bool.Decides.{nat_tests}
use Rattle.std.proofs.lemmas.List.Sorted.{IsPartitionedBy-ltb, IsPartitionPoint-from_clause}
use Rattle.yv_values.proofs.places.count_below.Goals as goal

pub returns-clause-below : goal.returns-clause-below
returns-clause-below c =
    let xs = c.args.places.now in
    let point = IsPartitionPoint-from_clause (λ p. ltb p c.args.place) _ _ c.partition_point.ensures.partitioned (IsPartitionedBy-ltb (λ p. p) xs c.args.place c.requires) (λ a r q k. search rules) in
    λ k h. grind (arith, nat_tests, point.0 k 0 (omega arith) h)

pub returns-clause-above : goal.returns-clause-above
returns-clause-above c =
    let xs = c.args.places.now in
    let point = IsPartitionPoint-from_clause (λ p. ltb p c.args.place) _ _ c.partition_point.ensures.partitioned (IsPartitionedBy-ltb (λ p. p) xs c.args.place c.requires) (λ a r q k. search rules) in
    λ k h b. grind (arith, nat_tests, point.1 k 0 h b)
