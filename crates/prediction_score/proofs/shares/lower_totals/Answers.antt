use Rattle.std.proofs.Common.{ltb, rules}
use Rattle.std.proofs.lemmas.List.Sorted.{IsPartitionPoint-from_clause, IsPartitionedBy-ltb}
use Rattle.prediction_score.proofs.RisingKeys.{IsSplit-from_point, rising-nondecreasing}
use Rattle.prediction_score.proofs.shares.lower_totals.Goals as goal

pub returns : goal.returns
returns c =
    let parted = IsPartitionedBy-ltb (λ t. t.place) c.args.totals.now c.args.place
    (rising-nondecreasing (λ t. t.place) _ c.requires)
    in
    IsSplit-from_point (λ t. t.place) _ _ _ c.partition_point.ensures.bound
    (IsPartitionPoint-from_clause (λ t. ltb t.place c.args.place) _ _ c.partition_point.ensures.partitioned parted
    (λ a r f k. search rules))
