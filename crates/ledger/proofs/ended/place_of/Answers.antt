use Rattle.std.proofs.Common.{rules}
use Rattle.std.proofs.lemmas.List.Sorted.{IsPartitionPoint-from_clause}
use Rattle.units.specs.Ids.{older}
use Rattle.units.proofs.FrontLaws.{point_is_front, older_partitioned}
use Rattle.ledger.proofs.ended.place_of.Goals as goal

pub returns-clause-place : goal.returns-clause-place
returns-clause-place c =
    let txn = c.args.txn in
    let ids = c.args.ids.now in
    point_is_front (λ id. older id txn) ids _ c.partition_point.ensures.bound
    (IsPartitionPoint-from_clause (λ id. older id txn) _ _ c.partition_point.ensures.partitioned (older_partitioned (λ id. id) ids txn c.requires)
    (λ a r q k. search rules))
