use Rattle.std.proofs.Common.{rules, not}
use Rattle.std.proofs.lemmas.List.Sorted.{IsPartitionPoint-from_clause}
use Rattle.units.specs.Ids.{older}
use Rattle.rows.specs.declared.row.Row.{Row}
use Rattle.rows.specs.CodeRows.{txn_of}
use Rattle.units.proofs.ByIdHalves.{no_younger_first, place_for_by_halves}
use Rattle.rows.proofs.list.place_for.Goals as goal

pub returns-clause-place : goal.returns-clause-place
returns-clause-place c =
    place_for_by_halves txn_of c.args.rows.now c.args.txn c.partition_point.result c.partition_point.ensures.bound
    (IsPartitionPoint-from_clause (λ (r : Row). not (older c.args.txn (txn_of r))) c.args.rows.now c.partition_point.result
    c.partition_point.ensures.partitioned
    (no_younger_first txn_of c.args.rows.now c.args.txn c.requires) (λ a r f k. search rules))
