use Rattle.std.proofs.Common.{rules}
use Rattle.std.proofs.lemmas.List.Sorted.{IsPartitionPoint-from_clause}
use Rattle.units.specs.Ids.{older}
use Rattle.rows.specs.declared.row.Row.{Row}
use Rattle.rows.specs.CodeRows.{txn_of}
use Rattle.units.proofs.ByIdHalves.{older_first}
use Rattle.rows.proofs.list.first_from.Goals as goal

pub returns-clause-parted : goal.returns-clause-parted
returns-clause-parted c =
    IsPartitionPoint-from_clause (λ (r : Row). older (txn_of r) c.args.txn) c.args.rows.now c.partition_point.result
    c.partition_point.ensures.partitioned
    (older_first txn_of c.args.rows.now c.args.txn c.requires) (λ a r f k. search rules)
