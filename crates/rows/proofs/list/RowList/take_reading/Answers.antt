use Rattle.rows.specs.CodeRows.{is_reading}
use Rattle.rows.proofs.Ties.{passes_there}
use Rattle.rows.proofs.list.RowList.take_reading.Goals as goal

pub take-requires : goal.take-requires
take-requires c = passes_there is_reading c.args.self.now c.args.txn c.requires
