use Rattle.std.proofs.Common.{◌≡◌, drop}
use Rattle.rows.specs.RowTable.{MayEnd, without_tokens}
use Rattle.protocol.specs.Rows.{without_rows}
use Rattle.rows.proofs.rows.Rows.end_each.Given as goal

abbrev pub invariant-loop-txn : goal.invariant-loop-txn
invariant-loop-txn l = record {
  may : MayEnd l.self.rows (drop l.txn-index l.txns);
  rows : without_rows l.self.rows (drop l.txn-index l.txns) ≡ without_rows l.initial.self.rows l.txns;
  tokens : without_tokens l.self.tokens (drop l.txn-index l.txns) ≡ without_tokens l.initial.self.tokens l.txns;
}
