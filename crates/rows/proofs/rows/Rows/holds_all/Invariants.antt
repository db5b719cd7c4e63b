use Rattle.std.specs.List.{list_all}
use Rattle.std.proofs.Common.{◌≡◌, drop}
use Rattle.units.specs.Locks.{holds}
use Rattle.protocol.specs.Rows.{held_in}
use Rattle.rows.proofs.rows.Rows.holds_all.Given as goal

abbrev pub invariant-loop-key : goal.invariant-loop-key
invariant-loop-key l = list_all (holds (held_in l.self.rows l.txn)) (drop l.key-index l.key-items) ≡ list_all (holds (held_in l.self.rows l.txn)) l.keys
