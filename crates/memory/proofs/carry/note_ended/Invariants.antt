use Rattle.std.proofs.Common.{◌≡◌, ◌<◌, ◌+◌, length, drop}
use Rattle.protocol.specs.Plan.{with_ids}
use Rattle.memory.proofs.carry.note_ended.Given as goal

abbrev pub invariant-loop-txn : goal.invariant-loop-txn
invariant-loop-txn l = record {
  ids : with_ids l.ended.ids (drop l.txn-index l.txns) ≡ with_ids l.initial.ended.ids l.txns;
  room : length l.txns < l.ended.room + l.txn-index;
}
