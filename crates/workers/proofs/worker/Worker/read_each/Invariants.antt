use Rattle.std.proofs.Common.{◌≡◌, take}
use Rattle.workers.specs.Turns.{asked_keys}
use Rattle.workers.proofs.worker.Worker.read_each.Given as goal

abbrev pub invariant-loop-key : goal.invariant-loop-key
invariant-loop-key g l = record {
  writes : l.tx.client.writes ≡ l.fn.tx.client.writes;
  txn : l.reads.txn ≡ l.fn.reads.txn;
  keys : asked_keys l.reads.asked.items ≡ take l.key-index l.keys;
}
