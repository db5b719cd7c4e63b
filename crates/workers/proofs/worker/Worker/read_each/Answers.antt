use Rattle.std.proofs.Common.{rules, ◌∙◌, arith}
use Rattle.std.proofs.lemmas.Grind.{common_steps}
use Rattle.workers.proofs.Reading.{writes_stay}
use Rattle.workers.proofs.worker.Worker.read_each.Goals as goal

pub loop-key-init : goal.loop-key-init
loop-key-init g c = record {
  writes = writes_stay c.args.tx.now.splits c.args.tx.now.client c.fetch.new.tx.client c.fetch.ensures.read;
  txn = search rules;
  keys = search rules;
}

pub loop-key-preserved : goal.loop-key-preserved
loop-key-preserved g c = record {
  writes = writes_stay c.loop-key.tx.splits c.loop-key.tx.client c.get.new.tx.client c.get.ensures.read ∙ c.loop-key.invariant.writes;
  txn = search rules;
  keys = grind (arith, common_steps);
}
