use Rattle.std.proofs.Common.{◌∙◌}
use Rattle.session.specs.Shown.{give_up_to}
use Rattle.session.proofs.Loops.{added}
use Rattle.session.proofs.closing.give_ups.Goals as goal

pub loop-shard-preserved : goal.loop-shard-preserved
loop-shard-preserved c =
    added (give_up_to c.args.txn) c.args.shards.now c.loop-shard.shard-index c.shard-item.result c.loop-shard.envelopes.items c.push.new.self.items
    c.loop-shard-test.true c.shard-item.is c.in_ok-push.ensures.items
    ∙ c.loop-shard.invariant
