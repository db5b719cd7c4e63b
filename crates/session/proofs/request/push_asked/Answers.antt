use Rattle.std.proofs.Common.{ap, ◌∙◌, [], ◌∷◌, ◌++◌}
use Rattle.units.specs.Keys.{shard_of}
use Rattle.session.proofs.Loops.{added}
use Rattle.session.proofs.request.push_asked.Goals as goal

pub loop-key-preserved : goal.loop-key-preserved
loop-key-preserved c =
    added (shard_of c.args.splits.now) c.args.keys.now c.loop-key.key-index c.key-item.result c.loop-key.shards.items
    c.push.new.self.items c.loop-key-test.true c.key-item.is
    (c.in_ok-push.ensures.items ∙ ap (λ n. c.loop-key.shards.items ++ n ∷ []) c.shard_of.ensures)
    ∙ c.loop-key.invariant
