use Rattle.std.proofs.Common.{ap, ◌∙◌, [], ◌∷◌, ◌++◌}
use Rattle.units.specs.Keys.{shard_of}
use Rattle.units.specs.declared.writes.Write.{Write}
use Rattle.session.proofs.Loops.{added}
use Rattle.session.proofs.request.push_written.Goals as goal

pub loop-write-preserved : goal.loop-write-preserved
loop-write-preserved c =
    added (λ (w : Write). shard_of c.args.splits.now w.key) c.args.writes.now c.loop-write.write-index c.write-item.result c.loop-write.shards.items
    c.push.new.self.items c.loop-write-test.true c.write-item.is
    (c.in_ok-push.ensures.items ∙ ap (λ n. c.loop-write.shards.items ++ n ∷ []) c.shard_of.ensures)
    ∙ c.loop-write.invariant
