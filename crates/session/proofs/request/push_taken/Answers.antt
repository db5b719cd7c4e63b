use Rattle.std.proofs.Common.{◌∙◌}
use Rattle.session.specs.declared.answered.Answered.{Answered}
use Rattle.session.proofs.Loops.{added}
use Rattle.session.proofs.request.push_taken.Goals as goal

pub loop-answered-preserved : goal.loop-answered-preserved
loop-answered-preserved c =
    added (λ (a : Answered). a.shard) c.args.taken.now c.loop-answered.answered-index c.answered-item.result c.loop-answered.shards.items c.push.new.self.items
    c.loop-answered-test.true c.answered-item.is c.in_ok-push.ensures.items
    ∙ c.loop-answered.invariant
