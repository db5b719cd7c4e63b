use Rattle.moving.proofs.Putting.{put_on}
use Rattle.moving.proofs.importing.put_each.Goals as goal

pub loop-pair-preserved : goal.loop-pair-preserved
loop-pair-preserved g c =
    put_on c.args.pairs.now c.loop-pair.pair-index c.pair-item.result c.in_ok-value.value _ _ _ c.loop-pair-test.true c.pair-item.is
    c.in_ok-value.ensures.same c.loop-pair.invariant c.in_ok-put.ensures.step
