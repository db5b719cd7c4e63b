use Rattle.showing.proofs.Telling.{told_behind, told_more}
use Rattle.showing.proofs.told.tell_standing.Goals as goal

pub loop-write-preserved : goal.loop-write-preserved
loop-write-preserved c =
    told_behind _ _ _ _ _ _ c.in_ok-tell_write.ensures.told c.loop-write.invariant
    (told_more c.args.key.now c.args.txn c.args.standing.now c.as_slice-write-items.result.now c.loop-write.write-index
    c.write-item.result c.loop-write-test.true c.write-item.is)
