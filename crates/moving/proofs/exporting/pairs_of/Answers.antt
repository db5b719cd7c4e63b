use Rattle.std.proofs.Common.{◌∙◌}
use Rattle.moving.proofs.Told.{keyed_on, told_on}
use Rattle.moving.proofs.exporting.pairs_of.Goals as goal

pub loop-key-preserved : goal.loop-key-preserved
loop-key-preserved g c =
    let was = c.loop-key.invariant in
    let key = c.key-item.result in
    let value = c.in-Some.value in
    let grown = c.in_ok-push.ensures.items in (
      keyed_on c.args.keys.now c.loop-key.key-index c.loop-key.pairs.items c.push.new.self.items key value c.loop-key-test.true c.key-item.is grown was.0,
      c.get.ensures.at ∙ was.1,
      c.get.ensures.splits ∙ was.2,
      told_on _ _ _ _ _ _ _ c.loop-key.pairs.items c.push.new.self.items key value _ was.2 was.1 c.in-Some.is grown was.3 c.in_ok-value.ensures.shown,
    )
