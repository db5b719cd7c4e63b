use Rattle.std.proofs.Common.{◌∙◌, ◌++◌, [], ◌∷◌, ap, sym}
use Rattle.locks.proofs.Passes.{next}
use Rattle.locks.proofs.buffer.copy.Goals as goal

pub loop-lock-preserved : goal.loop-lock-preserved
loop-lock-preserved c = record {
  items = c.push_reserved.ensures.items ∙ ap (λ l. l ++ c.lock-item.result ∷ []) c.loop-lock.invariant.items
      ∙ sym (next c.args.locks.now c.loop-lock.lock-index c.lock-item.result c.loop-lock-test.true c.lock-item.is);
  capacity = c.push_reserved.ensures.capacity ∙ c.loop-lock.invariant.capacity;
}
