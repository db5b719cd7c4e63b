use Rattle.std.proofs.Common.{◌≡◌, ◌∙◌, ◌++◌, [], ◌∷◌, drop, filter, not, ap, sym}
use Rattle.units.specs.declared.lock.Lock.{Lock}
use Rattle.locks.specs.Tally.{seems_alone}
use Rattle.locks.proofs.Passes.{kept, left}
use Rattle.locks.proofs.requests.contended.Goals as goal
use Rattle.locks.proofs.requests.contended.Goals.{then-not-seems_alone+in_ok-push, else-not-seems_alone}

pub loop-need-preserved : goal.loop-need-preserved
loop-need-preserved c =
    let p = λ (n : Lock). not (seems_alone c.args.tally.now c.args.claims.now c.args.txn n) in
    let x = c.need-item.result in
    elim c.if-not-seems_alone.branch [
      | then-not-seems_alone+in_ok-push w ↦
          let more : c.if-not-seems_alone.locks.items ≡ c.loop-need.locks.items ++ x ∷ [] = cc (w.in_ok-push.ensures.items) in
          kept p c.args.needs.now c.loop-need.need-index x c.loop-need.locks.items c.if-not-seems_alone.locks.items _ c.loop-need-test.true c.need-item.is
          (ap not (sym c.seems_alone.ensures ∙ w.if-not-seems_alone.true)) c.loop-need.invariant more
      | else-not-seems_alone w ↦
          let same : c.if-not-seems_alone.locks.items ≡ c.loop-need.locks.items = cc in
          left p c.args.needs.now c.loop-need.need-index x c.if-not-seems_alone.locks.items _ c.loop-need-test.true c.need-item.is
          (ap not (sym c.seems_alone.ensures ∙ w.if-not-seems_alone.false))
          (ap (λ l. l ++ filter p (drop c.loop-need.need-index c.args.needs.now)) same ∙ c.loop-need.invariant)
    ]
