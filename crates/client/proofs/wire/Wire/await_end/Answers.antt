use Rattle.std.proofs.Common.{true, false, [], ◌∷◌, ◌++◌, not, ◌&&◌, ap, refl, ◌∙◌}
use Rattle.client.proofs.Closings.{asks_on, awaits_on, compared}
use Rattle.client.proofs.Steps.{longer}
use Rattle.client.proofs.wire.Wire.await_end.Goals as goal

pub returns-then-eq-clause-sent : goal.returns-then-eq-clause-sent
returns-then-eq-clause-sent g c =
    let is = c.loop-heard.invariant in
    (is.sent.0, c.hear.ensures.sent ∙ is.sent.1)

pub returns-then-eq-clause-heard : goal.returns-then-eq-clause-heard
returns-then-eq-clause-heard g c =
    let is = c.loop-heard.invariant in
    let old = c.args.self.now in
    let done = c.in-End.done in (
      is.heard.0 ++ done ∷ [],
      longer old.heard c.loop-heard.self.heard c.hear.new.self.heard is.heard.0 (done ∷ []) is.heard.1 c.in-End.ensures.heard,
      (
        is.heard.0,
        refl,
        compared c.args.tx.now.client.txn done.txn _ _ c.eq.result true c.txn.ensures c.txn-in-End.ensures c.eq.ensures c.if-eq.true,
      ),
    )

pub loop-heard-preserved-else-eq : goal.loop-heard-preserved-else-eq
loop-heard-preserved-else-eq g c =
    let done = c.in-End.done in
    let other = compared c.args.tx.now.client.txn done.txn _ _ c.eq.result false c.txn.ensures c.txn-in-End.ensures c.eq.ensures c.if-eq.false in
    awaits_on _ _ _ _ _ (done ∷ []) c.loop-heard.invariant c.hear.ensures.sent c.in-End.ensures.heard (ap (λ b. not b && true) other)

pub loop-heard-preserved-in-Silence : goal.loop-heard-preserved-in-Silence
loop-heard-preserved-in-Silence g c =
    asks_on _ _ _ _ _ (awaits_on _ _ _ _ _ [] c.loop-heard.invariant c.hear.ensures.sent c.in-Silence.ensures.heard refl) c.ask_again.ensures.sent
    c.ask_again.ensures.heard

pub loop-heard-preserved-else-is_in_vain : goal.loop-heard-preserved-else-is_in_vain
loop-heard-preserved-else-is_in_vain g c =
    awaits_on _ _ _ _ _ [] c.loop-heard.invariant c.hear.ensures.sent c.in-Refused.ensures.heard refl

pub loop-heard-preserved : goal.loop-heard-preserved
loop-heard-preserved g c = awaits_on _ _ _ _ _ [] c.loop-heard.invariant c.hear.ensures.sent c.in-Heard.ensures.heard refl

pub returns-then-is_in_vain-clause-sent : goal.returns-then-is_in_vain-clause-sent
returns-then-is_in_vain-clause-sent g c = (awaits_on _ _ _ _ _ [] c.loop-heard.invariant c.hear.ensures.sent c.in-Refused.ensures.heard refl).sent

pub returns-then-is_in_vain-clause-heard : goal.returns-then-is_in_vain-clause-heard
returns-then-is_in_vain-clause-heard g c = (awaits_on _ _ _ _ _ [] c.loop-heard.invariant c.hear.ensures.sent c.in-Refused.ensures.heard refl).heard

pub returns-in-Enough-clause-sent : goal.returns-in-Enough-clause-sent
returns-in-Enough-clause-sent g c = (awaits_on _ _ _ _ _ [] c.loop-heard.invariant c.hear.ensures.sent c.in-Enough.ensures.heard refl).sent

pub returns-in-Enough-clause-heard : goal.returns-in-Enough-clause-heard
returns-in-Enough-clause-heard g c = (awaits_on _ _ _ _ _ [] c.loop-heard.invariant c.hear.ensures.sent c.in-Enough.ensures.heard refl).heard
