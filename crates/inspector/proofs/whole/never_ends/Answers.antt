use Rattle.std.proofs.Common.{◌≡◌, ◌∙◌, Bool, true, false, not, refl, sym}
use Rattle.record.specs.Whole.{outcomes_fit}
use Rattle.inspector.proofs.Numbers.{all_step}
use Rattle.inspector.proofs.whole.never_ends.Goals as goal

not_false : (b : Bool) → not b ≡ false → b ≡ true
not_false true e = refl
not_false false e = cc

pub loop-number-preserved : goal.loop-number-preserved
loop-number-preserved c =
    all_step (λ l. outcomes_fit l c.args.txn (λ s. false)) c.args.count c.loop-number.number c.args.entries.now c.loop-number-test.true
    (not_false _ (sym c.ends.ensures ∙ c.if-ends.false))
    ∙ c.loop-number.invariant
