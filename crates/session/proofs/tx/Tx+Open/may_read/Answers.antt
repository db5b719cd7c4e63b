use Rattle.std.proofs.Common.{sym, ◌∙◌}
use Rattle.session.proofs.Steps.{reads_many, reads_again, reads_awaited, reads_doomed, at_least, below}
use Rattle.session.proofs.tx.Tx+Open.may_read.Goals as goal

pub returns-then-asked-ge128 : goal.returns-then-asked-ge128
returns-then-asked-ge128 c = reads_many _ _ _ (at_least _ _ c.asked.ensures c.if-asked-ge128.true)

pub returns-then-was_answered : goal.returns-then-was_answered
returns-then-was_answered c =
    reads_again _ _ _ (below _ _ c.asked.ensures c.if-asked-ge128.false) (sym c.was_answered.ensures ∙ c.if-was_answered.true)

pub returns-then-awaits : goal.returns-then-awaits
returns-then-awaits c =
    reads_awaited _ _ _ (below _ _ c.asked.ensures c.if-asked-ge128.false) (sym c.was_answered.ensures ∙ c.if-was_answered.false)
    (sym c.awaits.ensures ∙ c.if-awaits.true)

pub returns-then-is_doomed : goal.returns-then-is_doomed
returns-then-is_doomed c =
    reads_doomed _ _ _ (below _ _ c.asked.ensures c.if-asked-ge128.false) (sym c.was_answered.ensures ∙ c.if-was_answered.false)
    (sym c.awaits.ensures ∙ c.if-awaits.false) (sym c.is_doomed.ensures ∙ c.if-is_doomed.true)
