use Rattle.std.proofs.Common.{sym, ◌∙◌}
use Rattle.session.proofs.Steps.{buffers_many, buffers_doomed}
use Rattle.session.proofs.tx.Tx+Open.may_buffer.Goals as goal

pub returns-then-is_full_for : goal.returns-then-is_full_for
returns-then-is_full_for c value = buffers_many _ _ (sym c.is_full_for.ensures ∙ c.if-is_full_for.true)

pub returns-then-is_doomed : goal.returns-then-is_doomed
returns-then-is_doomed c value =
    buffers_doomed _ _ (sym c.is_full_for.ensures ∙ c.if-is_full_for.false) (sym c.is_doomed.ensures ∙ c.if-is_doomed.true)
