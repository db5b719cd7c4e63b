-- The lines that are printed, one behind the other, are the reply.
use Rattle.std.proofs.Common.{◌∙◌, Bool, sym, subst}
use Rattle.std.proofs.KnownBytes.{Appends-trans}
use Rattle.shard.specs.Core.{seen}
use Rattle.once.specs.Shards.{HasLog, log_after}
use Rattle.once.proofs.ReplyLemmas.{reply_done, reply_early}
use Rattle.once.proofs.once_command.commit_and_settle.Goals as goal

pub returns-in_ok-print-2-clause-printed : goal.returns-in_ok-print-2-clause-printed
returns-in_ok-print-2-clause-printed g c = (
  _,
  reply_done c.args.first.now c.args.second.now c.in_ok-stamp.stamp _ _ c.in_ok-stamp.ensures.0
      (sym (c.in_ok-settle.ensures _ _ _ c.in_ok-stamp.ensures.1).0 ∙ c.if-branch.true)
      (c.deref.ensures ∙ c.in_ok-committed.ensures.line) (c.deref-then-branch.ensures ∙ c.in_ok-done.ensures.line),
  Appends-trans _ _ _ _ _ c.in_ok-print.ensures.printed c.in_ok-print-2.ensures.printed,
)

pub returns-in_ok-print-3-clause-printed : goal.returns-in_ok-print-3-clause-printed
returns-in_ok-print-3-clause-printed g c = (
  _,
  reply_early c.args.first.now c.args.second.now c.in_ok-stamp.stamp _ c.in_ok-stamp.ensures.0
      (sym (c.in_ok-settle.ensures _ _ _ c.in_ok-stamp.ensures.1).0 ∙ c.if-branch.false)
      (c.deref.ensures ∙ c.in_ok-committed.ensures.line),
  Appends-trans _ _ _ _ _ c.in_ok-print.ensures.printed c.in_ok-print-3.ensures.printed,
)

pub returns-in_ok-print-2-clause-log : goal.returns-in_ok-print-2-clause-log
returns-in_ok-print-2-clause-log g c = (
  c.in_ok-stamp.stamp,
  c.in_ok-stamp.ensures.0,
  subst (λ (done : Bool). HasLog (log_after done c.args.key c.args.value c.in_ok-stamp.stamp) (seen c.settle.new.core)) c.if-branch.true
      (c.in_ok-settle.ensures _ _ _ c.in_ok-stamp.ensures.1).1,
)

pub returns-in_ok-print-3-clause-log : goal.returns-in_ok-print-3-clause-log
returns-in_ok-print-3-clause-log g c = (
  c.in_ok-stamp.stamp,
  c.in_ok-stamp.ensures.0,
  subst (λ (done : Bool). HasLog (log_after done c.args.key c.args.value c.in_ok-stamp.stamp) (seen c.settle.new.core)) c.if-branch.false
      (c.in_ok-settle.ensures _ _ _ c.in_ok-stamp.ensures.1).1,
)
