use Rattle.client.proofs.Steps.{reading_on, reads_none, sends_only}
use Rattle.client.proofs.wire.Wire.await_answers.Goals as goal

pub returns-then-is_empty-clause-reads : goal.returns-then-is_empty-clause-reads
returns-then-is_empty-clause-reads g c = reads_none c.args.self.now c.args.tx.now

pub returns-then-is_told-clause-reads : goal.returns-then-is_told-clause-reads
returns-then-is_told-clause-reads g c = reads_none c.args.self.now c.args.tx.now

pub loop-heard-init : goal.loop-heard-init
loop-heard-init g c =
    sends_only c.args.self.now c.send_awaited.new.self c.args.tx.now c.send_awaited.ensures.sent c.send_awaited.ensures.heard

pub returns-in_err-await_one-clause-reads : goal.returns-in_err-await_one-clause-reads
returns-in_err-await_one-clause-reads g c = reading_on _ _ _ _ _ _ c.loop-heard.invariant c.await_one.ensures.reads

pub returns-then-is_empty-2-clause-reads : goal.returns-then-is_empty-2-clause-reads
returns-then-is_empty-2-clause-reads g c = reading_on _ _ _ _ _ _ c.loop-heard.invariant c.await_one.ensures.reads

pub loop-heard-preserved : goal.loop-heard-preserved
loop-heard-preserved g c = reading_on _ _ _ _ _ _ c.loop-heard.invariant c.await_one.ensures.reads
