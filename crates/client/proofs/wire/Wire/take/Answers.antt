use Rattle.client.proofs.Steps.{hears_only, reading_on, reads_none, sends_only}
use Rattle.client.proofs.wire.Wire.take.Goals as goal

pub returns-in_default-clause-reads : goal.returns-in_default-clause-reads
returns-in_default-clause-reads g c = reads_none c.args.self.now c.args.tx.now

pub returns-in-Ok-Doomed-clause-reads : goal.returns-in-Ok-Doomed-clause-reads
returns-in-Ok-Doomed-clause-reads g c =
    hears_only c.args.self.now c.args.tx.now c.answered.new.self _ _ _ _ _ c.answered.result c.answered.ensures.splits c.answered.ensures.step

pub returns-in-Err-clause-reads : goal.returns-in-Err-clause-reads
returns-in-Err-clause-reads g c =
    hears_only c.args.self.now c.args.tx.now c.answered.new.self _ _ _ _ _ c.answered.result c.answered.ensures.splits c.answered.ensures.step

pub returns-clause-reads : goal.returns-clause-reads
returns-clause-reads g c =
    let new = c.answered.new.self in
    let sent = c.send_awaited_of.ensures in
    reading_on _ _ _ _ _ _
    (hears_only c.args.self.now c.args.tx.now new _ _ _ _ _ c.answered.result c.answered.ensures.splits c.answered.ensures.step)
    (sends_only c.args.self.now c.send_awaited_of.new.self new sent.sent sent.heard)
