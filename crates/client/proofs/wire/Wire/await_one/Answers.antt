use Rattle.client.specs.Ends.{end_heard}
use Rattle.client.proofs.Steps.{heard_on, reads_none, sends_only}
use Rattle.client.proofs.wire.Wire.await_one.Goals as goal

pub returns-in-Heard-clause-reads : goal.returns-in-Heard-clause-reads
returns-in-Heard-clause-reads g c =
    heard_on _ _ _ _ _ (end_heard c.hear.result) c.hear.ensures.sent c.hear.ensures.heard c.take-taken.ensures.reads

pub returns-in-Silence-clause-reads : goal.returns-in-Silence-clause-reads
returns-in-Silence-clause-reads g c =
    heard_on _ _ _ _ _ (end_heard c.hear.result) c.hear.ensures.sent c.hear.ensures.heard
    (sends_only c.hear.new.self c.send_awaited.new.self c.args.tx.now c.send_awaited.ensures.sent c.send_awaited.ensures.heard)

pub returns-in-Refused-clause-reads : goal.returns-in-Refused-clause-reads
returns-in-Refused-clause-reads g c =
    heard_on _ _ _ _ _ (end_heard c.hear.result) c.hear.ensures.sent c.hear.ensures.heard (reads_none c.hear.new.self c.args.tx.now)

pub returns-in-Enough-clause-reads : goal.returns-in-Enough-clause-reads
returns-in-Enough-clause-reads g c =
    heard_on _ _ _ _ _ (end_heard c.hear.result) c.hear.ensures.sent c.hear.ensures.heard (reads_none c.hear.new.self c.args.tx.now)

pub returns-in-End-clause-reads : goal.returns-in-End-clause-reads
returns-in-End-clause-reads g c =
    heard_on _ _ _ _ _ (end_heard c.hear.result) c.hear.ensures.sent c.hear.ensures.heard (reads_none c.hear.new.self c.args.tx.now)
