use Rattle.client.proofs.Steps.{asks_only, reading_on, reads_more, reads_none}
use Rattle.client.proofs.wire.Wire.fetch.Goals as goal

pub loop-key-init : goal.loop-key-init
loop-key-init g c = reads_none c.args.self.now c.args.tx.now

pub returns-in_err-ask-clause-read : goal.returns-in_err-ask-clause-read
returns-in_err-ask-clause-read g c =
    let tx = c.args.tx.now in
    let old = c.loop-key.tx in
    let is = c.loop-key.invariant in
    reads_more tx.splits old.splits tx.client old.client c.ask.new.tx.client is.splits is.read c.ask.ensures.read

pub loop-key-preserved : goal.loop-key-preserved
loop-key-preserved g c =
    let asked = c.ask.ensures in
    reading_on _ _ _ _ _ _ c.loop-key.invariant (asks_only c.args.self.now c.loop-key.tx c.ask.new.tx asked.splits asked.txn asked.read)

pub returns : goal.returns
returns g c =
    let all = reading_on _ _ _ _ _ _ c.loop-key.invariant c.await_answers.ensures.reads in
    record {
      sent = all.sent;
      heard = all.heard;
      splits = all.splits;
      txn = all.txn;
      read = all.read;
      refused = c.await_answers.ensures.refused;
    }
