use Rattle.client.proofs.Steps.{asked_txn, asks}
use Rattle.client.proofs.reading.ask.Goals as goal

pub returns-clause-txn : goal.returns-clause-txn
returns-clause-txn c =
    asked_txn c.args.tx.now.splits c.args.key.now c.args.tx.now.client c.read.new.self.client _ c.in_ok-envelope.ensures.step

pub returns-clause-read : goal.returns-clause-read
returns-clause-read c =
    asks c.args.tx.now.splits c.args.key.now c.args.tx.now.client c.read.new.self.client _ c.in_ok-envelope.ensures.step
