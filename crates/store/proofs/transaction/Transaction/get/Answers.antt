use Rattle.store.proofs.Attempts.{read_on}
use Rattle.store.proofs.transaction.Transaction.get.Goals as goal

pub invariant_of-self : goal.invariant_of-self
invariant_of-self g c =
    read_on (record { session = c.self.inside.tx; traffic = c.self.inside.wire }) (record { session = c.get.new.tx; traffic = c.get.new.self })
    c.self.invariant c.get.ensures.splits c.get.ensures.txn c.get.ensures.read c.get.ensures.sent
