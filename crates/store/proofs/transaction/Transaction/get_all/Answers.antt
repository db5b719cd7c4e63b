use Rattle.store.proofs.Attempts.{read_on}
use Rattle.store.proofs.transaction.Transaction.get_all.Goals as goal

pub invariant_of-self : goal.invariant_of-self
invariant_of-self g c =
    read_on (record { session = c.self.inside.tx; traffic = c.self.inside.wire }) (record { session = c.get_all.new.tx; traffic = c.get_all.new.self })
    c.self.invariant c.get_all.ensures.splits c.get_all.ensures.txn c.get_all.ensures.read c.get_all.ensures.sent
