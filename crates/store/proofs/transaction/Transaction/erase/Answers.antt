use Rattle.std.proofs.Common.{None, refl}
use Rattle.store.proofs.Attempts.{wrote_on}
use Rattle.store.proofs.transaction.Transaction.erase.Goals as goal

pub invariant_of-self-2 : goal.invariant_of-self-2
invariant_of-self-2 g c =
    wrote_on (record { session = c.self.inside.tx; traffic = c.self.inside.wire }) (record { session = c.buffer.new.self; traffic = c.self.inside.wire })
    (record { key = c.args.key.now; value = None }) c.self.invariant c.in_ok-buffer.ensures.splits c.in_ok-buffer.ensures.step refl
