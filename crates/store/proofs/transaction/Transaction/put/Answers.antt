use Rattle.std.proofs.Common.{Some, refl}
use Rattle.store.proofs.Attempts.{wrote_on}
use Rattle.store.proofs.transaction.Transaction.put.Goals as goal

pub invariant_of-self-2 : goal.invariant_of-self-2
invariant_of-self-2 g c =
    wrote_on (record { session = c.self.inside.tx; traffic = c.self.inside.wire }) (record { session = c.buffer.new.self; traffic = c.self.inside.wire })
    (record { key = c.args.key.now; value = Some c.args.value }) c.self.invariant c.in_ok-buffer.ensures.splits c.in_ok-buffer.ensures.step refl
