use Rattle.std.proofs.Common.{◌≡◌, ◌++◌, drop}
use Rattle.protocol.specs.Plan.{votes_of}
use Rattle.memory.proofs.state.State.votes_of.Given as goal

abbrev pub invariant-loop-txn : goal.invariant-loop-txn
invariant-loop-txn l =
    l.out.items ++ votes_of l.self.setup.shard l.self.memory.rows (drop l.txn-index l.txn-items)
    ≡ votes_of l.self.setup.shard l.self.memory.rows l.txn-items
