use Rattle.std.proofs.Common.{◌≡◌, drop}
use Rattle.units.specs.Locks.{exclusive}
use Rattle.protocol.specs.Plan.{opens}
use Rattle.memory.specs.Kept.{start_of}
use Rattle.memory.proofs.state.State.opens_writes.Given as goal

abbrev pub invariant-loop-write : goal.invariant-loop-write
invariant-loop-write l = opens (start_of l.self) l.txn (exclusive l.write-items) ≡ opens (start_of l.self) l.txn (exclusive (drop l.write-index l.write-items))
