use Rattle.std.proofs.Common.{◌≡◌, drop}
use Rattle.units.specs.Locks.{exclusive}
use Rattle.locks.specs.Ways.{ids_in_way, is_kept_out}
use Rattle.locks.proofs.requests.is_undisputed.Given as goal

abbrev pub invariant-loop-write : goal.invariant-loop-write
invariant-loop-write l = record {
  nobody : ids_in_way l.txn (exclusive (drop l.write-index l.write-items)) l.claims ≡ ids_in_way l.txn (exclusive l.write-items) l.claims;
  lets : is_kept_out l.txn (exclusive (drop l.write-index l.write-items)) l.claims ≡ is_kept_out l.txn (exclusive l.write-items) l.claims;
}
