use Rattle.std.proofs.Common.{◌≡◌, drop, map, nat_eq, false}
use Rattle.units.specs.Lists.{has}
use Rattle.inspector.specs.Entries.{log_numbered}
use Rattle.inspector.specs.Tallies.{all_fit, stand_of}
use Rattle.inspector.proofs.whole.log_fits.Given as goal

abbrev pub invariant-loop-entry : goal.invariant-loop-entry
invariant-loop-entry l =
    all_fit (nat_eq l.number l.shard) (has l.commit.parts l.number) l.found
    (map (stand_of l.txn (record { shard = l.shard; commit = l.commit })) (log_numbered l.number (drop l.entry-index l.entries)))
    ≡ all_fit (nat_eq l.number l.shard) (has l.commit.parts l.number) false
    (map (stand_of l.txn (record { shard = l.shard; commit = l.commit })) (log_numbered l.number l.entries))
