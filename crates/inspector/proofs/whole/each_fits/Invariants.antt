use Rattle.std.specs.List.{list_all}
use Rattle.std.proofs.Common.{◌≡◌, ◌-◌}
use Rattle.units.specs.Lists.{numbered}
use Rattle.record.specs.Whole.{fits_decision}
use Rattle.inspector.specs.Entries.{logs_from}
use Rattle.inspector.proofs.whole.each_fits.Given as goal

abbrev pub invariant-loop-number : goal.invariant-loop-number
invariant-loop-number l = list_all (fits_decision l.txn (record { shard = l.shard; commit = l.commit }))
    (numbered l.number (logs_from (l.count - l.number) l.number l.entries)) ≡ list_all (fits_decision l.txn (record { shard = l.shard; commit = l.commit }))
    (numbered 0 (logs_from l.count 0 l.entries))
