use Rattle.std.proofs.Common.{◌≡◌, ◌-◌, flat_map}
use Rattle.units.specs.Lists.{numbered}
use Rattle.inspector.specs.declared.whole.Tally.TheVariants.{Never}
use Rattle.inspector.specs.Entries.{logs_from}
use Rattle.inspector.specs.Tallies.{after, decisions_here, fits_all}
use Rattle.inspector.proofs.whole.tally_of.Given as goal

abbrev pub invariant-loop-number : goal.invariant-loop-number
invariant-loop-number l = after (fits_all (logs_from l.count 0 l.entries) l.txn) l.tally
    (flat_map (λ q. decisions_here l.txn q.0 q.1) (numbered l.number (logs_from (l.count - l.number) l.number l.entries))) ≡ after
    (fits_all (logs_from l.count 0 l.entries) l.txn) Never (flat_map (λ q. decisions_here l.txn q.0 q.1) (numbered 0 (logs_from l.count 0 l.entries)))
