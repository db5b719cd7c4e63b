use Rattle.std.proofs.Common.{List}
use Rattle.node.specs.Grouped.{IsAheadWith}
use Rattle.shard.specs.Gathered.{seen_ahead}
use Rattle.shard.specs.Groups.{Arrival, IsAheadOf}
use Rattle.shard.specs.On.{CoreView}
use Rattle.node.proofs.group.take_due.Given as goal

abbrev pub invariant-loop-due : goal.invariant-loop-due
invariant-loop-due g l =
    (from : CoreView g.row.D.Denot) (arrivals : List Arrival)
    → IsAheadOf g.D.Disk.file g.D.Disk.clock g.D.Disk.since g.D.Disk.failures from (seen_ahead l.fn.ahead) arrivals
    → IsAheadWith g.D.Disk.file g.D.Disk.clock g.D.Disk.since g.D.Disk.failures from (seen_ahead l.ahead) l.now arrivals
