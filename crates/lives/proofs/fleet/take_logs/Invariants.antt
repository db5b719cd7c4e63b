use Rattle.std.proofs.Common.{map, vec_len}
use Rattle.lives.specs.Fleet.{AreOn}
use Rattle.lives.proofs.Fleets.{AreTaken}
use Rattle.lives.proofs.fleet.take_logs.Given as goal

abbrev pub invariant-loop-alloc : goal.invariant-loop-alloc
invariant-loop-alloc l =
    AreTaken l.initial.shards.items (map (λ log. log.items) l.logs.items) l.shards.items × AreOn l.disks.items (map (λ log. log.items) l.logs.items)

abbrev pub decreases-loop-alloc : goal.decreases-loop-alloc
decreases-loop-alloc l = vec_len l.shards
