use Rattle.std.proofs.Common.{replicate}
use Rattle.world.specs.World.{fresh_shard}
use Rattle.lives.specs.Fleet.{AreStanding}
use Rattle.lives.proofs.fleet.fill.Given as goal

abbrev pub invariant-loop-number : goal.invariant-loop-number
invariant-loop-number l = AreStanding l.config 0 l.shards.items (replicate l.number fresh_shard)
