use Rattle.std.proofs.Common.{◌≡◌, ◌||◌, drop, map}
use Rattle.units.specs.Ids.{Id}
use Rattle.world.specs.Among.{is_among}
use Rattle.world.specs.Counts.{is_decided}
use Rattle.world.proofs.counting.note_all.Given as goal

abbrev pub invariant-loop-shard : goal.invariant-loop-shard
invariant-loop-shard l = (t : Id) → (is_among l.ids.keys t || is_decided t l.shard (map (λ log. log.items) (drop l.shard l.logs)))
    ≡ is_decided t 0 (map (λ log. log.items) l.logs)
