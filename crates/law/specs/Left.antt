-- Logs that a crash may leave, by what stands behind their records.
use Rattle.std.specs.Prelude.{ℕ, ◌≡◌, IsTrue, List, slice_get, Some}
use Rattle.record.specs.Accepted.{followed}
use Rattle.record.specs.declared.record.Record.{Record}
use Rattle.world.specs.World.{ShardNow}
use Rattle.law.specs.Among.{IsAmong}
use Rattle.law.specs.Evidence.{Scene, RecordEvidence}

-- a log has all records that are surely on a shard's disk, something stands behind each of its records, and each follows
-- those before it
pub record IsLeftLog (sc : Scene) (n : ℕ) (log : List Record) : Type 0 where
  pub shard : ShardNow
  pub there : slice_get sc.world.shards n ≡ Some shard
  pub whole : (r : Record) → IsAmong shard.log r → IsAmong log r
  pub records : (r : Record) → IsAmong log r → RecordEvidence sc log n r
  pub follows : IsTrue (followed n log)

-- one log of each shard
pub record AreLeft (sc : Scene) (logs : List (List Record)) : Type 0 where
  pub each : (n : ℕ) (log : List Record) → slice_get logs n ≡ Some log → IsLeftLog sc n log
  pub all : (n : ℕ) (s : ShardNow) → slice_get sc.world.shards n ≡ Some s → (log : List Record) × (slice_get logs n ≡ Some log)
