-- What was read at one shard.
use Rattle.std.specs.Prelude.{ℕ, List}
use Rattle.units.specs.Keys.{Bytes}

-- the keys, and the epoch of the shard in which they were read
pub record ReadSet : Type 0 where
  pub epoch : ℕ
  pub keys : List Bytes
