-- How a session is told that its transaction ended.
use Rattle.std.specs.Prelude.{ℕ, Option}
use Rattle.units.specs.Ids.{Id}

-- the transaction, and at which timestamp it committed, or None for aborted
pub record End : Type 0 where
  pub txn : Id
  pub outcome : Option ℕ
