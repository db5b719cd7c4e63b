-- What a drive may be asked to do.
use Rattle.std.specs.Prelude.{ℕ, ◌≤◌}

-- so many workers, transactions of each, and keys
pub record IsDrivable (workers transactions keys : ℕ) : Type 0 where
  pub workers_least : 1 ≤ workers
  pub workers_most : workers ≤ 64
  pub transactions_least : 1 ≤ transactions
  pub transactions_most : transactions ≤ 100000
  pub keys_least : 1 ≤ keys
  pub keys_most : keys ≤ 10000
