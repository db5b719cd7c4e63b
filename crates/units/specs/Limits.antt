-- Limits of the store.
use Rattle.std.specs.Prelude.{ℕ}
use Rattle.units.specs.declared.lock.TheConstants.{MOST_ROWS}

-- the most transactions of a shard at a time
abbrev pub most_rows : ℕ
most_rows = MOST_ROWS
