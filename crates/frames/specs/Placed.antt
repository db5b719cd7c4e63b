-- A record in a log.
use Rattle.std.specs.Prelude.{ℕ}
use Rattle.spelling.specs.record.Record.{Record}

-- a record, and the offset of its gate in the file
pub record Placed : Type 0 where
  pub offset : ℕ
  pub item : Record
