-- What contracts see of the facts in memory.
use Rattle.std.specs.Prelude.{ℕ, ◌/◌, min}
use Rattle.record.specs.Facts.{Facts}
use Rattle.facts.specs.declared.stage.Stage.{Stage}

-- the shard's number, the facts of its log, where in the log one is, and for how many more records there is room
pub record Known : Type 0 where
  pub shard : ℕ
  pub facts : Facts
  pub stage : Stage
  pub room : ℕ

-- for how many records there is room: each adds an entry and 128 versions at most
abbrev pub room_for : ℕ → ℕ → ℕ
room_for entries installs = min entries (installs / 128)
