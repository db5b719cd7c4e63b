-- Whose log some records are.
use Rattle.std.specs.Prelude.{ℕ, ◌≤◌, IsTrue, List}
use Rattle.record.specs.Accepted.{followed}
use Rattle.record.specs.declared.record.Record.{Record}
use Rattle.showing.specs.Stats.{shard_told}

-- where a shard takes records one after another, the shard that they tell does
abbrev pub TellsItsShard : Type 0
TellsItsShard = (shard : ℕ) (log : List Record) → shard ≤ 15 → IsTrue (followed shard log) → IsTrue (followed (shard_told log) log)
