-- A commit that was settled.
use Rattle.std.specs.Prelude.{ℕ, List}

-- its timestamp and its parts
pub record SettledCommit : Type 0 where
  pub at : ℕ
  pub parts : List ℕ
