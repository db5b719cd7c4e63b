-- What contracts see of the places of versions.
use Rattle.std.specs.Prelude.{ℕ, List}
use Rattle.units.specs.Keys.{Bytes}

-- the places in order, beside each the head of its key behind the prefix, and for how many more there is room
pub record Headed : Type 0 where
  pub places : List ℕ
  pub heads : List ℕ
  pub prefix : Bytes
  pub room : ℕ
