-- An interval of a clock.
use Rattle.std.specs.Prelude.{ℕ}

-- the true time is at least the one end and at most the other
pub record Interval : Type 0 where
  pub earliest : ℕ
  pub latest : ℕ
