-- What contracts see of the versions.
use Rattle.std.specs.Prelude.{ℕ, List}
use Rattle.units.specs.declared.writes.Install.{Install}

-- the versions, ascending by key and then by timestamp, and for how many more there is room
pub record Store : Type 0 where
  pub installs : List Install
  pub room : ℕ
