-- What contracts see of the ids that were ended.
use Rattle.std.specs.Prelude.{ℕ, List}
use Rattle.units.specs.Ids.{Id}

-- the ids, ascending, and for how many more there is room
pub record EndedIds : Type 0 where
  pub ids : List Id
  pub room : ℕ
