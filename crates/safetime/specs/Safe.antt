-- The timestamps up to which a shard may be read.
use Rattle.std.specs.Prelude.{ℕ, ◌-◌, List, [], ◌∷◌, map, cond, nat_eq}
use Rattle.units.specs.Lists.{least_with}

-- the greatest timestamp assigned, applied or served, and the timestamps of the transactions that are not settled
pub record Times : Type 0 where
  pub last : ℕ
  pub holds : List ℕ

-- reads are served up to the last timestamp, and below each one that is held
abbrev pub safe_of : Times → ℕ
safe_of times = least_with times.last (map (λ at. at - 1) times.holds)

-- the holds with one of this timestamp less
abbrev pub lifted : ℕ → List ℕ → List ℕ
lifted at [] = []
lifted at (hold ∷ holds) = cond (nat_eq hold at) holds (hold ∷ lifted at holds)
