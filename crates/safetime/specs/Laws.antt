-- The order of holds does not matter.
use Rattle.std.specs.Prelude.{◌≡◌, ℕ, ◌<◌, List, [], ◌∷◌, ◌++◌, nat_eq}
use Rattle.units.specs.Lists.{count}
use Rattle.safetime.specs.Safe.{safe_of, lifted}

-- each timestamp is held as often in the one list as in the other
pub record SameHolds (a b : List ℕ) : Type 0 where
  pub each : (at : ℕ) → count (nat_eq at) a ≡ count (nat_eq at) b

-- the safe time is that of the same holds in another order
abbrev pub OrderDoesNotMatter : Type 0
OrderDoesNotMatter = (last : ℕ) (a b : List ℕ) → SameHolds a b → safe_of (record { last = last; holds = a }) ≡ safe_of (record { last = last; holds = b })

-- a hold at the end of the list is one more of its timestamp
abbrev pub HoldAddsOne : Type 0
HoldAddsOne = (at : ℕ) (holds : List ℕ) → SameHolds (holds ++ at ∷ []) (at ∷ holds)

-- where a timestamp is held, its lift is one of it less
abbrev pub LiftTakesOne : Type 0
LiftTakesOne = (at : ℕ) (holds : List ℕ) → 0 < count (nat_eq at) holds → SameHolds (at ∷ lifted at holds) holds
