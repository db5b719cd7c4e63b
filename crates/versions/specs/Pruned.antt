-- Versions without those below a horizon, which no look from the horizon up reads.
use Rattle.std.specs.Prelude.{ℕ, ◌≤◌, Bool, false, cond, nat_le, List, [], ◌∷◌, Option, Some, None, filter}
use Rattle.units.specs.Keys.{Bytes}
use Rattle.units.specs.Versions.{newest}
use Rattle.units.specs.declared.writes.Install.{Install}
use Rattle.versions.specs.Ordered.{is_by}
use Rattle.versions.specs.Places.{SameFrom}

-- the timestamp of a version that was found, 0 where none was
abbrev pub at_of : Option Install → ℕ
at_of None = 0
at_of (Some i) = i.at

-- from when on the versions of a key are kept: the timestamp of its newest one that is not above the horizon
abbrev pub kept_from : ℕ → List Install → Bytes → ℕ
kept_from horizon installs k = at_of (newest (filter (is_by k horizon) installs))

-- the versions without those below the horizon, save the newest of each key that is not above it
unfoldable pub pruned : ℕ → List Install → List Install
pruned horizon installs = filter (λ i. nat_le (kept_from horizon installs i.key) i.at) installs

-- the next version, where there is one, is of the same key and not above the horizon
abbrev pub is_passed : ℕ → Install → List Install → Bool
is_passed horizon install [] = false
is_passed horizon install (next ∷ rest) = is_by install.key horizon next

-- the first of some versions in order, where it is not passed
abbrev pub first_left : ℕ → List Install → Option Install
first_left horizon [] = None
first_left horizon (install ∷ rest) = cond (is_passed horizon install rest) None (Some install)

-- what a horizon lets go is not missed from it up
abbrev pub PrunedIsNotMissed : Type 0
PrunedIsNotMissed = (horizon : ℕ) (installs : List Install) → SameFrom horizon (pruned horizon installs) installs

-- nor what goes at a later horizon, after more versions or none
abbrev pub PrunedAgainIsNotMissed : Type 0
PrunedAgainIsNotMissed = (before horizon : ℕ) (kept log : List Install) → before ≤ horizon → SameFrom before kept log
    → SameFrom horizon (pruned horizon kept) log
