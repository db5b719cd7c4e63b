-- When versions that no look needs are let go, and that none misses those that stay.
use Rattle.std.specs.Prelude.{◌≡◌, ◌⊎◌, ℕ, ◌+◌, ◌*◌, ◌<◌, ◌≤◌, List, length}
use Rattle.units.specs.declared.writes.Install.{Install}
use Rattle.versions.specs.Places.{SameFrom}
use Rattle.versions.specs.Pruned.{pruned}

-- The versions below a horizon went, if there were half as many more as were left the last time, and 1,024. Else they all stay.
abbrev pub ForgetsIfDue : ℕ → ℕ → ℕ → List Install → List Install → Type 0
ForgetsIfDue horizon left remaining old new =
    ((3 * left + 2048 ≤ 2 * length old) × (new ≡ pruned horizon old) × (remaining ≡ length new))
    ⊎ ((2 * length old < 3 * left + 2048) × (new ≡ old) × (remaining ≡ left))

-- what stays is not missed from a later horizon up
abbrev pub StayingIsNotMissed : Type 0
StayingIsNotMissed = (before horizon : ℕ) (kept log : List Install) → before ≤ horizon → SameFrom before kept log → SameFrom horizon kept log
