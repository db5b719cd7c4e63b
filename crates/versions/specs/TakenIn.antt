-- One more version, for which one that the horizon passed may go.
use Rattle.std.specs.Prelude.{◌≡◌, ◌⊎◌, ℕ, ◌+◌, ◌<◌, IsTrue, List, ◌++◌, length, take, drop, slice_index_or}
use Rattle.units.specs.declared.writes.Install.{Install}
use Rattle.versions.specs.Arranged.{no_install}
use Rattle.versions.specs.Ordered.{installed}
use Rattle.versions.specs.Pruned.{is_passed}

-- the versions but one
abbrev pub without : ℕ → List Install → List Install
without k versions = take k versions ++ drop (k + 1) versions

-- the next version is of the same key and not above the horizon
abbrev pub IsPassedAt : ℕ → List Install → ℕ → Type 0
IsPassedAt horizon versions k =
    (k + 1 < length versions) × IsTrue (is_passed horizon (slice_index_or versions k no_install) (drop (k + 1) versions))

-- one more is put in order, and perhaps one that the horizon passed is no longer there
abbrev pub TakesIn : ℕ → List Install → Install → List Install → Type 0
TakesIn horizon old install new =
    (new ≡ installed old install) ⊎ ((k : ℕ) × IsPassedAt horizon old k × (new ≡ installed (without k old) install))
