-- What comes next among versions in order, told by the values that keys have.
use Rattle.std.specs.Prelude.{◌≡◌, ℕ, ◌<◌, ◌≤◌, true, List, Option, None, Some}
use Rattle.units.specs.Keys.{Bytes, key_before}
use Rattle.units.specs.Versions.{at_time}
use Rattle.units.specs.declared.writes.Install.{Install}

-- Between the key and the next none has a value at any time. If there is no next, no later key has one.
abbrev pub IsNextKey : List Install → Bytes → Option Bytes → Type 0
IsNextKey installs key None = (later : Bytes) (at : ℕ) → key_before key later ≡ true → at_time installs later at ≡ None
IsNextKey installs key (Some next) = (key_before key next ≡ true) × ((later : Bytes) (at : ℕ) →
    key_before key later ≡ true → key_before later next ≡ true → at_time installs later at ≡ None)

-- From the time on the key keeps its value until its next version. If there is no next, it keeps it for good.
abbrev pub IsNextVersion : List Install → Bytes → ℕ → Option Install → Type 0
IsNextVersion installs key at None = (later : ℕ) → at ≤ later → at_time installs key later ≡ at_time installs key at
IsNextVersion installs key at (Some next) = (next.key ≡ key) × (at < next.at) × (at_time installs key next.at ≡ next.value)
    × ((later : ℕ) → at ≤ later → later < next.at → at_time installs key later ≡ at_time installs key at)
