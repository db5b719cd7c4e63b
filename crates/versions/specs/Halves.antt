-- Where a key and a timestamp fall among versions in order.
use Rattle.std.specs.Prelude.{◌≡◌, ℕ, ◌<◌, ◌≤◌, true, false, List, length, slice_index_or}
use Rattle.units.specs.Keys.{Bytes}
use Rattle.units.specs.declared.writes.Install.{Install}
use Rattle.versions.specs.Ordered.{is_not_after}

-- each version before this place is not after the key and timestamp
abbrev pub AllUpTo : Bytes → ℕ → List Install → ℕ → Type 0
AllUpTo key at t low = (k : ℕ) (d : Install) → k < low → is_not_after key at (slice_index_or t k d) ≡ true

-- each from this place on is after them
abbrev pub AllAfter : Bytes → ℕ → List Install → ℕ → Type 0
AllAfter key at t high = (k : ℕ) (d : Install) → high ≤ k → k < length t → is_not_after key at (slice_index_or t k d) ≡ false
