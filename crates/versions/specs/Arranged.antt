-- Versions that stand as they were installed, and the places by which they are read in order.
use Rattle.std.specs.Prelude.{◌≡◌, ℕ, ◌^◌, ◌-◌, ◌<◌, ◌≤◌, List, [], map, length, None, slice_index_or}
use Rattle.std.specs.List.{AllByRecursion}
use Rattle.units.specs.Keys.{Bytes}
use Rattle.units.specs.declared.writes.Install.{Install}
use Rattle.versions.specs.Heads.{AreHeads}
use Rattle.versions.specs.Ordered.{IsInOrder}

-- what is read at a place where nothing stands
abbrev pub no_install : Install
no_install = record { key = []; at = 0; value = None }

-- the versions at these places
abbrev pub arranged : List Install → List ℕ → List Install
arranged installs places = map (λ p. slice_index_or installs p no_install) places

-- a version stands at each place
abbrev pub AreWithin : List ℕ → ℕ → Type 0
AreWithin places len = AllByRecursion (λ p. p < len) places

-- each version stands at one place, the versions there are in order and their heads are known, and there is room for more
pub record IsPlaced (installs : List Install) (places heads : List ℕ) (prefix : Bytes) (room free_installs free_places : ℕ) : Type 0 where
  pub within : AreWithin places (length installs)
  pub all : length places ≡ length installs
  pub kept : IsInOrder (2 ^ 62 - 1) (arranged installs places)
  pub headed : AreHeads prefix (arranged installs places) heads
  pub installs_fit : room ≤ free_installs
  pub places_fit : room ≤ free_places
