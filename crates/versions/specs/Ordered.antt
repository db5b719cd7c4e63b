-- Versions in order: by key, and then by timestamp.
use Rattle.std.specs.Prelude.{ℕ, IsTrue, Bool, nat_lt, nat_le, List, [], ◌∷◌, length, filter}
use Rattle.std.specs.List.{AllByRecursion, list_all}
use Rattle.units.specs.Keys.{Bytes}
use Rattle.units.specs.Versions.{of_key}
pub use Rattle.units.specs.Versions.{version_before}
pub use Rattle.units.specs.Installed.{is_not_after, is_by, installed, all_installed}
use Rattle.units.specs.declared.writes.Install.{Install}

-- how many are not after the key and timestamp
abbrev pub count_not_after : Bytes → ℕ → List Install → ℕ
count_not_after key at installs = length (filter (is_not_after key at) installs)

-- each version is before all that follow
abbrev pub AscendsByVersion : List Install → Type 0
AscendsByVersion [] = Unit {0}
AscendsByVersion (install ∷ rest) = AllByRecursion (λ next. IsTrue (version_before install next)) rest × AscendsByVersion rest

-- the timestamp is above all versions of the key
abbrev pub is_above : List Install → Bytes → ℕ → Bool
is_above installs key at = list_all (λ i. nat_lt i.at at) (of_key installs key)

-- what is kept of the versions: their order, and that no timestamp passes the greatest
pub record IsInOrder (greatest : ℕ) (installs : List Install) : Type 0 where
  pub order : AscendsByVersion installs
  pub in_time : AllByRecursion (λ i. IsTrue (nat_le i.at greatest)) installs
