-- The places of versions that another list keeps.
use Rattle.std.specs.Prelude.{◌≡◌, ℕ, ◌≤◌, ◌^◌, ◌-◌, IsTrue, List, length, take, drop}
use Rattle.units.specs.Keys.{write_before}
use Rattle.units.specs.Lists.{ascends}
use Rattle.units.specs.Versions.{versions, above_versions}
use Rattle.units.specs.declared.writes.Install.{Install}
use Rattle.units.specs.declared.writes.Write.{Write}
use Rattle.versions.specs.Arranged.{arranged, AreWithin}
use Rattle.versions.specs.Headed.{Headed}
use Rattle.versions.specs.Heads.{AreHeads}
use Rattle.versions.specs.Ordered.{IsInOrder}
use Rattle.versions.specs.Places.{SameVersions}

-- the places are of versions among the first so many of a list, in order, and read so the newest of each key are those of the list, now
-- and at each timestamp from a horizon up
pub record Orders (horizon : ℕ) (installs : List Install) (known : ℕ) (p : Headed) : Type 0 where
  pub within : AreWithin p.places known
  pub few : length p.places ≤ known
  pub kept : IsInOrder (2 ^ 62 - 1) (arranged installs p.places)
  pub headed : AreHeads p.prefix (arranged installs p.places) p.heads
  pub same : SameVersions horizon (arranged installs p.places) (take known installs)

-- behind the first so many versions stand those of one transaction's writes, at a timestamp above their keys' others
pub record AreBehind (installs : List Install) (known : ℕ) : Type 0 where
  pub writes : List Write
  pub at : ℕ
  pub rest : drop known installs ≡ versions writes at
  pub up : IsTrue (ascends write_before writes)
  pub above : IsTrue (above_versions (take known installs) at writes)
