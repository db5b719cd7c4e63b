-- Versions in order answer as the same versions in the order of the log.
use Rattle.std.specs.Prelude.{◌≡◌, ℕ, ◌≤◌, IsTrue, List, [], ◌∷◌, ◌++◌, filter}
use Rattle.units.specs.Keys.{Bytes, write_before}
use Rattle.units.specs.Lists.{ascends}
use Rattle.units.specs.Versions.{latest, at_time, newest, of_key, versions, above_versions}
use Rattle.units.specs.declared.writes.Install.{Install}
use Rattle.units.specs.declared.writes.Write.{Write}
use Rattle.versions.specs.Ordered.{installed, all_installed, is_above, is_by}

-- the two lists give each key the same values, and take the same timestamps as new
pub record SameValues (a b : List Install) : Type 0 where
  pub now : (key : Bytes) → latest a key ≡ latest b key
  pub at : (key : Bytes) (t : ℕ) → at_time a key t ≡ at_time b key t
  pub above : (key : Bytes) (t : ℕ) → is_above a key t ≡ is_above b key t

-- the same, but for the values before a horizon
pub record SameFrom (horizon : ℕ) (a b : List Install) : Type 0 where
  pub now : (key : Bytes) → latest a key ≡ latest b key
  pub at : (key : Bytes) (t : ℕ) → horizon ≤ t → at_time a key t ≡ at_time b key t
  pub above : (key : Bytes) (t : ℕ) → is_above a key t ≡ is_above b key t

-- the newest version of every key is the same, now and at every timestamp from a horizon up: by versions what the above says by values
pub record SameVersions (horizon : ℕ) (a b : List Install) : Type 0 where
  pub now : (key : Bytes) → newest (of_key a key) ≡ newest (of_key b key)
  pub at : (key : Bytes) (t : ℕ) → horizon ≤ t → newest (filter (is_by key t) a) ≡ newest (filter (is_by key t) b)

-- one more version, above its key's others, answers at its place in order as it does at the end of the log
abbrev pub PlaceDoesNotMatter : Type 0
PlaceDoesNotMatter = (install : Install) (ordered log : List Install) → IsTrue (is_above log install.key install.at)
    → SameValues ordered log → SameValues (installed ordered install) (log ++ install ∷ [])

-- all writes of a transaction, at one timestamp, answer in order as they do at the end of the log
abbrev pub PlacesDoNotMatter : Type 0
PlacesDoNotMatter = (writes : List Write) (at : ℕ) (ordered log : List Install) → IsTrue (ascends write_before writes)
    → IsTrue (above_versions log at writes) → SameValues ordered log → SameValues (all_installed ordered (versions writes at)) (log ++ versions writes at)

-- the same of versions that are read from a horizon up
abbrev pub PlaceDoesNotMatterFrom : Type 0
PlaceDoesNotMatterFrom = (horizon : ℕ) (install : Install) (ordered log : List Install) → IsTrue (is_above log install.key install.at)
    → SameFrom horizon ordered log → SameFrom horizon (installed ordered install) (log ++ install ∷ [])

-- from the beginning of time on these are all values, and all values are those from any time on
abbrev pub AllFromTheBeginning : Type 0
AllFromTheBeginning = (a b : List Install) → SameFrom 0 a b → SameValues a b

abbrev pub AllFromAnyTime : Type 0
AllFromAnyTime = (horizon : ℕ) (a b : List Install) → SameValues a b → SameFrom horizon a b
