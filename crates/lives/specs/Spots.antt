-- Where the versions of each key stand among all that a shard showed.
use Rattle.std.specs.Prelude.{◌≡◌, ◌⊎◌, ◌<◌, ◌≤◌, ◌-◌, ℕ, ◌^◌, true, cond, nat_lt, List, [], length, slice_get, slice_index_or, Option, Some, None}
use Rattle.std.specs.Map.{lookup}
use Rattle.std.specs.declared.vec.Vec.{Vec}
use Rattle.units.specs.Keys.{Bytes, same_key}
use Rattle.units.specs.declared.writes.Install.{Install}
use Rattle.lives.specs.declared.spots.Spot.{Spot}

-- what is read where nothing stands
abbrev pub no_install : Install
no_install = record { key = []; at = 0; value = None }

abbrev pub no_spot : Spot
no_spot = record { place = 0; at = 0; since = 0 }

-- a version of the key stands there
pub record IsOf (installs : List Install) (k : Bytes) (s : Spot) : Type 0 where
  pub within : s.place < length installs
  pub key : same_key (slice_index_or installs s.place no_install).key k ≡ true
  pub at : (slice_index_or installs s.place no_install).at ≡ s.at
  pub since : s.since ≤ s.place

-- a spot and one behind it, of a later timestamp where these ascend
pub record IsAhead (s r : Spot) : Type 0 where
  pub place : s.place < r.place
  pub since : s.since ≤ r.since
  pub at : s.since ≡ r.since → s.at < r.at

-- all versions of a key, as they stand
pub record AreOf (installs : List Install) (k : Bytes) (spots : List Spot) : Type 0 where
  pub each : (j : ℕ) → j < length spots → IsOf installs k (slice_index_or spots j no_spot)
  pub all : (p : ℕ) → p < length installs → same_key (slice_index_or installs p no_install).key k ≡ true
      → (j : ℕ) × (j < length spots) × ((slice_index_or spots j no_spot).place ≡ p)
  pub up : (j l : ℕ) → j < l → l < length spots → IsAhead (slice_index_or spots j no_spot) (slice_index_or spots l no_spot)

-- the spots of a key
abbrev pub spots_in : {A : Type 0} → Option (Vec Spot A) → List Spot
spots_in None = []
spots_in (Some spots) = spots.items

abbrev pub line : {A : Type 0} → List (Bytes × Vec Spot A) → Bytes → List Spot
line entries k = spots_in (lookup (same_key k) entries)

-- those of every key
abbrev pub AreSpots : {A : Type 0} → List Install → List (Bytes × Vec Spot A) → Type 0
AreSpots installs entries = (k : Bytes) → AreOf installs k (line entries k)

-- those of a key that stand from one place on, before another one
pub record AreIn (installs : List Install) (k : Bytes) (from end : ℕ) (spots : List Spot) : Type 0 where
  pub each : (j : ℕ) → j < length spots → IsOf installs k (slice_index_or spots j no_spot)
  pub behind : (j : ℕ) → j < length spots → from ≤ (slice_index_or spots j no_spot).place
  pub before : (j : ℕ) → j < length spots → (slice_index_or spots j no_spot).place < end
  pub all : (p : ℕ) → from ≤ p → p < end → p < length installs → same_key (slice_index_or installs p no_install).key k ≡ true
      → (j : ℕ) × (j < length spots) × ((slice_index_or spots j no_spot).place ≡ p)
  pub up : (j l : ℕ) → j < l → l < length spots → IsAhead (slice_index_or spots j no_spot) (slice_index_or spots l no_spot)

-- a search for what stands before a place, and is not above a time, goes on behind a spot, or ends before it
abbrev pub IsBefore : ℕ → ℕ → Spot → Type 0
IsBefore end until s = (s.place < end) × (s.at ≤ until)

abbrev pub IsPast : ℕ → ℕ → Spot → Type 0
IsPast end until s = (end ≤ s.place) ⊎ ((until < s.at) × (s.at < 2 ^ 62))

-- from where on timestamps ascend to a version that comes behind the last spot, if there is one
abbrev pub since_behind : Option Spot → ℕ → ℕ → ℕ
since_behind None place at = place
since_behind (Some s) place at = cond (nat_lt s.at at) s.since place

abbrev pub since_of : List Spot → ℕ → ℕ → ℕ
since_of spots place at = since_behind (slice_get spots (length spots - 1)) place at
