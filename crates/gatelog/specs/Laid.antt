-- How a log's file is laid out: whole but for its header, which has eight 00 in its place, and synced; then with the header.
use Rattle.std.specs.Prelude.{◌≡◌, ◌⊎◌, ◌<◌, ◌≤◌, ℕ, List, length, get_or, Ok, Err}
use Rattle.units.specs.declared.fault.Fault.TheVariants.{NotALog}
use Rattle.disk.specs.File.{File, surface}
use Rattle.disk.specs.Image.{IsSynced}
use Rattle.disk.specs.Moments.{LeavesOnly}
use Rattle.frames.specs.Placed.{Placed}
use Rattle.gatelog.specs.Log.{log}

-- a disk between the two syncs, and what a crash leaves from then on
pub record IsLaidAt {D : Type 0} (file : D → File) (clock : D → ℕ) (since : D → ℕ → List ℕ → Type 0) (bytes : List ℕ) (P : List ℕ → Type 0)
    (old mid new : D) : Type 0 where
  pub within : clock old ≤ clock mid
  pub synced : IsSynced (surface (file mid))
  pub bare : (surface (file mid)).seen ≡ bytes
  pub from_then_on : LeavesOnly clock since mid new P

-- there was such a disk
abbrev pub WasLaid : {D : Type 0} → (D → File) → (D → ℕ) → (D → ℕ → List ℕ → Type 0) → List ℕ → (List ℕ → Type 0) → D → D → Type 0
WasLaid {D} file clock since bytes P old new = (mid : D) × IsLaidAt file clock since bytes P old mid new

-- the image holds these bytes behind the first eight
pub record HoldsBehind (bytes image : List ℕ) : Type 0 where
  pub long : length bytes ≤ length image
  pub same : (i : ℕ) → 8 ≤ i → i < length bytes → get_or image i 0 ≡ get_or bytes i 0

-- it has no log, or this one
abbrev pub HasNoneOr : List Placed → List ℕ → Type 0
HasNoneOr entries image = (log image ≡ Err NotALog) ⊎ (log image ≡ Ok entries)
