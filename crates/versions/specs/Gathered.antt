-- Versions that are brought to where they come in order, and their places.
use Rattle.std.specs.Prelude.{◌≡◌, ◌≢◌, ℕ, ◌<◌, List, length, slice_index_or}
use Rattle.units.specs.declared.writes.Install.{Install}
use Rattle.versions.specs.Headed.{Headed}
use Rattle.versions.specs.Heads.{AreHeads}

-- the first so many stand where they come in order
abbrev pub AreSettled : List ℕ → ℕ → Type 0
AreSettled places count = (k : ℕ) → k < count → slice_index_or places k 0 ≡ k

-- a place that was one number is another, and the others stay
pub record IsRedirected (old new : List ℕ) (at from : ℕ) : Type 0 where
  pub len : length new ≡ length old
  pub moved : (k : ℕ) → k < length old → slice_index_or old k 0 ≡ at → slice_index_or new k 0 ≡ from
  pub others : (k : ℕ) → k < length old → slice_index_or old k 0 ≢ at → slice_index_or new k 0 ≡ slice_index_or old k 0

-- each of some versions stands where it comes in order, beside the head of its key
pub record StandInOrder (installs : List Install) (p : Headed) : Type 0 where
  pub all : length p.places ≡ length installs
  pub settled : AreSettled p.places (length installs)
  pub headed : AreHeads p.prefix installs p.heads
