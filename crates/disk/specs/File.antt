-- A file as what the last sync left, and the changes since.
use Rattle.std.specs.Prelude.{ℕ, ◌-◌, min, List, [], ◌∷◌, ◌++◌, length, take, get_or, replicate, Bool, true, false}
use Rattle.disk.specs.Image.{Surface, with_bytes}
use Rattle.disk.specs.declared.plan.Fate.{Fate}
use Rattle.disk.specs.declared.plan.Fate.TheVariants.{Old, New, Filled}

-- a change that is not synced
pub data FileChange : Type 0 where
  wrote : ℕ → List ℕ → FileChange
  -- a write that failed: a read does not see it, but a crash may
  tried : ℕ → List ℕ → FileChange
  cut : ℕ → FileChange

-- a file with what is not synced
pub record File : Type 0 where
  -- what a crash right after the last sync leaves
  pub durable : List ℕ
  -- what was done since, the newest first
  pub changes : List FileChange

-- bytes at an offset that may lie past the end: zeros stand between
abbrev pub laid : ℕ → List ℕ → List ℕ → List ℕ
laid at bytes file = with_bytes at bytes (file ++ replicate (at - length file) 0)

-- the file behind a change
abbrev pub apply : FileChange → List ℕ → List ℕ
apply (wrote at bytes) file = laid at bytes file
apply (tried at bytes) file = file
apply (cut len) file = take len file

-- what a read gives
abbrev pub seen_by : List ℕ → List FileChange → List ℕ
seen_by durable [] = durable
seen_by durable (change ∷ changes) = apply change (seen_by durable changes)

-- the least length since the last sync
abbrev pub kept_by : List ℕ → List FileChange → ℕ
kept_by durable [] = length durable
kept_by durable (wrote at bytes ∷ changes) = kept_by durable changes
kept_by durable (tried at bytes ∷ changes) = kept_by durable changes
kept_by durable (cut len ∷ changes) = min (kept_by durable changes) len

-- the ranges that were written or tried since then
abbrev pub written_by : List FileChange → List (ℕ × ℕ)
written_by [] = []
written_by (wrote at bytes ∷ changes) = (at, length bytes) ∷ written_by changes
written_by (tried at bytes ∷ changes) = (at, length bytes) ∷ written_by changes
written_by (cut len ∷ changes) = written_by changes

-- nothing was done since the last sync
abbrev pub none_of : List FileChange → Bool
none_of [] = true
none_of (change ∷ changes) = false

-- what the disk model says of it
abbrev pub surface : File → Surface
surface file = record {
  seen = seen_by file.durable file.changes;
  kept = kept_by file.durable file.changes;
  written = written_by file.changes;
  synced = none_of file.changes;
}

-- a file with one change more
abbrev pub with_change : FileChange → File → File
with_change change file = record { durable = file.durable; changes = change ∷ file.changes }

-- A sync: all that a read gives is durable.
abbrev pub synced : File → File
synced file = record { durable = seen_by file.durable file.changes; changes = [] }

-- a change as a crash leaves it
abbrev pub by_fate : Fate → FileChange → List ℕ → List ℕ
by_fate Old change file = file
by_fate New (wrote at bytes) file = laid at bytes file
by_fate New (tried at bytes) file = laid at bytes file
by_fate New (cut len) file = take len file
by_fate (Filled byte) (wrote at bytes) file = laid at (replicate (length bytes) byte) file
by_fate (Filled byte) (tried at bytes) file = laid at (replicate (length bytes) byte) file
by_fate (Filled byte) (cut len) file = take len file

-- What a crash leaves: the n-th change since the last sync, the oldest being change 0, by the n-th fate, and by Old where there is none.
abbrev pub crashed_by : List Fate → List ℕ → List FileChange → List ℕ
crashed_by fates durable [] = durable
crashed_by fates durable (change ∷ changes) = by_fate (get_or fates (length changes) Old) change (crashed_by fates durable changes)

-- what a crash leaves of a file, by the fates of its changes, the oldest first
abbrev pub crash_leaves : List Fate → File → List ℕ
crash_leaves fates file = crashed_by fates file.durable file.changes
