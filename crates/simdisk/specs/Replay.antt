-- The file that kept changes make, one by one.
use Rattle.std.specs.Prelude.{◌≡◌, ℕ, ◌+◌, max, List, [], ◌∷◌, ◌++◌, length, take, drop}
use Rattle.disk.specs.File as Files
use Rattle.disk.specs.File.{File, with_change}
use Rattle.simdisk.specs.declared.change.Change.{Change}
use Rattle.simdisk.specs.declared.change.Change.TheVariants.{Write, Tried, Cut}

-- what the last sync left, what was done since, the oldest first, and the bytes of its writes
pub record History : Type 0 where
  pub base : List ℕ
  pub changes : List Change
  pub store : List ℕ

-- a history of these parts
abbrev pub kept : List ℕ → List Change → List ℕ → History
kept base changes store = record { base = base; changes = changes; store = store }

-- how many bytes a change has in the store
abbrev pub size : Change → ℕ
size (Write at count) = count
size (Tried at count) = count
size (Cut len) = 0

-- where the range of a change ends
abbrev pub change_end : Change → ℕ
change_end (Write at count) = at + count
change_end (Tried at count) = at + count
change_end (Cut len) = 0

-- how many bytes changes have in the store
abbrev pub bytes_in_all : List Change → ℕ
bytes_in_all [] = 0
bytes_in_all (change ∷ changes) = size change + bytes_in_all changes

-- the furthest end of a range
abbrev pub furthest : List Change → ℕ
furthest [] = 0
furthest (change ∷ changes) = max (change_end change) (furthest changes)

-- a change with its bytes, as the disk model has it
abbrev pub made : Change → List ℕ → Files.FileChange
made (Write at count) bytes = Files.wrote at bytes
made (Tried at count) bytes = Files.tried at bytes
made (Cut len) bytes = Files.cut len

-- the file behind a change with these bytes
abbrev pub with_made : Change → List ℕ → File → File
with_made change bytes file = with_change (made change bytes) file

-- the file behind all of them, each with its bytes of the store
abbrev pub replay : List Change → List ℕ → File → File
replay [] store file = file
replay (change ∷ changes) store file = replay changes (drop (size change) store) (with_made change (take (size change) store) file)

-- a file with no change since the last sync
abbrev pub settled : List ℕ → File
settled base = record { durable = base; changes = [] }

-- the file behind so many changes
abbrev pub file_at : History → ℕ → File
file_at h made = replay (take made h.changes) h.store (settled h.base)

-- the file behind all changes
abbrev pub file_of : History → File
file_of h = file_at h (length h.changes)

-- a history with one change more
abbrev pub pushed : History → Change → List ℕ → History
pushed h change bytes = record { base = h.base; changes = h.changes ++ change ∷ []; store = h.store ++ bytes }

-- the store has the bytes of all changes
abbrev pub IsStored : History → Type 0
IsStored h = bytes_in_all h.changes ≡ length h.store
