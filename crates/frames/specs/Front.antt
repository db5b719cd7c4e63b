-- What stands at the front of a file's rest, by what was read of it.
use Rattle.std.specs.Prelude.{◌≡◌, ◌≤◌, ◌<◌, ◌+◌, ℕ, List, [], ◌++◌, drop, length, Ok, Err}
use Rattle.units.specs.declared.fault.Fault.TheVariants.{Damaged}
use Rattle.spelling.specs.Grammar.{spelling}
use Rattle.frames.specs.Entries.{entries_at, with_entry}
use Rattle.frames.specs.declared.front.Front.{Front}
use Rattle.frames.specs.declared.front.Front.TheVariants.{Closed, Whole, Part, Broken}

-- a closed gate; a frame with its gate, all of which was read; no frame, where one is due; or too little was read to tell
abbrev pub IsFront : List ℕ → ℕ → ℕ → Front → Type 0
IsFront rest read left Closed = (at : ℕ) → entries_at at 0 rest ≡ Ok ([], at)
IsFront rest read left (Whole item size) =
    (size ≤ read) × (size ≡ 5 + length (spelling item))
    × ((at : ℕ) → entries_at at 0 rest ≡ with_entry (record { offset = at; item = item }) (entries_at (at + size) 0 (drop size rest)))
IsFront rest read left Part = 0 < left
IsFront rest read left Broken = (at : ℕ) → entries_at at 0 rest ≡ Err (Damaged at)

-- whatever the bytes are that were not read
abbrev pub IsAtFront : List ℕ → ℕ → Front → Type 0
IsAtFront bytes left front = (beyond : List ℕ) → length beyond ≡ left → IsFront (bytes ++ beyond) (length bytes) left front
