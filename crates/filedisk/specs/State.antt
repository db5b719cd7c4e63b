-- What contracts see of a file of the system.
use Rattle.std.specs.Prelude.{◌≡◌, ◌+◌, ℕ, Bool, [], Result, MatchResult}
use Rattle.disk.specs.File.{File}
use Rattle.units.specs.declared.fault.Fault.{Fault}
use Rattle.units.specs.declared.fault.Fault.TheVariants.{Device}
use Rattle.filedisk.specs.declared.FileDisk.{FileDisk}

-- its length, as the calls of this disk left it
abbrev pub file_length : FileDisk → ℕ
file_length d = d.len

-- how often a call has failed
abbrev pub file_failures : FileDisk → ℕ
file_failures d = d.failures.number

-- a sync of it has failed since it was opened
abbrev pub file_is_torn : FileDisk → Bool
file_is_torn d = d.torn

-- it was asked for a write or a cut since it was opened
abbrev pub file_is_changed : FileDisk → Bool
file_is_changed d = d.changed

-- What stands for its bytes, of which no contract knows anything.
abbrev pub unknown : File
unknown = record { durable = []; changes = [] }

-- A refusal is the device's, and one failure more. What is done adds none.
abbrev pub Counts : {T : Type 0} → ℕ → ℕ → Result T Fault → Type 0
Counts before now result = MatchResult result (λ done. now ≡ before) (λ fault. (fault ≡ Device) × (now ≡ before + 1))
