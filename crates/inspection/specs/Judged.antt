-- The logs that some disks hold, as they are, and the verdict on them.
use Rattle.std.specs.Prelude.{◌≡◌, ℕ, List, map, Result, Ok, Err, Contains}
use Rattle.units.specs.declared.fault.Fault.{Fault}
use Rattle.units.specs.declared.line.Line.{Line}
use Rattle.units.specs.declared.line.Verdict.{Verdict}
use Rattle.record.specs.Verdict.{verdict}
use Rattle.record.specs.declared.record.Record.{Record}
use Rattle.gatelog.specs.Log.{log}
use Rattle.texts.specs.Numbers.{and_then}

-- the records of the log in an image of a disk
abbrev pub records_held : List ℕ → Result (List Record) Fault
records_held image = and_then (log image) (λ entries. Ok (map (λ e. e.item) entries))

-- what is read of each disk is the log of these records, in order
abbrev pub HaveLogs : {D : Type 0} → (D → List ℕ) → List D → List (List Record) → Type 0
HaveLogs seen disks logs = map (λ d. records_held (seen d)) disks ≡ map Ok logs

-- the verdict is that on the logs of the disks and the lines
abbrev pub IsJudged : {D : Type 0} → (D → List ℕ) → List D → List Line → Verdict → Type 0
IsJudged seen disks lines found =
    (logs : List (List Record)) × HaveLogs seen disks logs × (found ≡ verdict logs lines)

-- one of the disks holds no log that can be read, for this fault
pub record OneIsRefused {D : Type 0} (seen : D → List ℕ) (disks : List D) (fault : Fault) : Type 0 where
  pub disk : D
  pub among : Contains disks disk
  pub refused : records_held (seen disk) ≡ Err fault
