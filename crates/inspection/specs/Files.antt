-- The logs of shards 0, 1 and so on, by what a read of their files gives, and the verdict on them.
use Rattle.std.specs.Prelude.{◌≡◌, ◌⊎◌, ◌<◌, IsTrue, ℕ, Bool, true, false, List, [], ◌∷◌, ◌++◌, length, map, Result, Ok, Err, if◌then◌else◌, nat_lt, Contains}
use Rattle.units.specs.declared.fault.Fault.{Fault}
use Rattle.units.specs.declared.fault.Fault.TheVariants.{BadRequest, Damaged, Device, NotALog}
use Rattle.units.specs.declared.fault.Reason.TheVariants as reason
use Rattle.units.specs.declared.line.Line.{Line}
use Rattle.units.specs.declared.line.Verdict.{Verdict}
use Rattle.record.specs.Accepted.{followed}
use Rattle.record.specs.Verdict.{verdict}
use Rattle.record.specs.declared.record.Record.{Record}
use Rattle.disk.specs.File.{File, surface}
use Rattle.gatelog.specs.Log.{log}
use Rattle.frames.specs.Placed.{Placed}
use Rattle.system.specs.Named.{AreNamed}
use Rattle.texts.specs.Numbers.{and_then}
use Rattle.texts.specs.Refusals.{IsNoText}

-- some records of a shard with those of some entries behind them, where each follows those before it by the rules of one id
-- and of openings; else the log is damaged at the first that does not
abbrev pub records_behind : ℕ → List Record → List Placed → Result (List Record) Fault
records_behind shard before [] = Ok before
records_behind shard before (e ∷ es) =
    if followed shard (before ++ e.item ∷ []) then records_behind shard (before ++ e.item ∷ []) es else Err (Damaged e.offset)

-- the records of a file, as the log of a shard
abbrev pub shard_log : ℕ → List ℕ → Result (List Record) Fault
shard_log shard image = and_then (log image) (records_behind shard [])

-- the logs of some shards with those of the next ones behind them, by their files; the first that is refused counts, and there
-- are 16 shards at most
abbrev pub logs_behind : List (List Record) → List (List ℕ) → Result (List (List Record)) Fault
logs_behind before [] = Ok before
logs_behind before (image ∷ images) =
    if nat_lt (length before) 16
    then and_then (shard_log (length before) image) (λ records. logs_behind (before ++ records ∷ []) images)
    else Err (BadRequest reason.Many)

-- the verdict on the files of shards 0, 1 and so on, and on some lines
abbrev pub verdict_on : List (List ℕ) → List Line → Result Verdict Fault
verdict_on images lines = and_then (logs_behind [] images) (λ logs. Ok (verdict logs lines))

-- the refusals that files may get, whatever they hold
abbrev pub is_refusal : Fault → Bool
is_refusal NotALog = true
is_refusal (Damaged offset) = true
is_refusal (BadRequest reason.Many) = true
is_refusal _ = false

-- one of the devices has failed
pub record HasFailed {D : Type 0} (failures : D → ℕ) (disks : List D) : Type 0 where
  pub disk : D
  pub among : Contains disks disk
  pub back : D
  pub rises : failures disk < failures back

-- why files are not judged: the lines are not read, a device failed, or it is for what the files hold, or for their number
abbrev pub IsNotJudged : Fault → Type 0
IsNotJudged fault = IsNoText fault ⊎ ((fault ≡ Device) ⊎ IsTrue (is_refusal fault))

-- There are disks that were opened under these names, in order; on disks that keep the model this is the verdict on them and on the lines of some
-- report.
abbrev pub IsVerdictOn : {D : Type 0} → Type 0 → (D → File) → (List ℕ → D → Type 0) → List (List ℕ) → Verdict → Type 0
IsVerdictOn {D} keeps file named names found =
    (disks : List D) × AreNamed named names disks
    × (keeps → (lines : List Line) × (verdict_on (map (λ d. (surface (file d)).seen) disks) lines ≡ Ok found))
