-- What is told of a drive.
use Rattle.std.specs.Prelude.{◌≡◌, ◌⊎◌, ◌≤◌, ℕ, List, length, None, IsTrue}
use Rattle.units.specs.declared.fault.Fault.{Fault}
use Rattle.units.specs.declared.fault.Fault.TheVariants.{Device, Memory}
use Rattle.units.specs.declared.line.Line.{Line}
use Rattle.units.specs.declared.line.Verdict.{Verdict}
use Rattle.gatelog.specs.Log.{is_no_log}
use Rattle.host_files.specs.Folders.{IsFolderFault}
use Rattle.inspection.specs.Judged.{IsJudged}
use Rattle.workers.specs.Refusals.{IsCutShort}
use Rattle.workers.specs.Reports.{IsTally}
use Rattle.workers.specs.declared.summary.Counts.{Counts}
use Rattle.workers.specs.Summaries.{counts_text, summary_text, tried}
use Rattle.node.specs.Unopened.{IsUnmade}
use Rattle.drive.specs.declared.engine.NoVerdict.{NoVerdict}

-- it is the summary of some counts and a verdict, and the counts are those of the lines of so many transactions in all
pub record IsTold (transactions : ℕ) (text : List ℕ) (verdict : Verdict) : Type 0 where
  pub counts : Counts
  pub lines : List Line
  pub summary : text ≡ summary_text counts verdict
  pub tally : IsTally transactions counts lines

-- It is the summary of some counts and a verdict. The counts are those of the lines of so many transactions, and the verdict is that on
-- these lines and on so many disks, where what these hold is known.
pub record IsToldOf {D : Type 0} (keeps : Type 0) (seen : D → List ℕ) (shards transactions : ℕ) (text : List ℕ) (verdict : Verdict) : Type 0 where
  pub counts : Counts
  pub lines : List Line
  pub disks : List D
  pub summary : text ≡ summary_text counts verdict
  pub tally : IsTally transactions counts lines
  pub count : length disks ≡ shards
  pub judged : keeps → IsJudged seen disks lines verdict

-- it is the counts of so many transactions in all
pub record AreCounts (transactions : ℕ) (text : List ℕ) : Type 0 where
  pub counts : Counts
  pub lines : text ≡ counts_text counts
  pub all : tried counts ≡ transactions
  pub looks : counts.looks ≤ tried counts

-- why there is no verdict once the workers have reported: memory is wanting, a device has failed, or a disk holds no log that can be read
abbrev pub IsUnjudged : Fault → Type 0
IsUnjudged fault = (fault ≡ Memory) ⊎ ((fault ≡ Device) ⊎ IsTrue (is_no_log fault))

-- why there is no verdict on a drive: there are no nodes, a worker ends too soon, or the logs are not judged
abbrev pub IsUndriven : Fault → Type 0
IsUndriven fault = IsUnmade fault ⊎ (IsCutShort fault ⊎ IsUnjudged fault)

-- why there is none on a drive over the logs of a folder: the folder or one of its logs is refused, or the drive is
abbrev pub HasNoVerdict : Fault → Type 0
HasNoVerdict fault = IsFolderFault fault ⊎ IsUndriven fault

-- nothing was driven
abbrev pub refused_for : Fault → NoVerdict
refused_for fault = record {
  fault = fault;
  counts = None;
}
