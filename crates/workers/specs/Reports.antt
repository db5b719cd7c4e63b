-- What workers report.
use Rattle.std.specs.Prelude.{◌≡◌, ◌≤◌, ◌<◌, ℕ, List, length, slice_index_or, Result, MatchResult}
use Rattle.units.specs.declared.fault.Fault.{Fault}
use Rattle.units.specs.declared.line.Line.{Line}
use Rattle.workers.specs.declared.summary.Counts.{Counts}
use Rattle.workers.specs.declared.worker.Report.{Report}
use Rattle.workers.specs.Refusals.{IsCutShort}
use Rattle.workers.specs.Summaries.{tried}
use Rattle.workers.specs.Turns.{count, is_begin, is_ack, is_read, is_look}

-- So many transactions were tried, each counted once, and no more looks were answered. Each transaction has a line of its
-- begin, each that committed one of its acknowledgement and at least one of a read, and each answered look its own.
pub record IsTally (turns : ℕ) (counts : Counts) (lines : List Line) : Type 0 where
  pub tried : tried counts ≡ turns
  pub looks : counts.looks ≤ turns
  pub begin_lines : count is_begin lines ≡ turns
  pub ack_lines : count is_ack lines ≡ counts.committed
  pub read_lines : counts.committed ≤ count is_read lines
  pub look_lines : count is_look lines ≡ counts.looks

abbrev pub IsCounted : ℕ → Result Report Fault → Type 0
IsCounted turns result = MatchResult result (λ report. IsTally turns report.counts report.lines.items) IsCutShort

-- so many by each
abbrev pub AreCounted : ℕ → List (Result Report Fault) → Type 0
AreCounted turns reports =
    (i : ℕ) (d : Result Report Fault) → i < length reports
    → IsCounted turns (slice_index_or reports i d)
