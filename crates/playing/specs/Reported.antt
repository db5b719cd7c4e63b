-- The law of the store, of the report of a run.
use Rattle.std.specs.Prelude.{ℕ, ◌≡◌, IsFalse, IsTrue, List, length, map, slice_get, Option, Some}
use Rattle.units.specs.Ids.{Id}
use Rattle.units.specs.Keys.{Bytes}
use Rattle.units.specs.declared.line.Line.{Line}
use Rattle.units.specs.declared.line.Verdict.TheVariants.{Yes}
use Rattle.record.specs.Accepted.{Accepted, is_kept, taken}
use Rattle.record.specs.Facts.{facts_of}
use Rattle.record.specs.History.{history}
use Rattle.record.specs.Verdict.{are_renewed, retired_in, verdict}
use Rattle.record.specs.declared.record.Record.{Record}
use Rattle.ledger.specs.Keeps.{Keeps}
use Rattle.world.specs.Headline.{IsExternallyConsistent}
use Rattle.world.specs.World.{counted_lines, line_counts, logs_of, run, setup_of}
use Rattle.world.specs.declared.event.Config.{Config}
use Rattle.world.specs.declared.event.Event.{Event}
use Rattle.lives.specs.Fleet.{AreOn}
use Rattle.playing.specs.Reports.{IsReport}
use Rattle.playing.specs.declared.plays.Report.{Report}

-- the logs of a report
abbrev pub logs_in : Report → List (List Record)
logs_in r = map (λ log. log.items) r.logs.items

-- the logs of a report are on its disks. All records that were logged since the disks were formatted, and the report's lines, are
-- externally consistent. The lines are those that count by the logs, and an answered read counts by these as it does by all records,
-- unless a log retired its transaction. Each log keeps what all records say, and where none was renewed they are the logs; and the
-- verdict on the logs and the lines is yes
pub record IsConsistentReport (config : Config) (es : List Event) (r : Report) : Type 0 where
  pub on_disks : AreOn r.disks.items (logs_in r)
  pub consistent : IsExternallyConsistent config (logs_of (run config es)) r.lines.items
  pub lines : r.lines.items ≡ counted_lines (logs_in r) (run config es).lines
  pub counted : (t : Id) (k : Bytes) (x : Option Bytes) → IsTrue (is_kept (retired_in (logs_in r)) t) →
      line_counts (history (logs_in r)) (Line.Read t k x) ≡ line_counts (history (logs_of (run config es))) (Line.Read t k x)
  pub count : length (logs_in r) ≡ length (logs_of (run config es))
  pub keeps : (n : ℕ) (all log : List Record) → slice_get (logs_of (run config es)) n ≡ Some all → slice_get (logs_in r) n ≡ Some log →
      (taken (setup_of config n) log ≡ Accepted) × Keeps (facts_of all) (facts_of log)
  pub plain : IsFalse (are_renewed (logs_in r)) → logs_in r ≡ logs_of (run config es)
  pub judged : verdict (logs_in r) r.lines.items ≡ Yes

-- so of each report
abbrev pub ReportsAreConsistent : Type 0
ReportsAreConsistent = (config : Config) (es : List Event) (r : Report) → IsReport config es r → IsConsistentReport config es r
