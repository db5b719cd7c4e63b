-- Logs that are copied onto new disks, and what they say.
use Rattle.std.specs.Prelude.{◌≡◌, ℕ, true, IsTrue, List, [], ◌∷◌}
use Rattle.std.specs.List.{list_all}
use Rattle.std.specs.Result.{is_ok}
use Rattle.units.specs.Ids.{Id}
use Rattle.disk.specs.File.{File}
use Rattle.record.specs.Accepted.{is_kept}
use Rattle.record.specs.Verdict.{retired_in}
use Rattle.record.specs.Whole.{is_whole}
use Rattle.record.specs.declared.record.Record.{Record}
use Rattle.compaction.specs.Compacted.{Holds, records_in}
use Rattle.inspection.specs.Judged.{HaveLogs, records_held}

-- one disk for each image of a log, in order: whatever crash comes, it leaves the records of that log there
abbrev pub AreCopies : {E : Type 0} → (E → File) → List (List ℕ) → List E → Type 0
AreCopies file [] [] = Unit {0}
AreCopies file (image ∷ images) (copy ∷ copies) = Holds (records_in image) (file copy) × AreCopies file images copies
AreCopies file images copies = ⊥

-- Each disk holds a log. Over these logs, of shards 0, 1 and so on, each transaction that no log retired is whole: on all its shards at one
-- timestamp, or on none.
pub record AreWhole {D : Type 0} (seen : D → List ℕ) (disks : List D) : Type 0 where
  pub held : list_all (λ disk. is_ok (records_held (seen disk))) disks ≡ true
  pub whole : (logs : List (List Record)) → HaveLogs seen disks logs → (t : Id) → IsTrue (is_kept (retired_in logs) t) → IsTrue (is_whole t logs)
