-- Logs that are whole, and copies of logs, one after the other.
use Rattle.std.proofs.Common.{◌≡◌, ◌∙◌, refl, sym, subst, ap, arith, length, true≢false, ◌&&◌, ℕ, Bool, true, false, IsTrue, List, [], ◌∷◌, ◌++◌, map, Result, Ok, Err}
use Rattle.std.specs.List.{list_all}
use Rattle.std.proofs.lemmas.List.{length-append}
use Rattle.std.specs.Result.{is_ok}
use Rattle.units.specs.Ids.{Id}
use Rattle.units.specs.declared.fault.Fault.{Fault}
use Rattle.disk.specs.File.{File}
use Rattle.record.specs.Accepted.{is_kept}
use Rattle.record.specs.Verdict.{retired_in}
use Rattle.record.specs.Whole.{is_whole}
use Rattle.record.specs.declared.record.Record.{Record}
use Rattle.compaction.specs.Compacted.{Holds, records_in}
use Rattle.inspection.specs.Judged.{HaveLogs, records_held}
use Rattle.moving.specs.Copies.{AreCopies, AreWhole}

-- one more copy
pub copied_on : {D E : Type 0} (seen : D → List ℕ) (file : E → File) (logs : List D) (copies after : List E) (log : D) (copy : E) → after ≡ copies ++ copy ∷ []
    → AreCopies file (map seen logs) copies → Holds (records_in (seen log)) (file copy) → AreCopies file (map seen (logs ++ log ∷ [])) after
copied_on seen file logs copies after log copy is are holds =
    subst (λ (cs : List _). AreCopies file (map seen (logs ++ log ∷ [])) cs) (sym is) (go logs copies are)
  where
    go : (ds : List _) (cs : List _) → AreCopies file (map seen ds) cs → AreCopies file (map seen (ds ++ log ∷ [])) (cs ++ copy ∷ [])
    go [] [] so = (holds, tt)
    go (d ∷ ds) (c ∷ cs) so = (so.0, go ds cs so.1)
    go [] (c ∷ cs) so = absurd so
    go (d ∷ ds) [] so = absurd so

-- as many
pub as_many : {D E : Type 0} (logs : List D) (copies after : List E) (log : D) (copy : E) → after ≡ copies ++ copy ∷ [] → length copies ≡ length logs
    → length after ≡ length (logs ++ log ∷ [])
as_many logs copies after log copy is same = omega (arith, ap (λ (xs : List _). length xs) is, same, length-append copies (copy ∷ []), length-append logs (log ∷ []))

-- ---- logs that were read

abbrev Read : Type 0
Read = Result (List Record) Fault

abbrev read : List Record → Read
read records = Ok records

abbrev is_none : List Read → Bool
is_none [] = true
is_none (r ∷ rs) = false

abbrev first_of : List Read → Read → Read
first_of [] other = other
first_of (r ∷ rs) other = r

abbrev rest_of : List Read → List Read
rest_of [] = []
rest_of (r ∷ rs) = rs

abbrev records_of : Read → List Record
records_of (Ok records) = records
records_of (Err fault) = []

-- each disk holds a log
all_held : {D : Type 0} (seen : D → List ℕ) (disks : List D) (logs : List (List Record)) → HaveLogs seen disks logs
    → list_all (λ disk. is_ok (records_held (seen disk))) disks ≡ true
all_held seen [] logs have = refl
all_held seen (d ∷ disks) [] have = absurd (true≢false (sym (ap is_none have)))
all_held seen (d ∷ disks) (log ∷ logs) have =
    let its : records_held (seen d) ≡ read log = ap (λ rs. first_of rs (read [])) have in
    ap (λ (r : Read). is_ok r && list_all (λ disk. is_ok (records_held (seen disk))) disks) its ∙ all_held seen disks logs (ap rest_of have)

all_read : (logs : List (List Record)) → map records_of (map read logs) ≡ logs
all_read [] = refl
all_read (log ∷ logs) = ap (λ ls. log ∷ ls) (all_read logs)

-- what the disks hold is one list of logs
only_logs : {D : Type 0} (seen : D → List ℕ) (disks : List D) (logs others : List (List Record)) → HaveLogs seen disks logs → HaveLogs seen disks others
    → logs ≡ others
only_logs seen disks logs others have has =
    sym (all_read logs) ∙ ap (λ rs. map records_of rs) (sym have ∙ has) ∙ all_read others

-- logs over which each transaction is whole that none of them retired
pub whole_by : {D : Type 0} (seen : D → List ℕ) (disks : List D) (logs : List (List Record)) → HaveLogs seen disks logs
    → ((t : Id) → IsTrue (is_kept (retired_in logs) t) → IsTrue (is_whole t logs)) → AreWhole seen disks
whole_by seen disks logs have each = record {
  held = all_held seen disks logs have;
  whole = λ others has t. subst (λ (ls : List (List Record)). IsTrue (is_kept (retired_in ls) t) → IsTrue (is_whole t ls))
      (only_logs seen disks logs others have has) (each t);
}
