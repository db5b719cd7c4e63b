-- Records that join a log together, and what a crash may leave of that.
use Rattle.std.specs.Prelude.{◌≡◌, ◌⊎◌, ℕ, zero, suc, set, List, [], ◌∷◌, ◌++◌, Result, Ok, Err}
use Rattle.units.specs.declared.fault.Fault.{Fault}
use Rattle.record.specs.declared.record.Record.{Record}
use Rattle.frames.specs.Placed.{Placed}
use Rattle.frames.specs.Gate.{open_gate}
use Rattle.gatelog.specs.Frames.{behind_gate}
use Rattle.gatelog.specs.Areas.{area_bytes, placed_from}
use Rattle.gatelog.specs.Log.{log}

-- records, and the closed gate behind which they are to stand
pub record Group : Type 0 where
  pub gate : ℕ
  pub items : List Record

-- What an append of them writes behind the closed gate: their frames, with the gates of all but the first open, and a closed gate. Of
-- one record it is what an append of that writes; of none, nothing.
abbrev pub group_bytes : List Record → List ℕ
group_bytes [] = []
group_bytes (r ∷ rs) = behind_gate r ++ area_bytes rs

-- their entries
abbrev pub joined : Group → List Placed
joined group = (placed_from group.gate group.items).0

-- a log with these entries more
abbrev pub and_entries : Result (List Placed) Fault → List Placed → Result (List Placed) Fault
and_entries (Ok entries) more = Ok (entries ++ more)
and_entries (Err fault) more = Err fault

-- the image has the old log, or the old log with all of these entries
abbrev pub IsOldOrWithAll : Result (List Placed) Fault → List Placed → List ℕ → Type 0
IsOldOrWithAll entries more image = (log image ≡ entries) ⊎ (log image ≡ and_entries entries more)

-- the gate before a place, where there is one, opens
abbrev pub opened_before : ℕ → List ℕ → List ℕ
opened_before zero bytes = bytes
opened_before (suc n) bytes = set bytes n open_gate
