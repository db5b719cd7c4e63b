-- What a turnover and an append leave, said at one place.
use Rattle.std.specs.Prelude.{◌≡◌, ℕ, suc, ◌+◌, ◌≤◌, nat_lt, List, [], length, Ok}
use Rattle.disk.specs.declared.plan.FailurePlan.TheVariants.{AfterWrite}
use Rattle.disk.specs.Image.{Surface, with_bytes}
use Rattle.disk.specs.File.{File, surface}
use Rattle.record.specs.declared.record.Record.{Record}
use Rattle.gatelog.specs.ArmedTurn.{fails_in_turnover, turned, IsArmedTurn}
use Rattle.gatelog.specs.Areas.{fresh_with, placed_from}
use Rattle.gatelog.specs.Gates.{first_gate}
use Rattle.gatelog.specs.Log.{scan}
use Rattle.frames.specs.Placed.{Placed}
use Rattle.gatelog.specs.Slots.{begins_in}
use Rattle.gatelog.specs.Turns.{MayTurn, IsTurnover, IsNext, IsNextOrNone, named_new}

abbrev pub TurnoverKeeps : Type 0
TurnoverKeeps =
    (file : Surface) (es : List Placed) (gate slot : ℕ) (items : List Record) → MayTurn file es gate slot items →
    IsTurnover file es gate slot items

-- the calls below number 5 are its own, and of each there is what it leaves where it fails
abbrev pub FailingCalls : Type 0
FailingCalls =
    (file : File) (es : List Placed) (gate slot : ℕ) (items : List Record) → MayTurn (surface file) es gate slot items → (call : ℕ) →
    (fails_in_turnover (AfterWrite call) ≡ nat_lt call 5)
    × IsArmedTurn call (Ok (es, gate)) (Ok (placed_from (gate + 1) items)) (begins_in (surface file).seen) (record { at = gate + 1; slots = slot + 1 })
    (turned (AfterWrite call) slot gate items file)

-- behind an append the next slot is the same, and behind a turnover it is the one after it
abbrev pub NextStays : Type 0
NextStays =
    (image : List ℕ) (es : List Placed) (gate slot at : ℕ) (bytes : List ℕ) → scan image ≡ Ok (es, gate) → gate ≤ at → at ≤ length image →
    IsNextOrNone image slot → IsNextOrNone (with_bytes at bytes image) slot

abbrev pub NextGoesOn : Type 0
NextGoesOn =
    (file : Surface) (es : List Placed) (gate slot : ℕ) (items : List Record) → MayTurn file es gate slot items →
    IsNextOrNone (named_new slot gate items file).seen (suc slot)

-- a fresh file has no record, and its first slot is the next one
abbrev pub FreshHasNext : Type 0
FreshHasNext = (scan (fresh_with []) ≡ Ok ([], first_gate)) × IsNext (fresh_with []) 0
