-- What a crash leaves of a turnover, in each of its device calls.
use Rattle.std.specs.Prelude.{◌≡◌, ◌⊎◌, ◌≢◌, ℕ, ◌+◌, ◌<◌, ◌≤◌, ◌^◌, List, [], ◌∷◌, length, get_or, Ok}
use Rattle.std.specs.List.{AllByRecursion}
use Rattle.disk.specs.Image.{Surface, MayLeave, IsSynced, tried_write, after_write, after_sync}
use Rattle.record.specs.declared.record.Record.{Record}
use Rattle.spelling.specs.Limits.{IsRecord}
use Rattle.frames.specs.Placed.{Placed}
use Rattle.frames.specs.Gate.{open_gate}
use Rattle.gatelog.specs.Log.{scan}
use Rattle.gatelog.specs.Areas.{area_bytes, placed_from}
use Rattle.gatelog.specs.Slots.{Beginning, begins_in, slot_at, slot_count, offset_bytes}

-- the first slots of a file are open, and the next one is closed
pub record IsNext (image : List ℕ) (slot : ℕ) : Type 0 where
  pub within : slot < slot_count
  pub former : (i : ℕ) → i < slot → get_or image (slot_at i) 0 ≡ open_gate
  pub shut : get_or image (slot_at slot) 0 ≢ open_gate

-- the new area behind the closed gate
abbrev pub with_area : ℕ → List Record → Surface → Surface
with_area gate items file = after_write (gate + 1) (area_bytes items) file

-- and its offset in the slot
abbrev pub with_offset : ℕ → ℕ → List Record → Surface → Surface
with_offset slot gate items file = after_write (slot_at slot + 1) (offset_bytes (gate + 1)) (with_area gate items file)

-- both are synced
abbrev pub prepared : ℕ → ℕ → List Record → Surface → Surface
prepared slot gate items file = after_sync (with_offset slot gate items file)

-- the slot is open
abbrev pub named_new : ℕ → ℕ → List Record → Surface → Surface
named_new slot gate items file = after_write (slot_at slot) (open_gate ∷ []) (prepared slot gate items file)

-- an image has these entries up to this gate, and begins there
pub record IsLogFrom (beginning : Beginning) (found : List Placed × ℕ) (image : List ℕ) : Type 0 where
  pub read : scan image ≡ Ok found
  pub begins : begins_in image ≡ beginning

-- What a crash leaves in each of the five calls, and what it leaves behind them: of the calls, counted from 0, the first writes
-- the area, then come its offset, a sync, the slot's gate, and a sync.
pub record IsTurnover (file : Surface) (es : List Placed) (gate slot : ℕ) (items : List Record) : Type 0 where
  pub call_0 : (image : List ℕ) → MayLeave (tried_write (gate + 1) (length (area_bytes items)) file) image →
      IsLogFrom (begins_in file.seen) (es, gate) image
  pub call_1 : (image : List ℕ) → MayLeave (tried_write (slot_at slot + 1) 8 (with_area gate items file)) image →
      IsLogFrom (begins_in file.seen) (es, gate) image
  pub call_2 : (image : List ℕ) → MayLeave (with_offset slot gate items file) image → IsLogFrom (begins_in file.seen) (es, gate) image
  pub call_3 : (image : List ℕ) → MayLeave (tried_write (slot_at slot) 1 (prepared slot gate items file)) image →
      IsLogFrom (begins_in file.seen) (es, gate) image ⊎ IsLogFrom (record { at = gate + 1; slots = slot + 1 }) (placed_from (gate + 1) items) image
  pub call_4 : (image : List ℕ) → MayLeave (named_new slot gate items file) image →
      IsLogFrom (begins_in file.seen) (es, gate) image ⊎ IsLogFrom (record { at = gate + 1; slots = slot + 1 }) (placed_from (gate + 1) items) image
  pub done : (image : List ℕ) → MayLeave (after_sync (named_new slot gate items file)) image →
      IsLogFrom (record { at = gate + 1; slots = slot + 1 }) (placed_from (gate + 1) items) image

-- a file that has a log, is synced and has a slot left
pub record MayTurn (file : Surface) (es : List Placed) (gate slot : ℕ) (items : List Record) : Type 0 where
  pub synced : IsSynced file
  pub found : scan file.seen ≡ Ok (es, gate)
  pub next : IsNext file.seen slot
  pub items_fit : AllByRecursion IsRecord items
  pub offset_fits : gate + 1 < 2 ^ 64

-- the same, or there is no next one, since all are open
pub record IsNextOrNone (image : List ℕ) (slot : ℕ) : Type 0 where
  pub within : slot ≤ slot_count
  pub former : (i : ℕ) → i < slot → get_or image (slot_at i) 0 ≡ open_gate
  pub shut : slot < slot_count → get_or image (slot_at slot) 0 ≢ open_gate

-- an area that is to stand behind a closed gate, and to be named by a slot
pub record NewArea : Type 0 where
  pub gate : ℕ
  pub slot : ℕ
  pub items : List Record
