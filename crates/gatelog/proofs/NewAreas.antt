-- A new area in the place of a log.
use Rattle.std.proofs.Common.{◌≡◌, ◌⊎◌, inl, inr, ℕ, false, leb, ◌+◌, ◌<◌, List, [], ◌∷◌, length, flat_map, Ok, sym, ap, ◌∙◌, arith}
use Rattle.std.proofs.lemmas.List.{length-append}
use Rattle.std.proofs.lemmas.Bool.Decides.{nat_tests}
use Rattle.record.specs.declared.record.Record.{Record}
use Rattle.gatelog.specs.Crash.{IsOldOrNew}
use Rattle.gatelog.specs.Frames.{end_from}
use Rattle.gatelog.specs.Areas.{whole_frame, placed_from}
use Rattle.gatelog.specs.Log.{scan, entries_of}
use Rattle.frames.specs.Placed.{Placed}
use Rattle.gatelog.specs.Slots.{begins_in}
use Rattle.gatelog.specs.Turns.{IsLogFrom}
use Rattle.gatelog.proofs.Fresh.{area-size}

-- how far it reaches
pub frames-size : (items : List Record) (at : ℕ) → at + length (flat_map whole_frame items) ≡ end_from at items
frames-size items at = omega (arith, area-size items at, length-append (flat_map whole_frame items) (0 ∷ []))

pub over : (a b : ℕ) → leb a b ≡ false → b < a
over a b h = grind (arith, nat_tests)

pub old-or-new : (old image : List ℕ) (es : List Placed) (gate slot : ℕ) (items : List Record) → scan old ≡ Ok (es, gate)
    → IsLogFrom (begins_in old) (es, gate) image ⊎ IsLogFrom (record { at = gate + 1; slots = slot + 1 }) (placed_from (gate + 1) items) image
    → IsOldOrNew old gate slot items image
old-or-new old image es gate slot items was (inl same) = inl (ap entries_of (same.read ∙ sym was), same.begins)
old-or-new old image es gate slot items was (inr new) = inr (ap entries_of new.read, new.begins)
