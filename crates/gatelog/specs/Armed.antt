-- What an append does where a call of the disk is to fail, in terms of the log.
use Rattle.std.specs.Prelude.{◌≡◌, ℕ, Bool, true, false, List, get_or, Result}
use Rattle.units.specs.declared.fault.Fault.{Fault}
use Rattle.disk.specs.declared.plan.Fate.{Fate}
use Rattle.disk.specs.declared.plan.Fate.TheVariants.{Old}
use Rattle.disk.specs.File.{File, surface, crash_leaves}
use Rattle.frames.specs.Placed.{Placed}
use Rattle.gatelog.specs.Gates.{is_left, is_read}
use Rattle.gatelog.specs.Log.{log, and_entry}

-- a log, with the entry where a test holds
abbrev pub with_if : Bool → Result (List Placed) Fault → Placed → Result (List Placed) Fault
with_if true entries entry = and_entry entries entry
with_if false entries entry = entries

-- The log behind an append whose call of this number fails (behind a whole one from number 4 on): as it is read, and as a
-- crash leaves it.
pub record IsArmed (call : ℕ) (entries : Result (List Placed) Fault) (entry : Placed) (file : File) : Type 0 where
  pub read : log (surface file).seen ≡ with_if (is_read call) entries entry
  pub left : (fates : List Fate) → log (crash_leaves fates file) ≡ with_if (is_left call (get_or fates 0 Old)) entries entry
