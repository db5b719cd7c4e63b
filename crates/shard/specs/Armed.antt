-- What a device call that is to fail leaves of a shard's records.
use Rattle.std.specs.Prelude.{◌≡◌, ℕ, ◌+◌, ◌^◌, ◌≤◌, nat_lt, IsTrue, IsFalse, Bool, true, false, List, get_or, Option, Some, None, Result}
use Rattle.units.specs.declared.fault.Fault.{Fault}
use Rattle.units.specs.declared.fault.Fault.TheVariants.{Device}
use Rattle.disk.specs.declared.plan.Fate.{Fate}
use Rattle.disk.specs.declared.plan.Fate.TheVariants.{Old}
use Rattle.disk.specs.File.{File, surface, crash_leaves}
use Rattle.gatelog.specs.Frames.{next_gate}
use Rattle.gatelog.specs.Gates.{is_read, is_left}
use Rattle.record.specs.declared.record.Record.{Record}
use Rattle.shard.specs.Logs.{records_in, and_logged}

-- some records, with one more where a test holds
abbrev pub records_with_if : Bool → Result (List Record) Fault → Record → Result (List Record) Fault
records_with_if true records r = and_logged records (Some r)
records_with_if false records r = records

-- The records behind an append of this one whose call of this number fails: as a read gives them, and as a crash leaves them.
pub record AreArmed (call : ℕ) (records : Result (List Record) Fault) (r : Record) (file : File) : Type 0 where
  pub read : records_in (surface file).seen ≡ records_with_if (is_read call) records r
  pub left : (fates : List Fate) → records_in (crash_leaves fates file) ≡ records_with_if (is_left call (get_or fates 0 Old)) records r

-- the log has room for the record, where there is one, and for the closed gate behind it
abbrev pub HasPlace : ℕ → Option Record → Type 0
HasPlace gate None = Unit {0}
HasPlace gate (Some r) = next_gate gate r + 1 ≤ 2 ^ 40

-- What a call that is armed, by its number from 0, does to a call that logs a record, or nothing. It is one of the four of
-- an append, which then fails in it, and for which the log had room; or it does not come.
abbrev pub FailsIn : ℕ → ℕ → Result (List Record) Fault → Option Record → File → Fault → Type 0
FailsIn call gate records None file fault = fault ≡ Device → ⊥
FailsIn call gate records (Some r) file fault =
    fault ≡ Device → IsTrue (nat_lt call 4) × HasPlace gate (Some r) × AreArmed call records r file

-- it is done with that call armed: no append was made, or the call is none of its four
abbrev pub GoesPast : ℕ → Option Record → Type 0
GoesPast call None = Unit {0}
GoesPast call (Some r) = IsFalse (nat_lt call 4)
