-- Why a transaction goes no further at its client.
use Rattle.std.specs.Prelude.{◌≡◌, ◌⊎◌, Bool, true, false, cond, IsTrue, Result, Ok, Err}
use Rattle.units.specs.Ids.{Id, same_id}
use Rattle.units.specs.declared.fault.Fault.{Fault}
use Rattle.units.specs.declared.fault.Fault.TheVariants.{BadRequest, Memory}
use Rattle.units.specs.declared.fault.Reason.{Reason}
use Rattle.units.specs.declared.fault.Reason.TheVariants.{Many, Nothing, Again, Awaited, Doomed}
use Rattle.letters.specs.declared.letter.Refused.{Refused}
use Rattle.client.specs.declared.ended.Halt.{Halt}
use Rattle.client.specs.declared.ended.Halt.TheVariants as halt

-- the reasons for which a session refuses a step
abbrev pub is_step_reason : Reason → Bool
is_step_reason Many = true
is_step_reason Nothing = true
is_step_reason Again = true
is_step_reason Awaited = true
is_step_reason Doomed = true
is_step_reason _ = false

-- memory is wanting, or a session refuses a step
abbrev pub IsStepFault : Fault → Type 0
IsStepFault fault = (fault ≡ Memory) ⊎ ((why : Reason) × (fault ≡ BadRequest why) × IsTrue (is_step_reason why))

-- what ends the code of a transaction by its steps: it is to be run again, or a step was refused
abbrev pub IsStepHalt : Halt → Type 0
IsStepHalt halt.Again = Unit {0}
IsStepHalt halt.Abandon = ⊥
IsStepHalt (halt.Refused fault) = IsStepFault fault
IsStepHalt (halt.Unserved shard fault) = ⊥

-- what ends the code of a transaction that reads: such a step, or that a shard has refused a letter of it
abbrev pub IsReadHalt : Halt → Type 0
IsReadHalt halt.Again = Unit {0}
IsReadHalt halt.Abandon = ⊥
IsReadHalt (halt.Refused fault) = IsStepFault fault
IsReadHalt (halt.Unserved shard fault) = Unit {0}

-- what it comes to for the code of a transaction that a letter was refused: where it was the transaction's, the code goes no further
abbrev pub unserved : Id → Refused → Result (Unit {0}) Halt
unserved txn refused = cond (same_id txn refused.txn) (Err (halt.Unserved refused.shard refused.fault)) (Ok tt)
