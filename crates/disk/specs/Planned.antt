-- Which calls fail by a plan, and the plan behind each call.
use Rattle.std.specs.Prelude.{ℕ, ◌-◌, Bool, true, false, ◌==◌, if◌then◌else◌, Option, Some, None, Result, IsOk, IsErr}
use Rattle.disk.specs.declared.plan.FailurePlan.{FailurePlan}
use Rattle.disk.specs.declared.plan.FailurePlan.TheVariants.{Never, After, AfterWrite}

-- a call that is made now fails
abbrev pub fails : FailurePlan → Bool
fails Never = false
fails (After calls) = calls == 0
fails (AfterWrite calls) = false

-- the plan behind a call
abbrev pub next : FailurePlan → FailurePlan
next Never = Never
next (After calls) = if calls == 0 then Never else After (calls - 1)
next (AfterWrite calls) = AfterWrite calls

-- a write begins: what is counted from a write is counted from now
abbrev pub at_write : FailurePlan → FailurePlan
at_write Never = Never
at_write (After calls) = After calls
at_write (AfterWrite calls) = After calls

-- the plan that `arm` makes: none, or the call so many calls after the next write
abbrev pub armed : Option ℕ → FailurePlan
armed None = Never
armed (Some calls) = AfterWrite calls

-- the call fails just where it is said to
abbrev pub IsAsPlanned : {T E : Type 0} → Bool → Result T E → Type 0
IsAsPlanned true result = IsErr result
IsAsPlanned false result = IsOk result
