-- What contracts see of a shard's memory.
use Rattle.std.specs.Prelude.{◌≡◌, ℕ, List, Result, Ok, Err, MatchResult}
use Rattle.units.specs.Limits.{most_rows}
use Rattle.units.specs.declared.fault.Fault.{Fault}
use Rattle.units.specs.declared.setup.Setup.{Setup}
use Rattle.record.specs.Facts.{Facts}
use Rattle.facts.specs.declared.stage.Stage.{Stage}
use Rattle.rows.specs.Table.{Token}
use Rattle.protocol.specs.Rows.{Memory}
use Rattle.protocol.specs.Plan as protocol
use Rattle.memory.specs.Plans.{plan_of}
use Rattle.memory.specs.declared.plan.Step.{Step}

-- what a shard was told, the facts of its log, where in that one is, and the rest; and for what it has memory: to learn so many records, to end so
-- many transactions, and to grant each transaction what its token has room for
pub record Kept : Type 0 where
  pub setup : Setup
  pub facts : Facts
  pub stage : Stage
  pub memory : Memory
  pub records : ℕ
  pub ends : ℕ
  pub tokens : List Token

-- where its next step starts. Its table holds 1,024 rows
abbrev pub start_of : Kept → protocol.Before
start_of k = protocol.start_of_step most_rows k.setup k.facts k.memory

-- the plan's own refusal; or, where there is a plan, want of memory
abbrev pub IsRefusal : protocol.Planned → Fault → Type 0
IsRefusal (Err why) fault = fault ≡ why
IsRefusal (Ok p) fault = fault ≡ Fault.Memory

-- what a planner answers: the plan of the definitions, or why there is none
abbrev pub IsPlanned : Kept → protocol.Planned → Result Step Fault → Type 0
IsPlanned k planned result =
    MatchResult result (λ step. planned ≡ Ok (plan_of k.memory.rows step)) (IsRefusal planned)
