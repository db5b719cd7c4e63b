-- The rows of a shard speak of its own keys alone, and so does what it logs.
use Rattle.std.specs.List.{list_all}
use Rattle.std.specs.Prelude.{ℕ, ◌≡◌, Bool, true, IsTrue, List, Some, Ok}
use Rattle.units.specs.declared.setup.Setup.{Setup}
use Rattle.truetime.specs.Interval.{Interval}
use Rattle.record.specs.Accepted.{belongs, keys_belong}
use Rattle.record.specs.Facts.{Facts}
use Rattle.record.specs.declared.record.Record.{Record}
use Rattle.message.specs.declared.message.Input.{Input}
use Rattle.protocol.specs.Rows.{Memory, Row, Phase, WaitsPrepare, WaitsCommit, Collecting}
use Rattle.protocol.specs.Plan.{Plan, start_of_step, carried}
use Rattle.protocol.specs.Step.{plan_input}

-- the keys of the prepare or the commit that a row waits with or collects for are of this shard
abbrev pub names_own : Setup → Phase → Bool
names_own setup (WaitsPrepare c rs ws) = keys_belong setup rs ws
names_own setup (WaitsCommit l ps rs ws) = keys_belong setup rs ws
names_own setup (Collecting l ps rs ws votes) = keys_belong setup rs ws
names_own setup _ = true

-- so of each row
abbrev pub all_own : Setup → List Row → Bool
all_own setup rows = list_all (λ r. names_own setup r.phase) rows

-- a step keeps it
abbrev pub StepKeepsOwn : Type 0
StepKeepsOwn =
    (rows : ℕ) (setup : Setup) (facts : Facts) (memory : Memory) (now : Interval) (i : Input) (p : Plan) →
    IsTrue (all_own setup memory.rows) → plan_input setup (start_of_step rows setup facts memory) now i ≡ Ok p →
    IsTrue (all_own setup (carried p memory).rows)

-- what a step logs names keys of the shard alone
abbrev pub LoggedBelongs : Type 0
LoggedBelongs =
    (rows : ℕ) (setup : Setup) (facts : Facts) (memory : Memory) (now : Interval) (i : Input) (p : Plan) (r : Record) →
    IsTrue (all_own setup memory.rows) → plan_input setup (start_of_step rows setup facts memory) now i ≡ Ok p → p.logged ≡ Some r →
    IsTrue (belongs setup r)
