-- What a step logs fits beside what the log holds.
use Rattle.std.specs.Prelude.{◌≡◌, ◌≤◌, IsTrue, List, length, Some, Ok}
use Rattle.units.specs.Limits.{most_rows}
use Rattle.units.specs.declared.setup.Setup.{Setup}
use Rattle.truetime.specs.Interval.{Interval}
use Rattle.record.specs.Accepted.{fits_beside}
use Rattle.record.specs.Facts.{facts_of}
use Rattle.record.specs.declared.record.Record.{Record}
use Rattle.message.specs.declared.message.Input.{Input}
use Rattle.protocol.specs.Rows.{Memory}
use Rattle.protocol.specs.Plan.{Plan, start_of_step}
use Rattle.protocol.specs.Step.{plan_input}
use Rattle.protocol.specs.Sound.{IsSound}

-- there is room for the row of a promise or a decision, its locks are in nobody's way, and what it writes or installs is
-- above the versions of its keys
abbrev pub LoggedFitsBeside : Type 0
LoggedFitsBeside =
    (setup : Setup) (log : List Record) (memory : Memory) (now : Interval) (i : Input) (p : Plan) (r : Record) →
    IsSound setup.shard (facts_of log) memory → length memory.rows ≤ most_rows →
    plan_input setup (start_of_step most_rows setup (facts_of log) memory) now i ≡ Ok p → p.logged ≡ Some r → IsTrue (fits_beside log r)
