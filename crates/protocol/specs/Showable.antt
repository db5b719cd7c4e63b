-- What holds of a running shard beside its soundness, so that its versions may be put on a board; what a step does to it, and
-- that an opening finds it.
use Rattle.std.specs.Prelude.{◌≡◌, ◌≤◌, ℕ, Bool, true, ◌&&◌, IsTrue, nat_lt, List, [], ◌∷◌, Option, Some, Ok}
use Rattle.units.specs.Keys.{write_before}
use Rattle.std.specs.List.{list_all}
use Rattle.units.specs.Lists.{ascends}
use Rattle.units.specs.Versions.{of_key}
use Rattle.units.specs.declared.setup.Setup.{Setup}
use Rattle.units.specs.declared.writes.Install.{Install}
use Rattle.units.specs.declared.writes.Write.{Write}
use Rattle.truetime.specs.Interval.{Interval}
use Rattle.record.specs.Accepted.{Accepted, taken}
use Rattle.record.specs.Facts.{Facts, facts_of, recorded, installs_at}
use Rattle.record.specs.declared.record.Record.{Record}
use Rattle.message.specs.declared.message.Input.{Input}
use Rattle.message.specs.declared.message.Message.{Message}
use Rattle.protocol.specs.Rows.{Memory, Phase, WaitsPrepare, WaitsCommit, Collecting, rebuilt, safe}
use Rattle.protocol.specs.Plan.{Plan, start_of_step, carried}
use Rattle.protocol.specs.Sound.{IsSound, writes_standing}
use Rattle.protocol.specs.Step.{facts_after, plan_input, IsInLimit}

-- each version is above its key's earlier ones, some of which come before the list
unfoldable pub rises_by_key : List Install → List Install → Bool
rises_by_key before [] = true
rises_by_key before (i ∷ is) = list_all (λ j. nat_lt j.at i.at) (of_key before i.key) && rises_by_key (i ∷ before) is

-- what a row without a record is to write
abbrev pub writes_in : Phase → List Write
writes_in (WaitsPrepare c rs ws) = ws
writes_in (WaitsCommit l ps rs ws) = ws
writes_in (Collecting l ps rs ws votes) = ws
writes_in _ = []

-- each key that is written once stands once, in the records and in the rows, and each version is above its key's earlier ones
pub record IsShowable (facts : Facts) (memory : Memory) : Type 0 where
  pub entries : IsTrue (list_all (λ e. ascends write_before (writes_standing e.status)) facts.entries)
  pub rows : IsTrue (list_all (λ r. ascends write_before (writes_in r.phase)) memory.rows)
  pub installs : IsTrue (rises_by_key [] facts.installs)

-- the writes that an input brings ascend by key
abbrev pub WritesAscend : Input → Type 0
WritesAscend (Input.Deliver (Message.Prepare p)) = IsTrue (ascends write_before p.writes)
WritesAscend (Input.Deliver (Message.Commit c)) = IsTrue (ascends write_before c.writes)
WritesAscend _ = Unit {0}

-- what is installed by a record that is logged
abbrev pub added : Facts → Option Record → List Install
added facts (Some (Record.Outcome t outcome)) = installs_at (recorded facts t) outcome
added facts (Some (Record.Version install)) = install ∷ []
added facts _ = []

-- What a step leaves of it. The served time does not fall, and what is installed is above it, and above its key's earlier versions.
pub record KeepsShowable (facts : Facts) (memory : Memory) (logged : Option Record) (memory' : Memory) : Type 0 where
  pub rises : safe memory ≤ safe memory'
  pub orderly : IsShowable (facts_after facts logged) memory'
  pub above : IsTrue (list_all (λ i. nat_lt (safe memory) i.at) (added facts logged))
  pub order : IsTrue (rises_by_key facts.installs (added facts logged))

-- each step does
abbrev pub StepKeepsShowable : Type 0
StepKeepsShowable =
    (rows : ℕ) (setup : Setup) (facts : Facts) (memory : Memory) (now : Interval) (i : Input) (p : Plan) → IsInLimit i → WritesAscend i
    → IsSound setup.shard facts memory → IsShowable facts memory → plan_input setup (start_of_step rows setup facts memory) now i ≡ Ok p
    → KeepsShowable facts memory p.logged (carried p memory)

-- so is a shard that starts with one opening in its log and nothing in memory
abbrev pub FreshIsShowable : Type 0
FreshIsShowable = IsShowable (facts_of (Record.Opened 1 ∷ [])) (record { last = 0; rows = []; ended = [] })

-- the writes of a promise or a decision ascend by key
abbrev pub record_ascends : Record → Bool
record_ascends (Record.Prepare p) = ascends write_before p.writes
record_ascends (Record.Commit c) = ascends write_before c.writes
record_ascends _ = true

-- so is what a log leaves of its shard, if the log is taken
abbrev pub TakenIsShowable : Type 0
TakenIsShowable =
    (setup : Setup) (log : List Record) → taken setup log ≡ Accepted → IsTrue (list_all record_ascends log) →
    IsShowable (facts_of log) (rebuilt (facts_of log))
