-- A step that is staged: all the memory for it is taken, in the state and in the log, and nothing is written.
use Rattle.std.specs.Prelude.{◌≡◌, ℕ, ◌+◌, ◌≤◌, ◌^◌, Bool, true, false, IsFalse, length, List, Option, Some, None}
use Rattle.std.specs.Option.{option_map}
use Rattle.units.specs.Ids.{Id}
use Rattle.disk.specs.File.{File, surface}
use Rattle.disk.specs.Image.{MayLeave}
use Rattle.disk.specs.Moments.{LeavesOnly}
use Rattle.disk.specs.declared.plan.FailurePlan.{FailurePlan}
use Rattle.gatelog.specs.Frames.{next_gate, staged_bytes}
use Rattle.frames.specs.Placed.{Placed}
use Rattle.protocol.specs.Plan.{carried}
use Rattle.protocol.specs.Rows.{Memory, without_row}
use Rattle.protocol.specs.Showable.{IsShowable}
use Rattle.protocol.specs.Sound.{IsSound}
use Rattle.protocol.specs.Step.{Stepped, Does}
use Rattle.memory.specs.Carry.{Admits, HasMemoryFor, MayUndo, asker}
use Rattle.memory.specs.Kept.{Kept}
use Rattle.memory.specs.Plans.{plan_of}
use Rattle.memory.specs.declared.plan.Step.{Step}
use Rattle.shard.specs.Armed.{HasPlace}
use Rattle.shard.specs.Due.{IsDue}
use Rattle.shard.specs.Logs.{records_in, KeepsRecords}
use Rattle.shard.specs.On.{CoreView}
use Rattle.shard.specs.declared.staging.StagedStep.{StagedStep}

-- what a step does to a memory
abbrev pub does : Step → Memory → Stepped
does s m = Does s.logged (carried (plan_of m.rows s) m) s.plan.outbox

-- the step that is staged
abbrev pub step_staged : StagedStep → Step
step_staged s = record { plan = s.plan; logged = option_map (λ e. e.item) s.frame }

-- a memory without the row of who asks for locks, where that one was taken in
abbrev pub without_entrant : Memory → Option Id → Bool → Memory
without_entrant m None taken = m
without_entrant m (Some t) false = m
without_entrant m (Some t) true = record m { rows = without_row m.rows t }

-- what is kept in memory, without what was taken in for the step
abbrev pub unstaged : Kept → StagedStep → Kept
unstaged k s = record k { memory = without_entrant k.memory (asker s.plan.change) s.ready.admitted }

-- the same of what a contract sees
abbrev pub seen_unstaged : {D : Type 0} → CoreView D → StagedStep → CoreView D
seen_unstaged core s = record core { memory = without_entrant core.memory (asker s.plan.change) s.ready.admitted }

-- the record, where there is one, is to stand where the log ends, which has the room for it, and so has the disk
abbrev pub IsPlaced : Type 0 → (ℕ → ℕ → Type 0) → ℕ → Option Placed → Type 0
IsPlaced obeys room gate None = Unit {0}
IsPlaced obeys room gate (Some e) =
    (e.offset ≡ gate) × HasPlace gate (Some e.item) × (next_gate gate e.item ≤ gate + 2 ^ 20 + 5)
    × (obeys → room 4 (length (staged_bytes e.item) + 1))

module _ {D : Type 0} (keeps obeys : Type 0) (file : D → File) (has_room : D → ℕ → ℕ → Type 0) where
  -- a step may be committed: without what was taken in for it the shard is sound, and the step is due then; all memory is there; and the
  -- record has its place in a log that stands
  pub record IsReady (core : CoreView D) (k : Kept) (s : StagedStep) : Type 0 where
    pub running : IsFalse core.stopped
    pub stands : keeps → KeepsRecords (surface (file core.disk)) (records_in (surface (file core.disk)).seen)
    pub due : IsDue (unstaged k s) (step_staged s)
    pub memory : HasMemoryFor (unstaged k s) k s.plan
    pub admits : Admits (unstaged k s).memory.rows (asker s.plan.change) s.ready.admitted
    pub may_undo : MayUndo k.memory.rows (asker s.plan.change) s.ready.admitted
    pub sound : ∥ IsSound k.setup.shard k.facts (unstaged k s).memory ∥₁
    pub showable : IsShowable k.facts (unstaged k s).memory
    pub placed : IsPlaced obeys (has_room core.disk) core.gate s.frame

  -- a step was staged: it may be committed, and without what was taken in for it all is as it was
  pub record IsStaged (clock : D → ℕ) (since : D → ℕ → List ℕ → Type 0) (failures : D → ℕ) (plan : D → FailurePlan)
      (old new : CoreView D) (k : Kept) (step : Step) (s : StagedStep) : Type 0 where
    pub step_is : step_staged s ≡ step
    pub ready : IsReady new k s
    pub same : seen_unstaged new s ≡ record old { disk = new.disk }
    pub file_same : file new.disk ≡ file old.disk
    pub plan_same : plan new.disk ≡ plan old.disk
    pub failures_stay : failures old.disk ≤ failures new.disk
    pub time : LeavesOnly clock since old.disk new.disk (MayLeave (surface (file old.disk)))
