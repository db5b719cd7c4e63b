-- What a plan needs of the state that it is carried out in, and what is made ready for it.
use Rattle.std.specs.Prelude.{◌≡◌, ◌≤◌, ◌<◌, ◌+◌, ℕ, Bool, true, false, nat_lt, List, [], Option, Some, None, length}
use Rattle.units.specs.Limits.{most_rows}
use Rattle.units.specs.ById.{IsById}
use Rattle.units.specs.Ids.{Id}
use Rattle.units.specs.Locks.{is_free, wounded}
use Rattle.units.specs.declared.lock.Lock.{Lock}
use Rattle.record.specs.Facts.{Facts}
use Rattle.record.specs.declared.record.Record.{Record}
use Rattle.facts.specs.Rules.{follows_facts}
use Rattle.facts.specs.Stages.{stage_after}
use Rattle.facts.specs.declared.stage.Stage.{Stage}
use Rattle.protocol.specs.Rows.{Row, Memory, Idle, claims, find_row, needs_of, held_in, without_rows}
use Rattle.protocol.specs.Plan.{carried}
use Rattle.rows.specs.CodeRows.{is_reading, is_collecting, is_idle, may_decide, may_abort, may_close, phase_of_wait}
use Rattle.rows.specs.RowTable.{RowTable, put_row, has_phase, room}
use Rattle.memory.specs.Kept.{Kept}
use Rattle.ledger.specs.Ledger.{CanInstall}
use Rattle.memory.specs.Plans.{plan_of}
use Rattle.memory.specs.declared.plan.Plan.{Plan}
use Rattle.memory.specs.declared.plan.Step.{Step}
use Rattle.memory.specs.declared.plan.Change.{Change}

-- a transaction may ask for locks: it reads, or has no row while there is room for one
abbrev pub may_ask : List Row → Id → Bool
may_ask rows t = elim (find_row rows t) [ None ↦ nat_lt (length rows) most_rows | Some r ↦ is_reading r.phase ]

-- a transaction may be ended: it reads, or has no row
abbrev pub may_end : List Row → Id → Bool
may_end rows t = elim (find_row rows t) [ None ↦ true | Some r ↦ is_reading r.phase ]

-- it may be aborted: it reads or collects, or has no row
abbrev pub may_drop : List Row → Id → Bool
may_drop rows t = elim (find_row rows t) [ None ↦ true | Some r ↦ may_abort r.phase ]

-- a request: it may be made, these are ended by it, and whether it is granted then
abbrev pub Asks : List Row → Id → List Id → List Lock → Bool → Type 0
Asks rows t us needs opens =
    (may_ask rows t ≡ true) × (us ≡ wounded (claims rows) t needs) × (is_free (claims (without_rows rows us)) t needs ≡ opens)

-- nothing is logged but a ceiling or an opening
abbrev pub IsServing : Option Record → Type 0
IsServing None = Unit {0}
IsServing (Some (Record.Ceiling at)) = Unit {0}
IsServing (Some (Record.Horizon at)) = Unit {0}
IsServing (Some (Record.Opened epoch)) = Unit {0}
IsServing _ = ⊥

-- a row goes by an abort, or by its outcome
abbrev pub MayDrop : List Row → Id → Option Record → Type 0
MayDrop rows t (Some (Record.Abort u)) = (u ≡ t) × (may_drop rows t ≡ true)
MayDrop rows t (Some (Record.Outcome u o)) = (u ≡ t) × (has_phase may_close rows t ≡ true)
MayDrop rows t _ = ⊥

-- a row stands by a promise or a decision of its transaction
abbrev pub MayStand : Id → Option Record → Type 0
MayStand t (Some (Record.Prepare p)) = p.txn ≡ t
MayStand t (Some (Record.Commit c)) = c.txn ≡ t
MayStand t _ = ⊥

-- a decision of the transaction is logged
abbrev pub IsDecision : Id → Option Record → Type 0
IsDecision t (Some (Record.Commit c)) = c.txn ≡ t
IsDecision t _ = ⊥

-- ids are retired by their record
abbrev pub MayRetire : Id → Option Record → Type 0
MayRetire below (Some (Record.Retired b)) = b ≡ below
MayRetire below _ = ⊥

-- a change that may be made of these rows
abbrev pub FitsRows : List Row → List Id → List Lock → Option Record → Change → Type 0
FitsRows rows ended needs logged Change.Keeps = (ended ≡ []) × IsServing logged
FitsRows rows ended needs logged (Change.Ends t) = (ended ≡ []) × (logged ≡ None) × (may_end rows t ≡ true)
FitsRows rows ended needs logged (Change.Drops t) = (ended ≡ []) × MayDrop rows t logged
FitsRows rows ended needs logged (Change.Reads t) = Asks rows t ended needs true × (logged ≡ None)
FitsRows rows ended needs logged (Change.Waits t w) = Asks rows t ended needs false × (needs ≡ needs_of (phase_of_wait (Some w))) × (logged ≡ None)
FitsRows rows ended needs logged (Change.Collects t c) = Asks rows t ended needs true × (logged ≡ None)
FitsRows rows ended needs logged (Change.Counts t n p) = (ended ≡ []) × (logged ≡ None) × (has_phase is_collecting rows t ≡ true)
FitsRows rows ended needs logged (Change.Stands t) = Asks rows t ended needs true × MayStand t logged
FitsRows rows ended needs logged (Change.Decides t) = (ended ≡ []) × IsDecision t logged × (has_phase is_collecting rows t ≡ true)
FitsRows rows ended needs logged (Change.Retires below) = (ended ≡ []) × MayRetire below logged

-- a step whose plan may be carried out once its record is logged: its change may be made of the rows, and the greatest timestamp does not fall
abbrev pub IsFit : Kept → Step → Type 0
IsFit k s = FitsRows k.memory.rows s.plan.wounded s.plan.needs.items s.logged s.plan.change × (k.memory.last ≤ s.plan.last)

-- who asks for locks by a change
abbrev pub asker : Change → Option Id
asker (Change.Reads t) = Some t
asker (Change.Waits t w) = Some t
asker (Change.Collects t c) = Some t
asker (Change.Stands t) = Some t
asker _ = None

-- the rows once the asker is taken in where it has none
abbrev pub admitted : List Row → Option Id → List Row
admitted rows None = rows
admitted rows (Some t) = elim (find_row rows t) [ None ↦ put_row rows t [] Idle | Some r ↦ rows ]

-- the memory then
abbrev pub admitted_to : Memory → Option Id → Memory
admitted_to m t = record m { rows = admitted m.rows t }

-- the asker has room for its locks
abbrev pub AskerHasRoom : RowTable → Option Id → ℕ → Type 0
AskerHasRoom table None more = Unit {0}
AskerHasRoom table (Some t) more = length (held_in table.rows t) + more ≤ room table t

-- the rows and the tokens of a state
abbrev pub table_in : Kept → RowTable
table_in k = record { rows = k.memory.rows; tokens = k.tokens }

-- a record, where there is one, may come next in the log
abbrev pub MayFollow : ℕ → Facts → Option Record → Type 0
MayFollow shard facts None = Unit {0}
MayFollow shard facts (Some r) = follows_facts shard facts r ≡ true

-- where in the log one is behind a record, where there is one
abbrev pub stage_behind : Stage → Option Record → Stage
stage_behind stage None = stage
stage_behind stage (Some r) = stage_after stage r

-- what a record installs is above the versions of its keys
abbrev pub MayInstall : Facts → Option Record → Type 0
MayInstall facts None = Unit {0}
MayInstall facts (Some r) = CanInstall facts r

-- all memory for a plan is there: the state is what it was, with the asker taken in
pub record HasMemoryFor (old new : Kept) (p : Plan) : Type 0 where
  pub setup : new.setup ≡ old.setup
  pub facts : new.facts ≡ old.facts
  pub stage : new.stage ≡ old.stage
  pub memory : new.memory ≡ admitted_to old.memory (asker p.change)
  pub records : 1 ≤ new.records
  pub ends : length p.wounded < new.ends
  pub locks : AskerHasRoom (table_in new) (asker p.change) (length p.needs.items)

-- whether the asker had no row, and was taken in
abbrev pub Admits : List Row → Option Id → Bool → Type 0
Admits rows None taken = taken ≡ false
Admits rows (Some t) taken = elim (find_row rows t) [ None ↦ taken ≡ true | Some r ↦ taken ≡ false ]

-- a step whose plan can be carried out now: it fits, its asker has a row, all memory is there, its record may come next, and what
-- that installs is above the versions of its keys
pub record IsCarriable (k : Kept) (s : Step) : Type 0 where
  pub fit : IsFit k s
  pub there : admitted k.memory.rows (asker s.plan.change) ≡ k.memory.rows
  pub records : 1 ≤ k.records
  pub ends : length s.plan.wounded < k.ends
  pub locks : AskerHasRoom (table_in k) (asker s.plan.change) (length s.plan.needs.items)
  pub follows : MayFollow k.setup.shard k.facts s.logged
  pub installs : MayInstall k.facts s.logged

-- who asks may
abbrev pub MayAsk : List Row → Option Id → Type 0
MayAsk rows None = Unit {0}
MayAsk rows (Some t) = may_ask rows t ≡ true

-- a row that was taken in goes again
abbrev pub MayUndo : List Row → Option Id → Bool → Type 0
MayUndo rows (Some t) true = has_phase is_reading rows t ≡ true
MayUndo rows _ _ = Unit {0}

-- a row may stand by a record: a promise of an idle row, or a decision of one that is idle or collects; above 0
abbrev pub CanStand : List Row → Id → Record → Type 0
CanStand rows t (Record.Prepare p) = (p.txn ≡ t) × (has_phase is_idle rows t ≡ true) × (0 < p.at)
CanStand rows t (Record.Commit c) = (c.txn ≡ t) × (has_phase may_decide rows t ≡ true) × (0 < c.at)
CanStand rows t _ = ⊥

-- a promise or a decision that is logged has a timestamp above 0
abbrev pub IsDated : Option Record → Type 0
IsDated (Some (Record.Prepare p)) = 0 < p.at
IsDated (Some (Record.Commit c)) = 0 < c.at
IsDated _ = Unit {0}

-- who asks for locks by a step that fits may do so
abbrev pub FitStepsMayAsk : Type 0
FitStepsMayAsk = (k : Kept) (s : Step) → IsFit k s → MayAsk k.memory.rows (asker s.plan.change)

-- a step makes the same of a state whether its asker was taken in before it or not
abbrev pub AdmissionIsUnseen : Type 0
AdmissionIsUnseen =
    (m : Memory) (s : Step) → IsById (λ r. r.txn) m.rows → FitsRows m.rows s.plan.wounded s.plan.needs.items s.logged s.plan.change →
    carried (plan_of (admitted m.rows (asker s.plan.change)) s) (admitted_to m (asker s.plan.change)) ≡ carried (plan_of m.rows s) m

-- a step that fits can be carried out once all is ready, where its record may come next and install what it does
abbrev pub ReadyIsCarriable : Type 0
ReadyIsCarriable =
    (old new : Kept) (s : Step) → IsById (λ r. r.txn) old.memory.rows → IsFit old s → HasMemoryFor old new s.plan →
    MayFollow old.setup.shard old.facts s.logged → MayInstall old.facts s.logged → IsCarriable new s
