-- The part of a shard's state that a crash loses: its rows, the greatest timestamp served, and the ids that were ended.
use Rattle.std.specs.List.{list_any}
use Rattle.std.specs.Prelude.{ℕ, ◌-◌, Bool, true, false, not, cond, List, [], ◌∷◌, ◌++◌, nat_eq, map, Option, Some, None, filter}
use Rattle.units.specs.Lists.{gather, first, least_with}
use Rattle.units.specs.Ids.{Id, same_id, older, has_id}
use Rattle.units.specs.Keys.{Bytes}
use Rattle.record.specs.Records.{Status, StandsPrepared, StandsDecided, HasAborted, HasSettled, HasClosed, is_below}
use Rattle.record.specs.Facts.{Facts, TxnStatus, recorded}
use Rattle.units.specs.Locks.{Claim, exclusive, locks_of}
use Rattle.units.specs.declared.lock.Lock.{Lock}
use Rattle.units.specs.declared.lock.Mode.TheVariants.{Shared}
use Rattle.units.specs.declared.writes.Write.{Write}

-- a yes that came: the shard, and its prepare timestamp
pub record Voted : Type 0 where
  pub shard : ℕ
  pub at : ℕ

-- the phase of a transaction at a shard: it reads (idle, or waiting with a read, a prepare or a commit), collects votes,
-- is prepared, or is decided. A commit keeps the latest end of the reading at its arrival
pub data Phase : Type 0 where
  Idle : Phase
  WaitsRead : (key : Bytes) → Phase
  WaitsPrepare : (coordinator : ℕ) → (reads : List Bytes) → (writes : List Write) → Phase
  WaitsCommit : (latest : ℕ) → (parts : List ℕ) → (reads : List Bytes) → (writes : List Write) → Phase
  Collecting : (latest : ℕ) → (parts : List ℕ) → (reads : List Bytes) → (writes : List Write) → (votes : List Voted) → Phase
  IsPrepared : (coordinator at : ℕ) → Phase
  IsDecided : (at : ℕ) → (parts : List ℕ) → Phase

-- a transaction at a shard: its locks by ascending key, and its phase
pub record Row : Type 0 where
  pub txn : Id
  pub held : List Lock
  pub phase : Phase

-- the greatest timestamp assigned, applied or served; the rows by ascending id; the ids ended since the opening
pub record Memory : Type 0 where
  pub last : ℕ
  pub rows : List Row
  pub ended : List Id

-- the locks that a waiting row wants
abbrev pub needs_of : Phase → List Lock
needs_of (WaitsRead k) = record { key = k; mode = Shared } ∷ []
needs_of (WaitsPrepare c rs ws) = exclusive ws
needs_of (WaitsCommit l ps rs ws) = exclusive ws
needs_of _ = []

-- nobody may end a row that collects, is prepared or is decided
abbrev pub is_firm : Phase → Bool
is_firm Idle = false
is_firm (WaitsRead k) = false
is_firm (WaitsPrepare c rs ws) = false
is_firm (WaitsCommit l ps rs ws) = false
is_firm _ = true

-- a row in the lock table
abbrev pub claim_of : Row → Claim
claim_of r = record { txn = r.txn; held = r.held; needs = needs_of r.phase; firm = is_firm r.phase }

-- the rows as a lock table
abbrev pub claims : List Row → List Claim
claims rows = map claim_of rows

-- the row of an id
abbrev pub find_row : List Row → Id → Option Row
find_row rows t = first (λ r. same_id r.txn t) rows

-- the rows without that of an id
abbrev pub without_row : List Row → Id → List Row
without_row rows t = filter (λ r. not (same_id r.txn t)) rows

-- the rows with one given anew, by ascending id
abbrev pub with_row : List Row → Row → List Row
with_row [] r = r ∷ []
with_row (q ∷ qs) r =
    cond (same_id q.txn r.txn) (r ∷ qs) (cond (older q.txn r.txn) (q ∷ with_row qs r) (r ∷ q ∷ qs))

-- what a row holds, nothing where there is no row
abbrev pub held_by : Option Row → List Lock
held_by None = []
held_by (Some r) = r.held

-- what a transaction holds
abbrev pub held_in : List Row → Id → List Lock
held_in rows t = held_by (find_row rows t)

-- the rows without those of several ids
abbrev pub without_rows : List Row → List Id → List Row
without_rows rows [] = rows
without_rows rows (t ∷ ts) = without_rows (without_row rows t) ts

-- the first vote of a shard is kept
abbrev pub with_vote : ℕ → ℕ → List Voted → List Voted
with_vote n p votes = cond (list_any (λ v. nat_eq v.shard n) votes) votes (votes ++ record { shard = n; at = p } ∷ [])

-- the timestamp that a row holds the served time below
abbrev pub held_stamp : Phase → Option ℕ
held_stamp (IsPrepared c p) = Some p
held_stamp (IsDecided s ps) = Some s
held_stamp _ = None

-- reads are served up to `last`, and below the timestamp of each prepared and each decided row
unfoldable pub safe : Memory → ℕ
safe memory = least_with memory.last (map (λ s. s - 1) (gather (λ r. held_stamp r.phase) memory.rows))

-- a transaction's status at a shard: that it is retired; else by its row, else by its records, else by the ended ids
pub data Standing : Type 0 where
  WasRetired : Standing
  IsUnknown : Standing
  WasEnded : Standing
  HasRow : (held : List Lock) → (phase : Phase) → Standing
  WasAborted : Standing
  WasSettled : (at : ℕ) → (parts : List ℕ) → Standing
  WasClosed : (outcome : Option ℕ) → Standing

-- by its row, its recorded status, and whether it was ended
abbrev pub standing_by : Option Row → Status → Bool → Standing
standing_by (Some r) status ended = HasRow r.held r.phase
standing_by None HasAborted ended = WasAborted
standing_by None (HasSettled s ps) ended = WasSettled s ps
standing_by None (HasClosed c o) ended = WasClosed o
standing_by None _ true = WasEnded
standing_by None _ false = IsUnknown

-- the standing of an id that is not retired
abbrev pub standing_kept : Facts → Memory → Id → Standing
standing_kept facts memory t = standing_by (find_row memory.rows t) (recorded facts t) (has_id memory.ended t)

-- the standing of an id at a shard
unfoldable pub standing : Facts → Memory → Id → Standing
standing facts memory t = cond (is_below facts.retired t) WasRetired (standing_kept facts memory t)

-- the row that a promise or a decision leaves after a crash: prepared or decided, with the locks of its record
abbrev pub standing_row : TxnStatus → Option Row
standing_row e =
    elim e.status [
      | StandsPrepared p ↦ Some (record { txn = p.txn; held = locks_of p.reads p.writes; phase = IsPrepared p.coordinator p.at })
      | StandsDecided c ↦ Some (record { txn = c.txn; held = locks_of c.reads c.writes; phase = IsDecided c.at c.parts })
      | _ ↦ None
    ]

-- what an opening finds of the memory: the rows that the log holds, the floor as the greatest timestamp, nothing ended
unfoldable pub rebuilt : Facts → Memory
rebuilt facts = record { last = facts.floor; rows = gather standing_row facts.entries; ended = [] }
