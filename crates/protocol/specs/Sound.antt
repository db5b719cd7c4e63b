-- What holds of a shard's facts and memory at every moment, and that a step keeps it.
use Rattle.std.specs.List.{list_any, list_all}
use Rattle.std.specs.Prelude.{ℕ, ◌+◌, ◌≡◌, ◌≤◌, ◌<◌, Bool, true, false, ◌&&◌, IsTrue, nat_le, nat_lt, nat_eq, List, [], ◌∷◌, Option, Some, None, Ok, length}
use Rattle.units.specs.Lists.{ascends, head, when}
use Rattle.units.specs.Ids.{Id, older}
use Rattle.units.specs.ById.{IsById}
use Rattle.units.specs.Keys.{Bytes, same_key}
use Rattle.units.specs.Locks.{holds}
use Rattle.units.specs.LockLaws.{IsLawfulTable}
use Rattle.units.specs.Versions.{above_versions}
use Rattle.units.specs.declared.lock.Lock.{Lock}
use Rattle.units.specs.declared.lock.Mode.{Mode}
use Rattle.units.specs.declared.lock.Mode.TheVariants.{Shared, Exclusive}
use Rattle.units.specs.declared.setup.Setup.{Setup}
use Rattle.units.specs.declared.writes.Write.{Write}
use Rattle.units.specs.declared.writes.Install.{Install}
use Rattle.truetime.specs.Interval.{Interval}
use Rattle.record.specs.Records.{Status, Unrecorded, StandsPrepared, StandsDecided}
use Rattle.record.specs.Facts.{Facts, facts_of, learn, recorded}
use Rattle.record.specs.declared.record.Record.{Record}
pub use Rattle.facts.specs.Readers.{writes_standing}
use Rattle.facts.specs.Rules.{follows_facts}
use Rattle.message.specs.declared.message.Input.{Input}
use Rattle.protocol.specs.Rows.{Memory, Row, Phase, WaitsPrepare, WaitsCommit, Collecting, IsPrepared, IsDecided, claims, find_row, rebuilt, safe}
use Rattle.protocol.specs.Plan.{Plan, start_of_step, carried}
use Rattle.protocol.specs.Step.{facts_after, IsInLimit, plan_input}

-- the mode allows writing
abbrev pub is_exclusive : Mode → Bool
is_exclusive Exclusive = true
is_exclusive Shared = false

-- the key is held alone
abbrev pub holds_alone : List Lock → Bytes → Bool
holds_alone held k = list_any (λ h. same_key h.key k && is_exclusive h.mode) held

-- each key that is written is held alone
abbrev pub holds_writes : List Lock → List Write → Bool
holds_writes held ws = list_all (λ w. holds_alone held w.key) ws

-- a row without a record
abbrev pub is_open : Phase → Bool
is_open (IsPrepared c p) = false
is_open (IsDecided s ps) = false
is_open _ = true

-- a row that stands by a record: its phase, its id, its timestamp, which was assigned, its locks, and that it is above the
-- versions of what it writes
pub record StandsBy (installs : List Install) (last : ℕ) (r : Row) (standing : Phase) (txn : Id) (at : ℕ) (reads : List Bytes)
    (writes : List Write) : Type 0 where
  pub phase : r.phase ≡ standing
  pub own : r.txn ≡ txn
  pub above_zero : 0 < at
  pub assigned : at ≤ last
  pub read : IsTrue (list_all (holds r.held) reads)
  pub held : IsTrue (holds_writes r.held writes)
  pub above : IsTrue (above_versions installs at writes)

-- a transaction's record and its row agree: a promise and a decision stand in a row, and a row without them has no record
abbrev pub Agrees : List Install → ℕ → Status → Option Row → Type 0
Agrees installs last (StandsPrepared p) (Some r) = StandsBy installs last r (IsPrepared p.coordinator p.at) p.txn p.at p.reads p.writes
Agrees installs last (StandsDecided c) (Some r) = StandsBy installs last r (IsDecided c.at c.parts) c.txn c.at c.reads c.writes
Agrees installs last Unrecorded (Some r) = IsTrue (is_open r.phase)
Agrees installs last (StandsPrepared p) None = ⊥
Agrees installs last (StandsDecided c) None = ⊥
Agrees installs last _ (Some r) = ⊥
Agrees installs last _ None = Unit {0}

-- a row that waits or collects is of a message that was for this shard, and holds what it read; one that collects holds what
-- it writes alone
abbrev pub fits : ℕ → Row → Bool
fits shard r =
    elim r.phase [
      | WaitsPrepare c rs ws ↦ nat_lt c shard && list_all (holds r.held) rs
      | WaitsCommit l ps rs ws ↦ when (nat_eq shard) (head ps) && list_all (holds r.held) rs
      | Collecting l ps rs ws votes ↦ when (nat_eq shard) (head ps) && (list_all (holds r.held) rs && holds_writes r.held ws)
      | _ ↦ true
    ]

-- what holds of a running shard
pub record IsSound (shard : ℕ) (facts : Facts) (memory : Memory) : Type 0 where
  -- it was opened
  pub opened : 0 < facts.epoch
  -- the rows as a lock table: by ascending id, with the lock law and the wait law
  pub table : IsLawfulTable (claims memory.rows)
  pub entries : IsById (λ e. e.txn) facts.entries
  pub ended : IsTrue (ascends older memory.ended)
  pub under : memory.last ≤ facts.floor
  -- no version is above what was assigned, applied or served
  pub installed : IsTrue (list_all (λ i. nat_le i.at memory.last) facts.installs)
  pub fit : IsTrue (list_all (fits shard) memory.rows)
  pub agrees : (t : Id) → Agrees facts.installs memory.last (recorded facts t) (find_row memory.rows t)
  -- what is forgotten was served, so each promise and decision that stands is above it
  pub horizon : facts.horizon ≤ safe memory

-- a shard that starts with one opening in its log and nothing in memory
abbrev pub FreshIsSound : Type 0
FreshIsSound = (shard : ℕ) → IsSound shard (facts_of (Record.Opened 1 ∷ [])) (record { last = 0; rows = []; ended = [] })

-- an opening keeps it: after a crash the rows are those that the log holds
abbrev pub OpeningKeepsSound : Type 0
OpeningKeepsSound =
    (shard : ℕ) (facts : Facts) (memory : Memory) → IsSound shard facts memory →
    IsSound shard (learn facts (Record.Opened (facts.epoch + 1))) (rebuilt (learn facts (Record.Opened (facts.epoch + 1))))

-- a step keeps it
abbrev pub StepKeepsSound : Type 0
StepKeepsSound =
    (rows : ℕ) (setup : Setup) (facts : Facts) (memory : Memory) (now : Interval) (i : Input) (p : Plan) → IsInLimit i →
    IsSound setup.shard facts memory → plan_input setup (start_of_step rows setup facts memory) now i ≡ Ok p →
    IsSound setup.shard (facts_after facts p.logged) (carried p memory)

-- what a step logs may come next
abbrev pub LoggedFollows : Type 0
LoggedFollows =
    (rows : ℕ) (setup : Setup) (facts : Facts) (memory : Memory) (now : Interval) (i : Input) (p : Plan) (r : Record) →
    IsSound setup.shard facts memory → plan_input setup (start_of_step rows setup facts memory) now i ≡ Ok p → p.logged ≡ Some r →
    IsTrue (follows_facts setup.shard facts r)

-- what a step installs is above the versions of its keys
abbrev pub InstallsAbove : Type 0
InstallsAbove =
    (rows : ℕ) (setup : Setup) (facts : Facts) (memory : Memory) (now : Interval) (i : Input) (p : Plan) (t : Id) (s : ℕ) →
    IsSound setup.shard facts memory → plan_input setup (start_of_step rows setup facts memory) now i ≡ Ok p → p.logged ≡ Some (Record.Outcome t (Some s)) →
    IsTrue (above_versions facts.installs s (writes_standing (recorded facts t)))

-- a step keeps the table within its limit
abbrev pub StaysWithin : Type 0
StaysWithin =
    (rows : ℕ) (setup : Setup) (facts : Facts) (memory : Memory) (now : Interval) (i : Input) (p : Plan) →
    IsById (λ r. r.txn) memory.rows → length memory.rows ≤ rows → plan_input setup (start_of_step rows setup facts memory) now i ≡ Ok p →
    length (carried p memory).rows ≤ rows
