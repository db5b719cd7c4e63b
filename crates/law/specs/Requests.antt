-- What a shard was asked to commit, whether it remembers that, and when it logs the decision.
use Rattle.std.specs.Prelude.{ℕ, ◌≡◌, ◌⊎◌, ◌<◌, ◌≤◌, List, [], ◌∷◌, ◌++◌, slice_get, Option, Some, None}
use Rattle.units.specs.Ids.{Id}
use Rattle.units.specs.Keys.{Bytes}
use Rattle.units.specs.declared.writes.Write.{Write}
use Rattle.truetime.specs.Interval.{Interval}
use Rattle.record.specs.declared.record.Committed.{Committed}
use Rattle.record.specs.declared.record.Record.{Record}
use Rattle.message.specs.declared.message.Input.{Input}
use Rattle.message.specs.declared.message.Message.{Message}
use Rattle.protocol.specs.Rows.{Memory, Row, WaitsCommit, Collecting}
use Rattle.world.specs.Headline.{IsUnsure, doing_of}
use Rattle.world.specs.World.{World, ShardNow, Runs, happens, input_of, read_log, run}
use Rattle.world.specs.declared.event.Act.{Act}
use Rattle.world.specs.declared.event.Config.{Config}
use Rattle.world.specs.declared.event.Event.{Event}
use Rattle.law.specs.Among.{IsAmong}

-- what a shard is asked to commit, with the latest time of the reading with which that came
pub record CommitWanted : Type 0 where
  pub shard : ℕ
  pub txn : Id
  pub latest : ℕ
  pub parts : List ℕ
  pub reads : List Bytes
  pub writes : List Write

-- ---- asked

-- what an input asks of a shard
abbrev pub input_asks : ℕ → Interval → Input → Option CommitWanted
input_asks n now (Input.Deliver m) = elim m [
  | Message.Commit c ↦ Some (record { shard = n; txn = c.txn; latest = now.latest; parts = c.parts; reads = c.reads.keys; writes = c.writes })
  | _ ↦ None
]
input_asks n now _ = None

-- what an act asks of the shard at which it is, also where the device fails in it, or a crash strikes
abbrev pub act_asks : World → Act → Option CommitWanted
act_asks w a = elim (doing_of w a) [ None ↦ None | Some p ↦ elim (input_of w.bag p.1) [ None ↦ None | Some q ↦ input_asks p.0 q.0 q.1 ] ]

-- ---- remembered

-- what a row of a shard remembers to have been asked, while it waits for its locks, or for votes
abbrev pub row_remembers : ℕ → Row → Option CommitWanted
row_remembers n row = elim row.phase [
  | WaitsCommit latest ps rs ws ↦ Some (record { shard = n; txn = row.txn; latest = latest; parts = ps; reads = rs; writes = ws })
  | Collecting latest ps rs ws votes ↦ Some (record { shard = n; txn = row.txn; latest = latest; parts = ps; reads = rs; writes = ws })
  | _ ↦ None
]

-- the shard runs, and a row of it remembers the request
pub record IsRemembered (w : World) (r : CommitWanted) : Type 0 where
  pub shard : ShardNow
  pub there : slice_get w.shards r.shard ≡ Some shard
  pub memory : Memory
  pub runs : shard.state ≡ Runs memory
  pub row : Row
  pub among : IsAmong memory.rows row
  pub same : row_remembers r.shard row ≡ Some r

-- ---- decided

-- between two worlds a record came to a shard that ran: to the end of its log, or it is unsure behind that
pub record IsAppended (w v : World) (n : ℕ) (r : Record) : Type 0 where
  pub before : ShardNow
  pub there : slice_get w.shards n ≡ Some before
  pub memory : Memory
  pub runs : before.state ≡ Runs memory
  pub after : ShardNow
  pub there_now : slice_get v.shards n ≡ Some after
  pub appended : (after.log ≡ read_log before ++ r ∷ []) ⊎ ((after.log ≡ read_log before) × IsUnsure after.unsure r)

-- at the first of some events the record is appended, or behind it the shard remembers the request, and so on with the next
abbrev pub RemembersUntil : CommitWanted → Record → World → List Event → Type 0
RemembersUntil r d w [] = ⊥
RemembersUntil r d w (e ∷ es) =
    let v : World = (happens w e).0 in IsAppended w v r.shard d ⊎ (IsRemembered v r × RemembersUntil r d v es)

-- ---- what a decision rests on

-- what a decision of a shard was asked for, with a time
abbrev pub request_for : ℕ → Committed → ℕ → CommitWanted
request_for n c latest = record { shard = n; txn = c.txn; latest = latest; parts = c.parts; reads = c.reads; writes = c.writes }

-- An event asked for a decision. From there on the shard remembered that, with the latest time of the event's reading, at each moment until the
-- decision was appended. The true time of the event is at most that latest time, and the timestamp of the decision is above it.
pub record IsAboveArrival (config : Config) (es : List Event) (n : ℕ) (c : Committed) : Type 0 where
  pub front : List Event
  pub event : Event
  pub back : List Event
  pub listed : es ≡ front ++ event ∷ back
  pub latest : ℕ
  pub asks : act_asks (run config front) event.act ≡ Some (request_for n c latest)
  pub until : RemembersUntil (request_for n c latest) (Record.Commit c) (run config front) (event ∷ back)
  pub honest : event.time ≤ latest
  pub above : latest < c.at
