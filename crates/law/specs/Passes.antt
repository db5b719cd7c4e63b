-- What each event of a lawful run keeps, pass by pass: the law of the store rests on these six.
use Rattle.std.specs.Prelude.{ℕ, ◌≡◌, ◌⊎◌, ◌<◌, ◌≤◌, IsTrue, List, ◌∷◌, ◌++◌, slice_get, Option, Some, None}
use Rattle.units.specs.Ids.{Id}
use Rattle.units.specs.Keys.{Bytes}
use Rattle.units.specs.Locks.{holds}
use Rattle.units.specs.Versions.{latest}
use Rattle.units.specs.declared.writes.Install.{Install}
use Rattle.record.specs.Facts.{facts_of, recorded}
use Rattle.record.specs.Installs.{installs_of}
use Rattle.record.specs.Records.{status_of}
use Rattle.record.specs.Whole.{is_whole}
use Rattle.record.specs.declared.record.Committed.{Committed}
use Rattle.record.specs.declared.record.Record.{Record}
use Rattle.message.specs.declared.message.Address.{Address}
use Rattle.message.specs.declared.message.Answer.TheVariants.{Holds}
use Rattle.message.specs.declared.message.Envelope.{Envelope}
use Rattle.message.specs.declared.message.Message.{Message}
use Rattle.message.specs.declared.message.ReadAnswer.{ReadAnswer}
use Rattle.protocol.specs.Rows.{Memory, Row, find_row}
use Rattle.protocol.specs.Sound.{IsSound, is_open}
use Rattle.session.specs.Sessions.{Client}
use Rattle.world.specs.Headline.{MayBeLeft, IsUnsure}
use Rattle.world.specs.Lawful.{lawful}
use Rattle.world.specs.World.{World, ShardNow, View, State, Runs, IsStopped, IsDown, Nothing, view_of, run}
use Rattle.world.specs.declared.event.Config.{Config}
use Rattle.world.specs.declared.event.Event.{Event}
use Rattle.law.specs.Among.{IsAmong}
use Rattle.law.specs.Requests.{IsAboveArrival}
use Rattle.law.specs.Evidence.{HasOutcome, VoteEvidence, log_at}

-- ---- records, rows, versions and statuses are those of the log

-- the memory of a running shard is that of its log: each promise and each decision that stands has its row with its locks, and a
-- row without them no record; and what the shard knows of ids and versions is what the log says
pub record IsOfItsLog (n : ℕ) (s : ShardNow) (m : Memory) : Type 0 where
  pub sound : IsSound n (facts_of s.log) m
  pub statuses : (t : Id) → recorded (facts_of s.log) t ≡ status_of s.log t
  pub versions : (facts_of s.log).installs ≡ installs_of s.log
  -- and a crash leaves just this log
  pub surely : s.unsure ≡ Nothing

abbrev pub ShardsAreOfTheirLogs : Type 0
ShardsAreOfTheirLogs =
    (config : Config) (es : List Event) → IsTrue (lawful config es) → (n : ℕ) (s : ShardNow) (m : Memory) →
    slice_get (run config es).shards n ≡ Some s → s.state ≡ Runs m → IsOfItsLog n s m

-- ---- what was put out has its record

-- a vote has the promise of its shard, an outcome the abort or the decision and the outcome of the coordinator that sent it, and a
-- done those of some shard; that a commit is told, its timestamp has passed
abbrev pub HasItsRecord : World → Message → Type 0
HasItsRecord w (Message.Vote v) = elim v.vote [ None ↦ Unit {0} | Some at ↦ VoteEvidence (log_at w v.from) v.txn at ]
HasItsRecord w (Message.Outcome o) =
    elim o.outcome [ None ↦ IsAmong (log_at w o.from) (Record.Abort o.txn) | Some s ↦ HasOutcome (log_at w o.from) w.time o.txn s ]
HasItsRecord w (Message.Done d) =
    (n : ℕ) × (elim d.outcome [ None ↦ IsAmong (log_at w n) (Record.Abort d.txn) | Some s ↦ HasOutcome (log_at w n) w.time d.txn s ])
HasItsRecord w _ = Unit {0}

abbrev pub PutOutIsLogged : Type 0
PutOutIsLogged =
    (config : Config) (es : List Event) → IsTrue (lawful config es) → (e : Envelope) → IsAmong (run config es).bag e →
    HasItsRecord (run config es) e.message

-- ---- whole

abbrev pub AllAreWhole : Type 0
AllAreWhole =
    (config : Config) (es : List Event) (logs : List (List Record)) → IsTrue (lawful config es) → MayBeLeft config es logs →
    (t : Id) → IsTrue (is_whole t logs)

-- ---- a held read is the latest

-- a session took a value that a shard answered
pub record WasTaken (w : World) (a : ReadAnswer) (x : Option Bytes) : Type 0 where
  pub to : Address
  pub sent : IsAmong w.bag (record { to = to; message = Message.ReadAnswer a })
  pub answer : a.answer ≡ Holds x
  pub client : Client
  pub there : IsAmong w.clients client
  pub txn : client.txn ≡ a.txn
  pub taken : IsAmong client.taken (record { key = a.key; shard = a.from; epoch = a.epoch; value = x })

-- the reader's row holds the key, and the value is the latest
pub record IsHeld (s : ShardNow) (row : Row) (k : Bytes) (x : Option Bytes) : Type 0 where
  pub held : IsTrue (holds row.held k)
  pub value : latest (installs_of s.log) k ≡ x

-- while the reader's row waits or collects, in the epoch in which it was answered
abbrev pub HeldWhileOpen : World → ReadAnswer → Option Bytes → Type 0
HeldWhileOpen w a x =
    (s : ShardNow) (m : Memory) (row : Row) → slice_get w.shards a.from ≡ Some s → s.state ≡ Runs m →
    (facts_of s.log).epoch ≡ a.epoch → find_row m.rows a.txn ≡ Some row → IsTrue (is_open row.phase) → IsHeld s row a.key x

-- the record promises or decides a transaction, at a timestamp, with these reads
abbrev pub IsClaim : Record → Id → ℕ → List Bytes → Type 0
IsClaim (Record.Prepare p) t at ks = (p.txn ≡ t) × (p.at ≡ at) × (p.reads ≡ ks)
IsClaim (Record.Commit c) t at ks = (c.txn ≡ t) × (c.at ≡ at) × (c.reads ≡ ks)
IsClaim _ t at ks = ⊥

-- the log has an outcome of the reader, and a time is not below it
pub record IsPastEnd (log : List Record) (t : Id) (at : ℕ) : Type 0 where
  pub outcome : Option ℕ
  pub among : IsAmong log (Record.Outcome t outcome)
  pub below : (s : ℕ) → outcome ≡ Some s → s ≤ at

-- the value was the latest when the reader was logged, above all versions; and no other version of the key was made before the
-- reader's outcome, nor one below its timestamp
pub record IsUndisturbed (log front : List Record) (t : Id) (at : ℕ) (k : Bytes) (x : Option Bytes) : Type 0 where
  pub value : latest (installs_of front) k ≡ x
  pub above : (i : Install) → IsAmong (installs_of front) i → i.at < at
  pub between : (i : Install) → IsAmong (installs_of log) i → i.key ≡ k → IsAmong (installs_of front) i ⊎ IsPastEnd log t i.at

abbrev pub UndisturbedOnceLogged : List Record → ReadAnswer → Option Bytes → Type 0
UndisturbedOnceLogged log a x =
    (front : List Record) (r : Record) (back : List Record) (at : ℕ) (ks : List Bytes) → log ≡ front ++ r ∷ back →
    IsClaim r a.txn at ks → IsAmong ks a.key → IsUndisturbed log front a.txn at a.key x

-- of each value that a session took
abbrev pub HeldReadsAreLatest : Type 0
HeldReadsAreLatest =
    (config : Config) (es : List Event) (logs : List (List Record)) → IsTrue (lawful config es) → MayBeLeft config es logs →
    (a : ReadAnswer) (x : Option Bytes) → WasTaken (run config es) a x → HeldWhileOpen (run config es) a x
    × ((log : List Record) → slice_get logs a.from ≡ Some log → UndisturbedOnceLogged log a x)

-- ---- what was served stays

-- the view of a shard that can be looked at
abbrev pub view_in : State → List Record → Option View
view_in (Runs m) log = Some (view_of (facts_of log) m)
view_in (IsStopped m) log = Some (view_of (facts_of log) m)
view_in IsDown log = None

-- one of its views, or what it shows now
abbrev pub ShowsView : ShardNow → View → Type 0
ShowsView s v = IsAmong s.views v ⊎ (view_in s.state s.log ≡ Some v)

-- a promise, a decision, an outcome that commits and a version are above a time
abbrev pub ComesAbove : ℕ → Record → Type 0
ComesAbove at (Record.Prepare p) = at < p.at
ComesAbove at (Record.Commit c) = at < c.at
ComesAbove at (Record.Outcome u (Some s)) = at < s
ComesAbove at (Record.Version install) = at < install.at
ComesAbove at (Record.Settled u s parts) = at < s
ComesAbove at (Record.Closed u coordinator (Some s)) = at < s
ComesAbove at _ = Unit {0}

-- a log is another with more behind it, all of it above a time that its floor keeps
pub record IsAboveServed (before log : List Record) (at : ℕ) : Type 0 where
  pub more : List Record
  pub grown : log ≡ before ++ more
  pub above : (r : Record) → IsAmong more r → ComesAbove at r
  pub floor : at ≤ (facts_of log).floor

-- whatever a shard could be asked for at some moment, now or through a view, each log of a later moment keeps
abbrev pub ServedIsBelow : Type 0
ServedIsBelow =
    (config : Config) (es later : List Event) (logs : List (List Record)) → IsTrue (lawful config (es ++ later)) →
    MayBeLeft config (es ++ later) logs → (n : ℕ) (s : ShardNow) (v : View) → slice_get (run config es).shards n ≡ Some s →
    ShowsView s v → (log : List Record) → slice_get logs n ≡ Some log → IsAboveServed s.log log v.safe

-- ---- timestamps and true time

-- each decision of a shard, also one that is unsure there, rests on an event that asked for it, and is above the true time of that
abbrev pub CommitsAreAboveArrival : Type 0
CommitsAreAboveArrival =
    (config : Config) (es : List Event) → IsTrue (lawful config es) → (n : ℕ) (s : ShardNow) → slice_get (run config es).shards n ≡ Some s →
    (c : Committed) → IsAmong s.log (Record.Commit c) ⊎ IsUnsure s.unsure (Record.Commit c) → IsAboveArrival config es n c

-- an outcome that commits is logged, and its versions are installed, only once its timestamp has passed
abbrev pub OutcomesHavePassed : Type 0
OutcomesHavePassed =
    (config : Config) (es : List Event) → IsTrue (lawful config es) → (n : ℕ) (s : ShardNow) → slice_get (run config es).shards n ≡ Some s →
    (t : Id) (at : ℕ) → IsAmong s.log (Record.Outcome t (Some at)) ⊎ IsUnsure s.unsure (Record.Outcome t (Some at)) → at < (run config es).time
