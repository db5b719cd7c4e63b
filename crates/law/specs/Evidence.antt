-- What stands behind each record, each row, each message and each line of a run: something that was put out, or something
-- that was logged. Each of these facts stays true once it holds.
use Rattle.std.specs.Prelude.{ℕ, ◌≡◌, ◌⊎◌, ◌<◌, ◌≤◌, Bool, true, false, List, [], slice_get, Option, Some, None}
use Rattle.std.specs.List.{AllByRecursion}
use Rattle.units.specs.Lists.{has}
use Rattle.units.specs.Ids.{Id}
use Rattle.units.specs.Keys.{Bytes}
use Rattle.units.specs.declared.line.Line.{Line}
use Rattle.units.specs.declared.writes.Write.{Write}
use Rattle.record.specs.Records.{Status, HasAborted, HasSettled}
use Rattle.record.specs.declared.record.Committed.{Committed}
use Rattle.record.specs.declared.record.Record.{Record}
use Rattle.message.specs.declared.message.Address.{Address}
use Rattle.message.specs.declared.message.Address.TheVariants.{Shard}
use Rattle.message.specs.declared.message.Envelope.{Envelope}
use Rattle.message.specs.declared.message.Message.{Message}
use Rattle.protocol.specs.Rows.{Row, Phase, WaitsPrepare, WaitsCommit, Collecting, IsPrepared, IsDecided, Voted}
use Rattle.protocol.specs.Outputs.{promise, decision}
use Rattle.protocol.specs.Cells.{other_parts}
use Rattle.session.specs.Sessions.{Client, Stage, IsOpen, closing_messages}
use Rattle.world.specs.World.{World, ShardNow, State, Runs, Nothing, client_of}
use Rattle.world.specs.Headline.{IsUnsure}
use Rattle.law.specs.Among.{IsAmong}
use Rattle.law.specs.Requests.{CommitWanted, request_for}

-- a world with the true times of the events so far, the number of the event under way, and the present; with it what counts as asked of shards,
-- and which decisions need no request
pub record Scene : Type 1 where
  pub world : World
  pub times : List ℕ
  pub asked : CommitWanted → Type 0
  pub decided : ℕ → Committed → Type 0
  pub event : ℕ
  pub now : ℕ

-- the surely logged records of a shard
abbrev pub log_at : World → ℕ → List Record
log_at w n = elim (slice_get w.shards n) [ None ↦ [] | Some s ↦ s.log ]

-- a message was put out for a shard
abbrev pub Sent : World → ℕ → Message → Type 0
Sent w n m = IsAmong w.bag (record { to = Shard n; message = m })

-- ---- sessions

-- the session has closed, or was given up
abbrev pub is_past_open : Stage → Bool
is_past_open IsOpen = false
is_past_open _ = true

-- the session of an id is not open any more, and these are the messages of its closing
pub record ClosedOver (w : World) (t : Id) (messages : List Envelope) : Type 0 where
  pub client : Client
  pub there : client_of w t ≡ Some client
  pub closed : is_past_open client.stage ≡ true
  pub same : closing_messages w.config.splits client ≡ messages

-- a message of a closing
pub record IsOfClosing (w : World) (t : Id) (e : Envelope) : Type 0 where
  pub messages : List Envelope
  pub over : ClosedOver w t messages
  pub among : IsAmong messages e

-- a transaction began at a time that is not above another
pub record BeganBy (sc : Scene) (t : Id) (latest : ℕ) : Type 0 where
  pub event : ℕ
  pub time : ℕ
  pub line : IsAmong sc.world.lines (Line.Begin t event)
  pub timed : slice_get sc.times event ≡ Some time
  pub below : time ≤ latest

-- ---- requests

-- a shard was asked to promise
pub record PrepareAsked (w : World) (n : ℕ) (t : Id) (coordinator : ℕ) (reads : List Bytes) (writes : List Write) : Type 0 where
  pub epoch : ℕ
  pub sent : Sent w n (Message.Prepare (record { txn = t; coordinator = coordinator; reads = record { epoch = epoch; keys = reads }; writes = writes }))

-- a shard was asked to commit
pub record CommitAsked (w : World) (n : ℕ) (t : Id) (parts : List ℕ) (reads : List Bytes) (writes : List Write) : Type 0 where
  pub epoch : ℕ
  pub sent : Sent w n (Message.Commit (record { txn = t; parts = parts; reads = record { epoch = epoch; keys = reads }; writes = writes }))

-- a shard voted yes
abbrev pub VotedYes : World → ℕ → Id → Voted → Type 0
VotedYes w n t v = Sent w n (Message.Vote (record { from = v.shard; txn = t; vote = Some v.at }))

-- each of some other parts voted yes, at most at a time
pub record VoteBelow (w : World) (n : ℕ) (t : Id) (from at : ℕ) : Type 0 where
  pub stamp : ℕ
  pub sent : Sent w n (Message.Vote (record { from = from; txn = t; vote = Some stamp }))
  pub below : stamp ≤ at

-- ---- records of one log

-- a log has a promise of an id at a timestamp
pub record HasPromise (log : List Record) (t : Id) (coordinator at : ℕ) : Type 0 where
  pub reads : List Bytes
  pub writes : List Write
  pub among : IsAmong log (promise t coordinator at reads writes)

-- a log has a decision of an id at a timestamp
pub record HasDecision (log : List Record) (t : Id) (at : ℕ) : Type 0 where
  pub parts : List ℕ
  pub reads : List Bytes
  pub writes : List Write
  pub among : IsAmong log (decision t at parts reads writes)

-- and its outcome, at a time that has passed
pub record HasOutcome (log : List Record) (now : ℕ) (t : Id) (at : ℕ) : Type 0 where
  pub decided : HasDecision log t at
  pub ended : IsAmong log (Record.Outcome t (Some at))
  pub passed : at < now

-- a promise, and the word of its coordinator
pub record WasTold (w : World) (log : List Record) (n : ℕ) (t : Id) (outcome : Option ℕ) : Type 0 where
  pub coordinator : ℕ
  pub stamp : ℕ
  pub promised : HasPromise log t coordinator stamp
  pub sent : Sent w n (Message.Outcome (record { from = coordinator; txn = t; outcome = outcome }))

-- what was asked is below a decision
pub record IsAboveWanted (sc : Scene) (n : ℕ) (c : Committed) : Type 0 where
  pub latest : ℕ
  pub asked : sc.asked (request_for n c latest)
  pub above : latest < c.at

-- a decision rests on its request, on the votes of the other parts, and on its transaction's beginning
pub record CommitEvidence (sc : Scene) (n : ℕ) (c : Committed) : Type 0 where
  pub asked : CommitAsked sc.world n c.txn c.parts c.reads c.writes
  pub voted : (m : ℕ) → has (other_parts n c.parts) m ≡ true → VoteBelow sc.world n c.txn m c.at
  pub latest : ℕ
  pub began : BeganBy sc c.txn latest
  pub above : latest < c.at
  pub rests : sc.decided n c ⊎ IsAboveWanted sc n c

-- why a coordinator may abort: it was asked to commit, or how the transaction ended
pub record WasAsked (w : World) (n : ℕ) (t : Id) : Type 0 where
  pub parts : List ℕ
  pub reads : List Bytes
  pub writes : List Write
  pub asked : CommitAsked w n t parts reads writes

-- another shard asks
pub record WasQuestioned (w : World) (n : ℕ) (t : Id) : Type 0 where
  pub from : ℕ
  pub sent : Sent w n (Message.Ask (record { from = from; txn = t }))

-- what stands behind a record of a shard's log: the kinds of a renewed log's head are none that a step logs
abbrev pub RecordEvidence : Scene → List Record → ℕ → Record → Type 0
RecordEvidence sc log n (Record.Opened epoch) = Unit {0}
RecordEvidence sc log n (Record.Ceiling at) = Unit {0}
RecordEvidence sc log n (Record.Horizon at) = Unit {0}
RecordEvidence sc log n (Record.Retired below) = Unit {0}
RecordEvidence sc log n (Record.Prepare p) = PrepareAsked sc.world n p.txn p.coordinator p.reads p.writes
RecordEvidence sc log n (Record.Commit c) = CommitEvidence sc n c
RecordEvidence sc log n (Record.Abort t) = WasAsked sc.world n t ⊎ WasQuestioned sc.world n t
RecordEvidence sc log n (Record.Outcome t (Some s)) = (s < sc.now) × (HasDecision log t s ⊎ WasTold sc.world log n t (Some s))
RecordEvidence sc log n (Record.Outcome t None) = WasTold sc.world log n t None
RecordEvidence sc log n _ = ⊥

-- ---- rows

-- a request to commit that is remembered
pub record Remembers (sc : Scene) (n : ℕ) (t : Id) (latest : ℕ) (parts : List ℕ) (reads : List Bytes) (writes : List Write) : Type 0 where
  pub asked : CommitAsked sc.world n t parts reads writes
  pub counts : sc.asked (record { shard = n; txn = t; latest = latest; parts = parts; reads = reads; writes = writes })
  pub began : BeganBy sc t latest

-- what stands behind a row of a shard's memory
abbrev pub PhaseEvidence : Scene → List Record → ℕ → Id → Phase → Type 0
PhaseEvidence sc log n t (WaitsPrepare c rs ws) = PrepareAsked sc.world n t c rs ws
PhaseEvidence sc log n t (WaitsCommit l ps rs ws) = Remembers sc n t l ps rs ws
PhaseEvidence sc log n t (Collecting l ps rs ws votes) = Remembers sc n t l ps rs ws × AllByRecursion (VotedYes sc.world n t) votes
PhaseEvidence sc log n t (IsPrepared c p) = HasPromise log t c p
PhaseEvidence sc log n t (IsDecided s ps) = HasDecision log t s
PhaseEvidence sc log n t _ = Unit {0}

-- of each row
abbrev pub RowsEvidence : Scene → List Record → ℕ → List Row → Type 0
RowsEvidence sc log n rows = AllByRecursion (λ (r : Row). PhaseEvidence sc log n r.txn r.phase) rows

-- ---- messages

-- a question after an outcome
pub record AskEvidence (log : List Record) (to : Address) (t : Id) : Type 0 where
  pub coordinator : ℕ
  pub stamp : ℕ
  pub promised : HasPromise log t coordinator stamp
  pub receiver : to ≡ Shard coordinator

-- a vote yes
pub record VoteEvidence (log : List Record) (t : Id) (at : ℕ) : Type 0 where
  pub coordinator : ℕ
  pub promised : HasPromise log t coordinator at

-- what a shard with this log may say at a time
abbrev pub Told : List Record → ℕ → ℕ → Address → Message → Type 0
Told log now n to (Message.Vote v) = elim v.vote [ None ↦ Unit {0} | Some at ↦ (v.from ≡ n) × VoteEvidence log v.txn at ]
Told log now n to (Message.Outcome o) = elim o.outcome [
  | None ↦ (o.from ≡ n) × IsAmong log (Record.Abort o.txn)
  | Some s ↦ (o.from ≡ n)
      × HasOutcome log now o.txn s
]
Told log now n to (Message.Ask a) = (a.from ≡ n) × AskEvidence log to a.txn
Told log now n to (Message.Done d) = elim d.outcome [ None ↦ IsAmong log (Record.Abort d.txn) | Some s ↦ HasOutcome log now d.txn s ]
Told log now n to (Message.ReadAnswer a) = Unit {0}
Told log now n to _ = ⊥

-- of each message of an outbox
abbrev pub AllTold : List Record → ℕ → ℕ → List Envelope → Type 0
AllTold log now n es = AllByRecursion (λ (e : Envelope). Told log now n e.to e.message) es

-- some shard said it, and its log still says so
pub record SaidBySome (sc : Scene) (to : Address) (m : Message) : Type 0 where
  pub shard : ℕ
  pub told : Told (log_at sc.world shard) sc.now shard to m

-- what stands behind a message
abbrev pub MessageEvidence : Scene → Address → Message → Type 0
MessageEvidence sc to (Message.Read r) = Unit {0}
MessageEvidence sc to (Message.GiveUp g) = Unit {0}
MessageEvidence sc to (Message.Prepare p) = IsOfClosing sc.world p.txn (record { to = to; message = Message.Prepare p })
MessageEvidence sc to (Message.Commit c) = IsOfClosing sc.world c.txn (record { to = to; message = Message.Commit c })
MessageEvidence sc to message = SaidBySome sc to message

-- ---- what a status of a log rests on

-- an abort and an outcome stand in the log
abbrev pub StatusEvidence : List Record → ℕ → Id → Status → Type 0
StatusEvidence log now t HasAborted = IsAmong log (Record.Abort t)
StatusEvidence log now t (HasSettled s ps) = HasOutcome log now t s
StatusEvidence log now t _ = Unit {0}

-- ---- lines

-- an acknowledgement was put out, at an event whose time is above its timestamp
pub record AckEvidence (sc : Scene) (t : Id) (at event : ℕ) : Type 0 where
  pub to : Address
  pub sent : IsAmong sc.world.bag (record { to = to; message = Message.Done (record { txn = t; outcome = Some at }) })
  pub time : ℕ
  pub timed : slice_get sc.times event ≡ Some time
  pub above : at < time

-- what stands behind a line
abbrev pub LineEvidence : Scene → Line → Type 0
LineEvidence sc (Line.Ack t at event) = AckEvidence sc t at event
LineEvidence sc _ = Unit {0}

-- ---- a whole scene

-- what a running shard remembers rests on something, and no record of it is unsure
abbrev pub StateEvidence : Scene → ShardNow → ℕ → State → Type 0
StateEvidence sc s n (Runs m) = RowsEvidence sc s.log n m.rows × (s.unsure ≡ Nothing)
StateEvidence sc s n _ = Unit {0}

-- what stands behind a shard: its records, one that is unsure, and its rows
pub record ShardEvidence (sc : Scene) (n : ℕ) (s : ShardNow) : Type 0 where
  pub records : (r : Record) → IsAmong s.log r → RecordEvidence sc s.log n r
  pub unsure : (r : Record) → IsUnsure s.unsure r → RecordEvidence sc s.log n r
  pub state : StateEvidence sc s n s.state

-- something stands behind all that there is
pub record Holds (sc : Scene) : Type 0 where
  pub counted : sc.world.event ≡ sc.event
  pub messages : (e : Envelope) → IsAmong sc.world.bag e → MessageEvidence sc e.to e.message
  pub shards : (n : ℕ) (s : ShardNow) → slice_get sc.world.shards n ≡ Some s → ShardEvidence sc n s
  pub lines : (l : Line) → IsAmong sc.world.lines l → LineEvidence sc l
  -- each session began, once
  pub clients : (t : Id) (c : Client) → client_of sc.world t ≡ Some c → BeganBy sc t sc.now
  pub begun : (t : Id) (event : ℕ) → IsAmong sc.world.lines (Line.Begin t event) → (c : Client) × (client_of sc.world t ≡ Some c)
  pub once : (t : Id) (event other : ℕ) → IsAmong sc.world.lines (Line.Begin t event) → IsAmong sc.world.lines (Line.Begin t other) → event ≡ other
