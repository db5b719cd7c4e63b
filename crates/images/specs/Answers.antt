-- From bytes to answers. Beside a run of the definitions stand cores on disks, call by call. What a core puts out is what the run puts out at
-- that event, and how a core is looked at is how the run's shard is looked at. So what a client is told is what the logs of every later image say.
use Rattle.std.specs.Prelude.{ℕ, ◌≡◌, ◌++◌, ◌∷◌, IsTrue, List, [], length, slice_get, Option, Some, Result, Ok, Err, IfOk}
use Rattle.units.specs.Ids.{Id}
use Rattle.units.specs.Keys.{Bytes}
use Rattle.units.specs.declared.fault.Fault.{Fault}
use Rattle.units.specs.declared.fault.Fault.TheVariants.{Room}
use Rattle.units.specs.declared.line.Seen.{Seen}
use Rattle.units.specs.declared.setup.Setup.{Setup}
use Rattle.units.specs.declared.writes.Install.{Install}
use Rattle.disk.specs.declared.plan.FailurePlan.{FailurePlan}
use Rattle.disk.specs.File.{File}
use Rattle.record.specs.History.{history, upto}
use Rattle.record.specs.Lines.{is_in_at}
use Rattle.record.specs.Whole.{is_whole}
use Rattle.message.specs.declared.message.Address.{Address}
use Rattle.message.specs.declared.message.Envelope.{Envelope}
use Rattle.board.specs.Board.{horizon_on, versions_on}
use Rattle.board.specs.Look.{look_answer, look_buffer}
use Rattle.board.specs.declared.entry.BoardEntry.{BoardEntry}
use Rattle.board.specs.declared.entry.BoardEntry.TheVariants.{Safe}
use Rattle.shard.specs.Look.{IsLook, IsOver, IsSeen, safe_at}
use Rattle.lives.specs.On.{CoreView}
use Rattle.world.specs.Headline.{doing_of}
use Rattle.world.specs.Lawful.{lawful}
use Rattle.world.specs.World.{World, ShardNow, happens, look_at_view, look_shard, makes_view, run, setup_of, start}
use Rattle.world.specs.declared.event.Act.{Act}
use Rattle.world.specs.declared.event.Config.{Config}
use Rattle.world.specs.declared.event.Doing.{Doing}
use Rattle.world.specs.declared.event.Event.{Event}
use Rattle.world.specs.declared.event.Reply.{Reply}
use Rattle.law.specs.Acknowledged.{committed_to}
use Rattle.law.specs.Among.{IsAmong}
use Rattle.images.specs.Images.{AreFresh, AreLeft, Calls, HaveLogs, IsOwnAnswer, Leads, Life, Up, Turn, Happens, events_of}

-- ---- what is put out

-- an act in which no call fails, and no crash strikes
abbrev pub IsPlain : Act → Type 0
IsPlain (Act.At n doing) = Unit {0}
IsPlain (Act.Deliver m now) = Unit {0}
IsPlain _ = ⊥

-- the messages of an answer, in order
abbrev pub sent : Result (List Envelope) Fault → List Envelope
sent (Ok out) = out
sent (Err fault) = []

-- the reply to an event whose call is answered so
abbrev pub reply_of : Result (List Envelope) Fault → Reply
reply_of (Ok out) = Reply.Done
reply_of (Err fault) = Reply.Refused fault

-- the run replies to the event as the call is answered, and puts out the same messages, in the same order
pub record IsAnswered (w : World) (e : Event) (result : Result (List Envelope) Fault) : Type 0 where
  pub reply : (happens w e).1 ≡ reply_of result
  pub put_out : (happens w e).0.bag ≡ w.bag ++ sent result

-- ---- looks

-- a look answers as the run replies: it shows this value, or this value has no room in the buffer, or it is refused for the same
abbrev pub RepliesAs : Reply → List ℕ → List ℕ → Result Seen Fault → Type 0
RepliesAs reply old new (Ok seen) = (x : Option Bytes) × (reply ≡ Reply.Shows x) × IsSeen x old new seen
RepliesAs reply old new (Err Room) = (x : Option Bytes) × (reply ≡ Reply.Shows x) × IsOver x (length old)
RepliesAs reply old new (Err fault) = reply ≡ Reply.Refused fault

-- ---- lists of boards

-- A list of a board shows these versions, in order, this horizon, and last this served time. So do the list that a desk publishes when it has
-- opened its core, and the one that it publishes whenever it has advanced it
pub record ShowsTo (entries : List BoardEntry) (installs : List Install) (horizon served : ℕ) : Type 0 where
  pub versions : versions_on entries ≡ installs
  pub horizon_is : horizon_on entries ≡ horizon
  pub before : List BoardEntry
  pub ends : entries ≡ before ++ Safe served ∷ []

-- a viewer's look that this list answers
pub record IsLookAt (setup : Setup) (entries : List BoardEntry) (k : Bytes) (at : ℕ) (old new : List ℕ) (result : Result Seen Fault) : Type 0 where
  pub answered : result ≡ look_answer (record { splits = setup.splits; shard = setup.shard }) entries k at (length old)
  pub filled : new ≡ look_buffer (record { splits = setup.splits; shard = setup.shard }) entries k at old

-- looks that a list answers are looks at the view of that number of a shard of the run
pub record IsViewOf (config : Config) (es : List Event) (n : ℕ) (entries : List BoardEntry) : Type 0 where
  pub shard : ShardNow
  pub there : slice_get (run config es).shards n ≡ Some shard
  pub number : ℕ
  pub looks : (k : Bytes) (at : ℕ) (old new : List ℕ) (result : Result Seen Fault) → IsLookAt (setup_of config n) entries k at old new result →
      RepliesAs (look_at_view (setup_of config n) (slice_get shard.views number) k at) old new result

-- ---- what the logs of images say

-- the images have logs, in which the transaction is whole and committed at this timestamp
pub record HaveCommitted (config : Config) (es : List Event) (images : List (List ℕ)) (t : Id) (at : ℕ) : Type 0 where
  pub logs : HaveLogs config es images
  pub there : IsTrue (is_in_at (history logs.logs) t at)
  pub whole : IsTrue (is_whole t logs.logs)

-- the images have logs, and their serial run has this value of a key up to a time
pub record HaveValue (config : Config) (es : List Event) (images : List (List ℕ)) (k : Bytes) (at : ℕ) (x : Option Bytes) : Type 0 where
  pub logs : HaveLogs config es images
  pub serial : upto (history logs.logs) at k ≡ x

module _ {D : Type 0} (keeps obeys : Type 0) (file : D → File) (clock : D → ℕ) (since : D → ℕ → List ℕ → Type 0) (failures : D → ℕ)
    (plan : D → FailurePlan) where
  -- cores stand beside a run: some turns lead to them
  pub record StandBeside (config : Config) (turns : List Turn) (lives : ℕ → Life D) : Type 0 where
    pub fair : IsTrue (lawful config (events_of turns))
    pub first : ℕ → Life D
    pub fresh : AreFresh keeps obeys file clock since failures plan config first
    pub leads : Leads keeps obeys file clock since failures plan (start config) turns first lives

  -- a call is made of a shard that there is, and is answered so, and not for want of memory or since the device failed
  pub record IsCall (config : Config) (turns : List Turn) (lives : ℕ → Life D) (n : ℕ) (doing : Doing) (result : Result (List Envelope) Fault)
      : Type 0 where
    pub shard : ShardNow
    pub there : slice_get (run config (events_of turns)).shards n ≡ Some shard
    pub after : Life D
    pub called : Calls keeps obeys file clock since failures plan (setup_of config n) (run config (events_of turns)).bag doing (lives n) after result
    pub own : IsOwnAnswer result
    -- an opening puts nothing out
    pub quiet : doing ≡ Doing.Open → IfOk result (λ out. out ≡ [])

  -- a core puts out what the run puts out at that event, and is refused for what the run refuses
  abbrev pub OutboxesAreTheRuns : Type 0
  OutboxesAreTheRuns =
      keeps → (config : Config) (turns : List Turn) (lives : ℕ → Life D) → StandBeside config turns lives → (e : Event) (n : ℕ) (doing : Doing) →
      IsPlain e.act → doing_of (run config (events_of turns)) e.act ≡ Some (n, doing) → (result : Result (List Envelope) Fault) →
      IsCall config turns lives n doing result → IsAnswered (run config (events_of turns)) e result

  -- a look at a core, which runs or is stopped, is the run's look at its shard
  abbrev pub LooksAreTheRuns : Type 0
  LooksAreTheRuns =
      keeps → (config : Config) (turns : List Turn) (lives : ℕ → Life D) → StandBeside config turns lives → (n : ℕ) (core : CoreView D) →
      lives n ≡ Up core → (s : ShardNow) → slice_get (run config (events_of turns)).shards n ≡ Some s →
      (k : Bytes) (at : ℕ) (old new : List ℕ) (result : Result Seen Fault) → IsLook core k at old new result →
      RepliesAs (look_shard (setup_of config n) s k at) old new result

  -- What a core tells committed, then and later, whatever crash comes: in the logs of all images the transaction is whole, and committed at that
  -- timestamp
  abbrev pub ToldIsThere : Type 0
  ToldIsThere =
      keeps → (config : Config) (turns : List Turn) (lives : ℕ → Life D) → StandBeside config turns lives → (e : Event) (n : ℕ) (doing : Doing) →
      IsPlain e.act → doing_of (run config (events_of turns)) e.act ≡ Some (n, doing) → (out : List Envelope) →
      IsCall config turns lives n doing (Ok out) → (to : Address) (t : Id) (at : ℕ) → IsAmong out (committed_to to t at) →
      (later : List Turn) (now : ℕ → Life D) → StandBeside config (turns ++ Happens e ∷ later) now →
      (images : List (List ℕ)) → AreLeft keeps obeys file clock since failures plan config (events_of (turns ++ Happens e ∷ later)) now images →
      HaveCommitted config (events_of (turns ++ Happens e ∷ later)) images t at

  -- What a look at a core shows is what the serial run has, in the logs of all images then and later, whatever crash comes
  abbrev pub ShownIsSerial : Type 0
  ShownIsSerial =
      keeps → (config : Config) (turns : List Turn) (lives : ℕ → Life D) → StandBeside config turns lives → (n : ℕ) (core : CoreView D) →
      lives n ≡ Up core → (s : ShardNow) → slice_get (run config (events_of turns)).shards n ≡ Some s →
      (k : Bytes) (at : ℕ) (old new : List ℕ) (seen : Seen) → IsLook core k at old new (Ok seen) →
      (time : ℕ) (later : List Turn) (now : ℕ → Life D) →
      StandBeside config (turns ++ Happens (record { time = time; act = Act.Look n k at }) ∷ later) now →
      (images : List (List ℕ)) →
      AreLeft keeps obeys file clock since failures plan config (events_of (turns ++ Happens (record { time = time; act = Act.Look n k at }) ∷ later)) now
      images → (x : Option Bytes) × IsSeen x old new seen
      × HaveValue config (events_of (turns ++ Happens (record { time = time; act = Act.Look n k at }) ∷ later)) images k at x

  -- A shard makes a view at an event, as it is opened or advanced. From then on a list that shows its core is that view of the run
  abbrev pub ListsAreViews : Type 0
  ListsAreViews =
      keeps → (config : Config) (turns : List Turn) (lives : ℕ → Life D) → StandBeside config turns lives → (e : Event) (n : ℕ) (doing : Doing) →
      IsPlain e.act → doing_of (run config (events_of turns)) e.act ≡ Some (n, doing) → IsTrue (makes_view doing) → (out : List Envelope) →
      IsCall config turns lives n doing (Ok out) → (next : ℕ → Life D) → StandBeside config (turns ++ Happens e ∷ []) next → (core : CoreView D) →
      next n ≡ Up core → (entries : List BoardEntry) → ShowsTo entries core.facts.installs core.facts.horizon (safe_at core) →
      (later : List Turn) (now : ℕ → Life D) → StandBeside config (turns ++ Happens e ∷ later) now →
      IsViewOf config (events_of (turns ++ Happens e ∷ later)) n entries

  -- What such a list shows a viewer is what the serial run has, in the logs of all images then and later, whatever crash comes
  abbrev pub ViewedIsSerial : Type 0
  ViewedIsSerial =
      keeps → (config : Config) (turns : List Turn) (lives : ℕ → Life D) → StandBeside config turns lives → (n : ℕ) (entries : List BoardEntry) →
      (v : IsViewOf config (events_of turns) n entries) → (k : Bytes) (at : ℕ) (old new : List ℕ) (seen : Seen) →
      IsLookAt (setup_of config n) entries k at old new (Ok seen) → (time : ℕ) (later : List Turn) (now : ℕ → Life D) →
      StandBeside config (turns ++ Happens (record { time = time; act = Act.View n v.number k at }) ∷ later) now → (images : List (List ℕ)) →
      AreLeft keeps obeys file clock since failures plan config
      (events_of (turns ++ Happens (record { time = time; act = Act.View n v.number k at }) ∷ later)) now images →
      (x : Option Bytes) × IsSeen x old new seen
      × HaveValue config (events_of (turns ++ Happens (record { time = time; act = Act.View n v.number k at }) ∷ later)) images k at x
