-- The world: sessions, shards, every message ever put out, and the lines of the report. An event changes it by a step of a
-- session, by a step of a shard, by a crash or by an opening.
use Rattle.std.specs.List.{list_any}
use Rattle.std.specs.Prelude.{ℕ, suc, ◌+◌, ◌^◌, Bool, true, false, not, cond, ◌&&◌, nat_eq, nat_lt, nat_le, List, [], ◌∷◌, ◌++◌, length, map}
use Rattle.std.specs.Prelude.{if◌then◌else◌, replicate, slice_get, Option, Some, None, filter, flat_map, option_map, option_to_list}
use Rattle.units.specs.Lists.{first, replaced, when}
use Rattle.units.specs.Ids.{Id, same_id}
use Rattle.units.specs.Keys.{Bytes, shard_of}
use Rattle.units.specs.Versions.{at_time}
use Rattle.units.specs.declared.writes.Install.{Install}
use Rattle.record.specs.Facts.{Facts, facts_of}
use Rattle.protocol.specs.Rows.{Memory, safe, rebuilt}
use Rattle.protocol.specs.Plan.{time_limit}
use Rattle.protocol.specs.Step.{Stepped, Refuses, Does, step}
use Rattle.session.specs.Sessions.{Client, IsOpen, IsClosing, IsOver, begun, Moved, Denies, Goes, reads, buffers, hears, closes, gives_up, finishes, was_taken}
use Rattle.record.specs.History.{history, find_txn, Txn}
use Rattle.units.specs.declared.fault.Fault.{Fault}
use Rattle.units.specs.declared.fault.Fault.TheVariants.{Device, Stopped, TimeSpent, NotYet, Stranger, TooOld}
use Rattle.truetime.specs.Interval.{Interval}
use Rattle.units.specs.declared.setup.Setup.{Setup}
use Rattle.units.specs.declared.setup.Book.TheVariants.{Off}
use Rattle.units.specs.declared.line.Line.{Line}
use Rattle.record.specs.declared.record.Record.{Record}
use Rattle.gatelog.specs.Frames.{end_from, next_gate}
use Rattle.gatelog.specs.Gates.{first_gate, is_left, is_read, opens_gate}
use Rattle.gatelog.specs.declared.frame.TheConstants.{SLOTS}
use Rattle.ledger.specs.Turned.{turned}
use Rattle.message.specs.declared.message.Message.{Message}
use Rattle.message.specs.declared.message.Envelope.{Envelope}
use Rattle.message.specs.declared.message.Address.TheVariants.{Shard, Session}
use Rattle.message.specs.declared.message.Answer.{Answer}
use Rattle.message.specs.declared.message.Answer.TheVariants.{Holds, Refused}
use Rattle.message.specs.declared.message.ReadAnswer.{ReadAnswer}
use Rattle.message.specs.declared.message.Input.{Input}
use Rattle.world.specs.declared.event.Act.{Act}
use Rattle.disk.specs.declared.plan.Fate.{Fate}
use Rattle.world.specs.declared.event.Config.{Config}
use Rattle.world.specs.declared.event.Doing.{Doing}
use Rattle.world.specs.declared.event.Event.{Event}
use Rattle.world.specs.declared.event.Reply.{Reply}

-- what a view shows: the versions, the served time and the horizon of one moment
pub record View : Type 0 where
  pub installs : List Install
  pub safe : ℕ
  pub horizon : ℕ

-- a shard runs, is stopped by its device (and can still be looked at), or is down
pub data State : Type 0 where
  Runs : Memory → State
  IsStopped : Memory → State
  IsDown : State

-- the area of a file that its log is in: where it begins, the number of the next free slot, and its records
pub record Area : Type 0 where
  pub begins : ℕ
  pub slot : ℕ
  pub records : List Record

-- A record whose append failed, or an area to which a turnover failed: a read of the disk gives it, or gives it not, and a crash may
-- leave it
pub data Unsure : Type 0 where
  Nothing : Unsure
  Shown : Record → Unsure
  Hidden : Record → Unsure
  TurnShown : Area → Unsure
  TurnHidden : Area → Unsure

-- A shard: the records that it surely has logged since it was formatted, the area of its disk that surely keeps what they say, a record or
-- an area that may be there beside, its state and its views
pub record ShardNow : Type 0 where
  pub log : List Record
  pub area : Area
  pub unsure : Unsure
  pub state : State
  pub views : List View

-- the world after some events. The sessions are those that have begun
pub record World : Type 0 where
  pub config : Config
  pub event : ℕ
  pub time : ℕ
  pub clients : List Client
  pub shards : List ShardNow
  pub bag : List Envelope
  pub lines : List Line

-- ---- one shard

-- what a shard is told
abbrev pub setup_of : Config → ℕ → Setup
setup_of config n = record { shard = n; splits = config.splits; stride = config.stride; book = Off }

-- an unsure record that a read of the disk gives
abbrev pub shown_records : Unsure → List Record
shown_records Nothing = []
shown_records (Shown r) = r ∷ []
shown_records (Hidden r) = []
shown_records (TurnShown other) = []
shown_records (TurnHidden other) = []

-- the records logged since the formatting, as a read of the disk tells of them
abbrev pub read_log : ShardNow → List Record
read_log s = s.log ++ shown_records s.unsure

-- an area with more records
abbrev pub with_records : Area → List Record → Area
with_records area more = record { begins = area.begins; slot = area.slot; records = area.records ++ more }

-- the area that a read of the disk gives
abbrev pub shown_area : Area → Unsure → Area
shown_area area Nothing = area
shown_area area (Shown r) = with_records area (r ∷ [])
shown_area area (Hidden r) = area
shown_area area (TurnShown other) = other
shown_area area (TurnHidden other) = area

-- a read of the disk
abbrev pub read_area : ShardNow → Area
read_area s = shown_area s.area s.unsure

-- the offset of the closed gate behind it
abbrev pub gate_of : Area → ℕ
gate_of area = end_from area.begins area.records

-- the area that a turnover makes behind that gate, of what all records say
abbrev pub new_area : ShardNow → Area
new_area s =
    record { begins = gate_of (read_area s) + 1; slot = (read_area s).slot + 1; records = turned (facts_of (read_log s)) }

-- the view of a running shard
abbrev pub view_of : Facts → Memory → View
view_of facts memory = record { installs = facts.installs; safe = safe memory; horizon = facts.horizon }

-- an opening logs the next epoch, and finds its memory in the log
unfoldable pub step_of_opening : Facts → Stepped
step_of_opening facts =
    cond (nat_lt facts.epoch time_limit) (Does (Some (Record.Opened (facts.epoch + 1))) (rebuilt facts) []) (Refuses TimeSpent)

-- the input of a doing, with its reading; the message is the one of that number
abbrev pub input_of : List Envelope → Doing → Option (Interval × Input)
input_of bag (Doing.Take m now) = option_map (λ e. (now, Input.Deliver e.message)) (slice_get bag m)
input_of bag (Doing.Resume now) = Some (now, Input.Resume)
input_of bag (Doing.Settle t now) = Some (now, Input.Settle t)
input_of bag (Doing.Advance at now) = Some (now, Input.Advance at)
input_of bag (Doing.Nudge t now) = Some (now, Input.Nudge t)
input_of bag (Doing.Forget at now) = Some (now, Input.Forget at)
input_of bag (Doing.Retire below now) = Some (now, Input.Retire below)
input_of bag Doing.Turn = None
input_of bag Doing.Open = None

-- the step of a running shard
abbrev pub step_with : Setup → Facts → Memory → Option (Interval × Input) → Stepped
step_with setup facts memory None = Refuses Stopped
step_with setup facts memory (Some p) = step setup facts memory p.0 p.1

-- a slot is left for an area, and the file may grow by it
abbrev pub has_place : ℕ → Area → Bool
has_place slot area = nat_lt slot SLOTS && nat_le (gate_of area + 1) (2 ^ 40)

-- a turnover logs nothing and leaves memory as it is. It has to have a slot and room
abbrev pub step_of_turnover : ShardNow → Memory → Stepped
step_of_turnover s m = cond (has_place (read_area s).slot (new_area s)) (Does None m []) (Refuses TimeSpent)

-- what a doing asks for: a step or a turnover of a shard that runs, or an opening of one that does not
unfoldable pub wanted : Setup → List Envelope → ShardNow → Doing → Stepped
wanted setup bag s Doing.Open = elim s.state [ Runs m ↦ Refuses Stopped | _ ↦ step_of_opening (facts_of (read_log s)) ]
wanted setup bag s Doing.Turn = elim s.state [ Runs m ↦ step_of_turnover s m | _ ↦ Refuses Stopped ]
wanted setup bag s doing =
    elim s.state [ Runs m ↦ step_with setup (facts_of s.log) m (input_of bag doing) | _ ↦ Refuses Stopped ]

-- a log that ends at a gate has room for a record and for the closed gate behind it
abbrev pub has_room : ℕ → Record → Bool
has_room gate r = nat_le (next_gate gate r + 1) (2 ^ 40)

-- a step whose record has no room is refused
abbrev pub where_room : ℕ → Stepped → Stepped
where_room gate (Refuses f) = Refuses f
where_room gate (Does None memory out) = Does None memory out
where_room gate (Does (Some r) memory out) = cond (has_room gate r) (Does (Some r) memory out) (Refuses TimeSpent)

-- what a doing comes to: it is done where its record has room
unfoldable pub effect : Setup → List Envelope → ShardNow → Doing → Stepped
effect setup bag s doing = where_room (gate_of (read_area s)) (wanted setup bag s doing)

-- a view is made by each opening and each accepted advance
abbrev pub makes_view : Doing → Bool
makes_view Doing.Open = true
makes_view (Doing.Advance at now) = true
makes_view _ = false

-- the view that a doing makes, where it makes one
abbrev pub new_view : Doing → List Record → Memory → List View
new_view doing log memory = cond (makes_view doing) (view_of (facts_of log) memory ∷ []) []

-- a log is turned over by it
abbrev pub turns : Doing → Bool
turns Doing.Turn = true
turns _ = false

-- the area behind a doing that is done: a new one behind a turnover, else that of before, with the record that was logged
abbrev pub area_behind : ShardNow → Doing → Option Record → Area
area_behind s doing logged = cond (turns doing) (new_area s) (with_records (read_area s) (option_to_list logged))

-- a doing that is done: its record, or its area, is on the disk. An opening keeps what a read gave it
unfoldable pub finished : ShardNow → Doing → Option Record → Memory → ShardNow
finished s doing logged memory =
    let log : List Record = read_log s ++ option_to_list logged in
    record { log = log; area = area_behind s doing logged; unsure = Nothing; state = Runs memory; views = s.views ++ new_view doing log memory }

-- a crash leaves an unsure record where its gate is left open
abbrev pub left_of : Fate → Unsure → List Record
left_of fate Nothing = []
left_of fate (Shown r) = cond (opens_gate fate) (r ∷ []) []
left_of fate (Hidden r) = cond (opens_gate fate) (r ∷ []) []
left_of fate (TurnShown other) = []
left_of fate (TurnHidden other) = []

-- and an unsure area where its slot is left open
abbrev pub left_area_of : Fate → Area → Unsure → Area
left_area_of fate area Nothing = area
left_area_of fate area (Shown r) = with_records area (left_of fate (Shown r))
left_area_of fate area (Hidden r) = with_records area (left_of fate (Hidden r))
left_area_of fate area (TurnShown other) = cond (opens_gate fate) other area
left_area_of fate area (TurnHidden other) = cond (opens_gate fate) other area

-- what a crash leaves of a shard's records since the formatting, and of its area
abbrev pub left_log : Fate → ShardNow → List Record
left_log fate s = s.log ++ left_of fate s.unsure

abbrev pub left_area : Fate → ShardNow → Area
left_area fate s = left_area_of fate s.area s.unsure

-- a shard that crashed, with the records and the area that are left
abbrev pub crashed : ShardNow → List Record → Area → ShardNow
crashed s log area = record { log = log; area = area; unsure = Nothing; state = IsDown; views = s.views }

-- what a refused doing leaves for a crash: an opening has synced what it read, other doings made no call
abbrev pub left_by_refused : ShardNow → Fate → Doing → ShardNow
left_by_refused s fate Doing.Open = crashed s (read_log s) (read_area s)
left_by_refused s fate doing = crashed s (left_log fate s) (left_area fate s)

-- a read gives the new area, where this call of a turnover fails
abbrev pub is_read_turn : ℕ → Bool
is_read_turn call = nat_le 4 call

-- a crash leaves the new area, where this call fails and the oldest change that is not synced has this fate
abbrev pub is_left_turn : ℕ → Fate → Bool
is_left_turn call fate = if nat_le call 2 then false else (if nat_le call 4 then opens_gate fate else true)

-- what a crash leaves of the area in a call of a doing that logs nothing: in that of a turnover the new one, where its slot is left open
abbrev pub area_left_in : ℕ → Fate → Doing → ShardNow → Area
area_left_in call fate doing s = cond (turns doing && is_left_turn call fate) (new_area s) (read_area s)

-- a crash in a call of a doing
unfoldable pub crashed_in : ShardNow → ℕ → Fate → Doing → Stepped → ShardNow
crashed_in s call fate doing (Refuses f) = left_by_refused s fate doing
crashed_in s call fate doing (Does None memory out) = crashed s (read_log s) (area_left_in call fate doing s)
crashed_in s call fate doing (Does (Some r) memory out) =
    let more : List Record = cond (is_left call fate) (r ∷ []) [] in crashed s (read_log s ++ more) (with_records (read_area s) more)

-- what a failing call leaves of the record: it is hidden behind a gate that was not written, or shown and not synced
abbrev pub left_unsure : ℕ → Record → Unsure
left_unsure call r = cond (is_read call) (Shown r) (cond (is_left call Fate.New) (Hidden r) Nothing)

-- and what one of a turnover leaves of its area
abbrev pub turn_unsure : ℕ → Area → Unsure
turn_unsure call other = cond (is_read_turn call) (TurnShown other) (cond (is_left_turn call Fate.New) (TurnHidden other) Nothing)

-- a shard whose device failed is stopped with the memory that it had; an opening that fails leaves it down
abbrev pub stopped : State → State
stopped (Runs m) = IsStopped m
stopped _ = IsDown

-- a shard whose call of that number failed in the append of a record
unfoldable pub failed_in : ShardNow → ℕ → Record → ShardNow
failed_in s call r =
    record { log = read_log s; area = read_area s; unsure = left_unsure call r; state = stopped s.state; views = s.views }

-- or in a turnover
unfoldable pub failed_turn : ShardNow → ℕ → ShardNow
failed_turn s call =
    record { log = read_log s; area = read_area s; unsure = turn_unsure call (new_area s); state = stopped s.state; views = s.views }

-- a look at what a view shows: the key belongs here, and the time is not forgotten, and is served
abbrev pub look_view : Setup → View → Bytes → ℕ → Reply
look_view setup v k at =
    cond (not (nat_eq (shard_of setup.splits k) setup.shard)) (Reply.Refused Stranger)
    (cond (nat_lt at v.horizon) (Reply.Refused TooOld)
    (cond (nat_le at v.safe) (Reply.Shows (at_time v.installs k at)) (Reply.Refused NotYet)))

-- a look at a shard: a stopped one can be looked at, one that is down not
abbrev pub look_shard : Setup → ShardNow → Bytes → ℕ → Reply
look_shard setup s k at =
    elim s.state [
      | Runs m ↦ look_view setup (view_of (facts_of s.log) m) k at
      | IsStopped m ↦
          look_view setup (view_of (facts_of s.log) m) k at
      | IsDown ↦ Reply.Refused Stopped
    ]

-- ---- the world

-- what an event comes to: the world after it, and its reply
abbrev pub After : Type 0
After = World × Reply

-- the timestamp at which a message tells a session that it committed
abbrev pub commit_told : Id → Envelope → Option ℕ
commit_told t e = elim e.message [ Message.Done d ↦ cond (same_id d.txn t) d.outcome None | _ ↦ None ]

-- the acknowledgement that a commit told to a session is: the first that tells it so
abbrev pub ack_of : World → Id → Option ℕ → List Line
ack_of w t None = []
ack_of w t (Some s) = cond (list_any (λ e. when (λ x. true) (commit_told t e)) w.bag) [] (Line.Ack t s w.event ∷ [])

-- the acknowledgements among new messages
abbrev pub acks_of : World → Envelope → List Line
acks_of w e = elim e.message [ Message.Done d ↦ ack_of w d.txn d.outcome | _ ↦ [] ]

-- messages are put out
unfoldable pub put_out : List Envelope → World → World
put_out out w = record w { bag = w.bag ++ out; lines = w.lines ++ flat_map (acks_of w) out }

-- a line is written
abbrev pub note : Line → World → World
note l w = record w { lines = w.lines ++ l ∷ [] }

-- a refused event leaves all as it was
abbrev pub refused : World → Fault → After
refused w f = (w, Reply.Refused f)

-- another shard in a place
abbrev pub set_shard : ℕ → ShardNow → World → World
set_shard n s w = record w { shards = replaced w.shards n s }

-- the session of an id
abbrev pub client_of : World → Id → Option Client
client_of w t = first (λ c. same_id c.txn t) w.clients

-- another session in a place
abbrev pub set_client : Client → World → World
set_client c w = record w { clients = map (λ d. cond (same_id d.txn c.txn) c d) w.clients }

-- a session's step
abbrev pub moved : World → Moved → After
moved w (Denies f) = refused w f
moved w (Goes c out) = (put_out out (set_client c w), Reply.Done)

-- an open session takes the step; any other is a stranger to it
abbrev pub if_open : World → Option Client → (Client → Moved) → After
if_open w None f = refused w Stranger
if_open w (Some c) f = elim c.stage [ IsOpen ↦ moved w (f c) | _ ↦ refused w Stranger ]

-- giving up ends a session that is not over
abbrev pub if_not_over : World → Option Client → (Client → Moved) → After
if_not_over w None f = refused w Stranger
if_not_over w (Some c) f = elim c.stage [ IsOver ↦ refused w Stranger | _ ↦ moved w (f c) ]

-- a closing session hears the end
abbrev pub if_closing : World → Option Client → After
if_closing w None = refused w Stranger
if_closing w (Some c) = elim c.stage [ IsClosing ↦ moved w (finishes c) | _ ↦ refused w Stranger ]

-- the line of an answer: it has a value, and the session took it
abbrev pub read_lines : Client → Client → Bytes → Answer → List Line
read_lines c d k Refused = []
read_lines c d k (Holds x) = cond (was_taken d k && not (was_taken c k)) (Line.Read c.txn k x ∷ []) []

-- an answer comes to an open session
abbrev pub answered : World → Client → ReadAnswer → After
answered w c a =
    let d : Client = hears a.from a.key a.epoch a.answer c in
    (record (set_client d w) { lines = w.lines ++ read_lines c d a.key a.answer }, Reply.Done)

-- an open session takes each answer
abbrev pub if_hearing : World → Option Client → ReadAnswer → After
if_hearing w None a = refused w Stranger
if_hearing w (Some c) a = elim c.stage [ IsOpen ↦ answered w c a | _ ↦ refused w Stranger ]

-- a message comes to a session
unfoldable pub to_session : World → Message → After
to_session w (Message.ReadAnswer a) = if_hearing w (client_of w a.txn) a
to_session w (Message.Done d) = if_closing w (client_of w d.txn)
to_session w _ = refused w Stranger

-- a refused doing leaves all as it was; but a refused opening leaves the shard down, and has synced what it read
abbrev pub refused_doing : World → ℕ → ShardNow → Doing → Fault → After
refused_doing w n s Doing.Open f =
    elim s.state [ Runs m ↦ refused w f | _ ↦ (set_shard n (crashed s (read_log s) (read_area s)) w, Reply.Refused f) ]
refused_doing w n s doing f = refused w f

-- a shard's doing is done
unfoldable pub did : World → ℕ → ShardNow → Doing → Stepped → After
did w n s doing (Refuses f) = refused_doing w n s doing f
did w n s doing (Does logged memory out) = (put_out out (set_shard n (finished s doing logged memory) w), Reply.Done)

-- a call of it fails; where it makes no such call it is done
unfoldable pub did_with_failure : World → ℕ → ShardNow → ℕ → Doing → Stepped → After
did_with_failure w n s call doing (Refuses f) = did w n s doing (Refuses f)
did_with_failure w n s call doing (Does None memory out) =
    cond (turns doing && nat_lt call 5) (set_shard n (failed_turn s call) w, Reply.Refused Device) (did w n s doing (Does None memory out))
did_with_failure w n s call doing (Does (Some r) memory out) =
    cond (nat_lt call 4) (set_shard n (failed_in s call r) w, Reply.Refused Device) (did w n s doing (Does (Some r) memory out))

-- an event at a shard that exists
abbrev pub at_shard : World → ℕ → (Setup → ShardNow → After) → After
at_shard w n f = elim (slice_get w.shards n) [ None ↦ refused w Stranger | Some s ↦ f (setup_of w.config n) s ]

-- a doing at a shard
abbrev pub do_at : World → ℕ → Doing → After
do_at w n doing = at_shard w n (λ setup s. did w n s doing (effect setup w.bag s doing))

-- a delivery: to a shard, or to a session
unfoldable pub deliver_to : World → ℕ → Interval → Option Envelope → After
deliver_to w m now None = refused w Stranger
deliver_to w m now (Some e) = elim e.to [ Shard n ↦ do_at w n (Doing.Take m now) | Session t ↦ to_session w e.message ]

-- an answered look is a line
abbrev pub look_noted : World → Bytes → ℕ → Reply → After
look_noted w k at (Reply.Shows x) = (note (Line.Look k at x) w, Reply.Shows x)
look_noted w k at reply = (w, reply)

-- a look at a view that a shard has
abbrev pub look_at_view : Setup → Option View → Bytes → ℕ → Reply
look_at_view setup None k at = Reply.Refused Stranger
look_at_view setup (Some v) k at = look_view setup v k at

-- a session begins
abbrev pub begin : Id → World → World
begin t w = note (Line.Begin t w.event) (record w { clients = w.clients ++ begun t ∷ [] })

-- one act
unfoldable pub acts : World → Act → After
acts w (Act.Begin t) = (begin t w, Reply.Done)
acts w (Act.Read t k) = if_open w (client_of w t) (reads w.config.splits k)
acts w (Act.Write t k x) = if_open w (client_of w t) (buffers (record { key = k; value = x }))
acts w (Act.Close t) = if_open w (client_of w t) (closes w.config.splits)
acts w (Act.Quit t) = if_not_over w (client_of w t) (gives_up w.config.splits)
acts w (Act.Deliver m now) = deliver_to w m now (slice_get w.bag m)
acts w (Act.At n doing) = do_at w n doing
acts w (Act.Look n k at) = at_shard w n (λ setup s. look_noted w k at (look_shard setup s k at))
acts w (Act.View n v k at) = at_shard w n (λ setup s. look_noted w k at (look_at_view setup (slice_get s.views v) k at))
acts w (Act.Crash n) = at_shard w n (λ setup s. (set_shard n (crashed s s.log s.area) w, Reply.Crashed))
acts w (Act.CrashIn n call fate named doing) =
    at_shard w n (λ setup s. (set_shard n (crashed_in s call fate doing (effect setup w.bag s doing)) w, Reply.Crashed))
acts w (Act.FailIn n call named doing) =
    at_shard w n (λ setup s. did_with_failure w n s call doing (effect setup w.bag s doing))

-- the clock and the count of events go on
abbrev pub ticked : World → ℕ → World
ticked w time = record w { event = suc w.event; time = time }

-- one event
unfoldable pub happens : World → Event → After
happens w e = let after : After = acts w e.act in (ticked after.0 e.time, after.1)

-- a shard that was formatted and opened
abbrev pub fresh_log : List Record
fresh_log = Record.Opened 1 ∷ []

-- its area, the first of its file
abbrev pub fresh_area : Area
fresh_area = record { begins = first_gate; slot = 0; records = fresh_log }

-- its shard, with its first view
abbrev pub fresh_shard : ShardNow
fresh_shard =
    let memory : Memory = rebuilt (facts_of fresh_log) in
    record { log = fresh_log; area = fresh_area; unsure = Nothing; state = Runs memory; views = view_of (facts_of fresh_log) memory ∷ [] }

-- the world before the first event
unfoldable pub start : Config → World
start config =
    record {
      config = config;
      event = 0;
      time = 0;
      clients = [];
      shards = replicate (suc (length config.splits)) fresh_shard;
      bag = [];
      lines = [];
    }

-- the world after some events
abbrev pub run_from : World → List Event → World
run_from w [] = w
run_from w (e ∷ es) = run_from ((happens w e).0) es

-- a whole run
unfoldable pub run : Config → List Event → World
run config es = run_from (start config) es

-- the replies, one for each event
abbrev pub replies_from : World → List Event → List Reply
replies_from w [] = []
replies_from w (e ∷ es) = let after : After = happens w e in after.1 ∷ replies_from (after.0) es

-- the replies of a whole run
unfoldable pub replies_of_run : Config → List Event → List Reply
replies_of_run config es = replies_from (start config) es

-- all records logged since the formatting, as reads of the disks tell of them
unfoldable pub logs_of : World → List (List Record)
logs_of w = map read_log w.shards

-- the logs that reads of the disks give
unfoldable pub areas_of : World → List (List Record)
areas_of w = map (λ s. (read_area s).records) w.shards

-- the lines of the report: an answered read counts where its transaction committed
abbrev pub line_counts : List Txn → Line → Bool
line_counts h (Line.Read t k x) = when (λ u. true) (find_txn h t)
line_counts h _ = true

-- the lines that count
unfoldable pub counted_lines : List (List Record) → List Line → List Line
counted_lines logs lines = filter (line_counts (history logs)) lines
