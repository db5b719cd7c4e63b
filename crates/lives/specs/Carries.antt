-- What a doing, with a device call armed or with none, answers and leaves, but for its view.
use Rattle.std.specs.Prelude.{◌≡◌, ◌⊎◌, ℕ, Bool, false, true, IsTrue, cond, nat_lt, List, [], ◌∷◌, ◌++◌, length, take, Option, Some, None, Result, Ok}
use Rattle.std.specs.Prelude.{Err, option_to_list}
use Rattle.units.specs.declared.fault.Fault.{Fault}
use Rattle.units.specs.declared.fault.Fault.TheVariants.{Device, Memory, Stopped}
use Rattle.units.specs.declared.setup.Book.TheVariants.{Off}
use Rattle.units.specs.declared.setup.Setup.{Setup}
use Rattle.units.specs.declared.writes.Install.{Install}
use Rattle.truetime.specs.Interval.{Interval}
use Rattle.record.specs.Accepted.{Accepted, followed, taken}
use Rattle.record.specs.Facts.{facts_of}
use Rattle.record.specs.declared.record.Record.{Record}
use Rattle.message.specs.declared.message.Envelope.{Envelope}
use Rattle.message.specs.declared.message.Input.{Input}
use Rattle.protocol.specs.Rows.{Memory as Kept}
use Rattle.protocol.specs.Step.{Stepped, Refuses, Does, step}
use Rattle.ledger.specs.Keeps.{Alike, IsLasting}
use Rattle.shard.specs.Core.{seen}
use Rattle.shard.specs.On.{CoreView}
use Rattle.simdisk.specs.declared.simdisk.SimDisk.{SimDisk}
use Rattle.world.specs.World.{ShardNow, State, Runs, IsStopped, IsDown, Nothing, area_behind, crashed, effect, failed_in, failed_turn, gate_of}
use Rattle.world.specs.World.{read_area, read_log, step_of_opening, step_of_turnover, turns, where_room}
use Rattle.world.specs.Lawful.{is_up}
use Rattle.world.specs.declared.event.Doing.{Doing}
use Rattle.lives.specs.Inputs.{goes_on}
use Rattle.lives.specs.Lives.{HoldsLog, IsCoreIn, LivesAs, disk_log}
use Rattle.lives.specs.declared.life.Life.{Life}
use Rattle.lives.specs.declared.life.Life.TheVariants.{Up, Down}

-- ---- what the definitions say, told of one shard

-- how many device calls of a doing may fail: the four of an append, where it logs a record, and the five of a turnover
abbrev pub calls_of : Doing → Option Record → ℕ
calls_of doing (Some r) = 4
calls_of doing None = cond (turns doing) 5 0

-- one of so many calls is to fail, or none is
abbrev pub by_call : {A : Type 0} → ℕ → Option ℕ → (ℕ → A) → A → A
by_call calls None failed done = done
by_call calls (Some call) failed done = cond (nat_lt call calls) (failed call) done

-- what is answered
abbrev pub answer_of : Option ℕ → Doing → Stepped → Result (List Envelope) Fault
answer_of call doing (Refuses fault) = Err fault
answer_of call doing (Does logged memory out) = by_call (calls_of doing logged) call (λ c. Err Device) (Ok out)

-- a shard whose call of that number failed: in the append of a record, or, without one, in a turnover
abbrev pub failed_by : ShardNow → Option Record → ℕ → ShardNow
failed_by s (Some r) call = failed_in s call r
failed_by s None call = failed_turn s call

-- a shard after a doing that is done, but for the view that it makes
abbrev pub stepped_shard : ShardNow → Doing → Option Record → Kept → ShardNow
stepped_shard s doing logged memory =
    record { log = read_log s ++ option_to_list logged; area = area_behind s doing logged; unsure = Nothing; state = Runs memory; views = s.views }

-- a shard after a doing, where a refusal leaves that other one
abbrev pub comes_to : ShardNow → ShardNow → Option ℕ → Doing → Stepped → ShardNow
comes_to s refused call doing (Refuses fault) = refused
comes_to s refused call doing (Does logged memory out) =
    by_call (calls_of doing logged) call (failed_by s logged) (stepped_shard s doing logged memory)

-- an opening of a shard that does not run, and is refused, leaves it down, and has synced what it read
abbrev pub unopened : ShardNow → State → ShardNow
unopened s (Runs m) = s
unopened s (IsStopped m) = crashed s (read_log s) (read_area s)
unopened s IsDown = crashed s (read_log s) (read_area s)

-- what a refused doing leaves
abbrev pub left_by_refusal : ShardNow → Doing → ShardNow
left_by_refusal s (Doing.Take m now) = s
left_by_refusal s (Doing.Resume now) = s
left_by_refusal s (Doing.Settle t now) = s
left_by_refusal s (Doing.Advance at now) = s
left_by_refusal s (Doing.Forget at now) = s
left_by_refusal s (Doing.Retire below now) = s
left_by_refusal s (Doing.Nudge t now) = s
left_by_refusal s Doing.Turn = s
left_by_refusal s Doing.Open = unopened s s.state

-- a shard after a doing, but for the view that it makes
abbrev pub left_by : ShardNow → Option ℕ → Doing → Stepped → ShardNow
left_by s call doing st = comes_to s (left_by_refusal s doing) call doing st

-- ---- what the code does

-- no book is kept, an opening takes the log that the disk holds, which is alike to what was logged, that may be renewed, and a record
-- that is logged follows those before it
pub record IsOrderly (setup : Setup) (s : ShardNow) (st : Stepped) : Type 0 where
  pub unbooked : setup.book ≡ Off
  pub takes : taken setup (disk_log s) ≡ Accepted
  pub alike : Alike (facts_of (read_log s)) (facts_of (disk_log s))
  pub lasting : IsLasting (facts_of (read_log s))
  pub follows : (r : Record) (memory : Kept) (out : List Envelope) → st ≡ Does (Some r) memory out → IsTrue (followed setup.shard (read_log s ++ r ∷ []))

-- memory was refused, or this is answered and left
abbrev pub Comes : Option ℕ → Doing → Stepped → Result (List Envelope) Fault → Type 0 → Type 0
Comes call doing st result left = (result ≡ Err Memory) ⊎ ((result ≡ answer_of call doing st) × left)

-- a core shows what it showed, and maybe more behind that; refused, it shows the same
abbrev pub ShowsMore : List Install → List Install → Result (List Envelope) Fault → Type 0
ShowsMore old new (Ok out) = take (length old) new ≡ old
ShowsMore old new (Err fault) = new ≡ old

-- what an input comes to, of a shard in this state
abbrev pub asked_in : Setup → ShardNow → Interval → Input → State → Stepped
asked_in setup s now i (Runs m) = step setup (facts_of s.log) m now i
asked_in setup s now i (IsStopped m) = Refuses Stopped
asked_in setup s now i IsDown = Refuses Stopped

-- where its record has room
abbrev pub asked_if_room : Setup → ShardNow → Interval → Input → Stepped
asked_if_room setup s now i = where_room (gate_of (read_area s)) (asked_in setup s now i s.state)

-- what a core and what it shows come to
abbrev pub CoreComes : Setup → ShardNow → CoreView SimDisk → CoreView SimDisk → Option ℕ → Doing → Stepped → Result (List Envelope) Fault → Type 0
CoreComes setup s old new call doing st result =
    Comes call doing st result
    (IsCoreIn setup (comes_to s s call doing st) new (comes_to s s call doing st).state × ShowsMore old.facts.installs new.facts.installs result)

-- a core takes the input of a doing, and no call is armed behind it
abbrev pub TakesInput : CoreView SimDisk → CoreView SimDisk → Option ℕ → Doing → Interval → Input → Result (List Envelope) Fault → Type 0
TakesInput old new call doing now i result =
    (setup : Setup) (s : ShardNow) → IsCoreIn setup s old s.state → IsOrderly setup s (asked_if_room setup s now i)
    → CoreComes setup s old new call doing (asked_if_room setup s now i) result

-- what a turnover comes to, of a shard in this state
abbrev pub turns_in : ShardNow → State → Stepped
turns_in s (Runs m) = step_of_turnover s m
turns_in s (IsStopped m) = Refuses Stopped
turns_in s IsDown = Refuses Stopped

-- a core turns its log over, and no call is armed behind it
abbrev pub TurnsOver : CoreView SimDisk → CoreView SimDisk → Option ℕ → Result (List Envelope) Fault → Type 0
TurnsOver old new call result =
    (setup : Setup) (s : ShardNow) → IsCoreIn setup s old s.state → IsLasting (facts_of (read_log s))
    → CoreComes setup s old new call Doing.Turn (turns_in s s.state) result

-- what an opening comes to
abbrev pub opens_as : ShardNow → Stepped
opens_as s = where_room (gate_of (read_area s)) (step_of_opening (facts_of (read_log s)))

-- a shard that does not run, after an opening
abbrev pub opened_by : ShardNow → Option ℕ → ShardNow
opened_by s call = comes_to s (crashed s (read_log s) (read_area s)) call Doing.Open (opens_as s)

-- there is no core where an opening was refused
abbrev pub IsOpened : Result (List Envelope) Fault → Life → Type 0
IsOpened (Err fault) (Up core) = ⊥
IsOpened result life = Unit {0}

-- the disk of a shard that does not run is opened
abbrev pub OpensDisk : SimDisk → Setup → Option ℕ → Life → Result (List Envelope) Fault → Type 0
OpensDisk disk setup call life result =
    (s : ShardNow) → HoldsLog s disk → is_up s.state ≡ false → IsOrderly setup s (opens_as s)
    → Comes call Doing.Open (opens_as s) result (LivesAs setup (opened_by s call) life × IsOpened result life)

-- a core does what is no opening
abbrev pub DoesInput : CoreView SimDisk → CoreView SimDisk → List Envelope → Option ℕ → Doing → Result (List Envelope) Fault → Type 0
DoesInput old new bag call doing result =
    (setup : Setup) (s : ShardNow) → IsCoreIn setup s old s.state → IsOrderly setup s (effect setup bag s doing)
    → CoreComes setup s old new call doing (effect setup bag s doing) result

-- but for an opening that is done, a core shows what was shown, and maybe more
abbrev pub ShowsFrom : Bool → List Install → List Install → Result (List Envelope) Fault → Type 0
ShowsFrom goes old new (Ok out) = goes ≡ true → ShowsMore old new (Ok out)
ShowsFrom goes old new (Err fault) = ShowsMore old new (Err fault)

-- there was none before: it is that of an opening that is done
abbrev pub ShowsNew : Bool → Result (List Envelope) Fault → Type 0
ShowsNew goes (Ok out) = goes ≡ false
ShowsNew goes (Err fault) = ⊥

-- so behind a doing, where there is a core
abbrev pub ShowsOn : Doing → Life → Life → Result (List Envelope) Fault → Type 0
ShowsOn doing (Up before) (Up core) result = ShowsFrom (goes_on doing) (seen before).facts.installs (seen core).facts.installs result
ShowsOn doing (Down disk) (Up core) result = ShowsNew (goes_on doing) result
ShowsOn doing old (Down disk) result = Unit {0}

-- a doing is carried out, but for its view
abbrev pub Carries : Setup → List Envelope → ShardNow → Option ℕ → Doing → Life → Life → Result (List Envelope) Fault → Type 0
Carries setup bag s call doing old new result =
    IsOrderly setup s (effect setup bag s doing)
    → Comes call doing (effect setup bag s doing) result
    (LivesAs setup (left_by s call doing (effect setup bag s doing)) new × ShowsOn doing old new result)
