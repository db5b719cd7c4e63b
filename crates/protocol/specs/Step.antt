-- The step of a shard: from its state, a reading and an input to a refusal, or to the record that it logs, the memory
-- after it and the messages that it puts out. The facts after it are those before it with the record learnt.
use Rattle.std.specs.Prelude.{ℕ, ◌-◌, ◌^◌, ◌≤◌, Bool, true, false, ◌&&◌, nat_lt, nat_eq, List, Option, Some, None, Ok, Err}
use Rattle.units.specs.Limits.{most_rows}
use Rattle.units.specs.Lists.{head, when}
use Rattle.units.specs.Keys.{shard_of}
use Rattle.record.specs.Accepted.{keys_belong}
use Rattle.record.specs.Facts.{Facts, learn}
use Rattle.units.specs.Locks.{ready}
use Rattle.protocol.specs.Rows.{Memory, claims}
use Rattle.protocol.specs.Plan.{Planned, Before, start_of_step, stands, carried}
use Rattle.protocol.specs.Cells.{Cell, ToRefuse, Provided, ToServe, ToForget, ToRetire, plan_cell}
use Rattle.protocol.specs.Table.{read_cell, prepare_cell, commit_cell, vote_cell, outcome_cell, give_up_cell, ask_cell, resume_cell, settle_cell, nudge_cell}
use Rattle.units.specs.declared.fault.Fault.{Fault}
use Rattle.units.specs.declared.setup.Setup.{Setup}
use Rattle.truetime.specs.Interval.{Interval}
use Rattle.record.specs.declared.record.Record.{Record}
use Rattle.message.specs.declared.message.Message.{Message}
use Rattle.message.specs.declared.message.Envelope.{Envelope}
use Rattle.message.specs.declared.message.Input.{Input}

-- the message names keys of this shard alone, and this shard in its place
unfoldable pub is_for : Setup → Message → Bool
is_for setup (Message.Read r) = nat_eq (shard_of setup.splits r.key) setup.shard
is_for setup (Message.Prepare p) = keys_belong setup p.reads.keys p.writes && nat_lt p.coordinator setup.shard
is_for setup (Message.Commit c) = keys_belong setup c.reads.keys c.writes && when (nat_eq setup.shard) (head c.parts)
is_for setup (Message.ReadAnswer a) = false
is_for setup (Message.Done e) = false
is_for setup _ = true

-- a message, by its kind
abbrev pub message_cell : Before → Interval → Message → Cell
message_cell b now (Message.Read m) = read_cell b m.txn m.key (stands b m.txn)
message_cell b now (Message.Prepare m) = prepare_cell b now.earliest m (stands b m.txn)
message_cell b now (Message.Commit m) = commit_cell now.latest m (stands b m.txn)
message_cell b now (Message.GiveUp m) = give_up_cell m.txn (stands b m.txn)
message_cell b now (Message.Vote m) = vote_cell b m.from m.txn m.vote (stands b m.txn)
message_cell b now (Message.Outcome m) = outcome_cell m.from m.txn m.outcome (stands b m.txn)
message_cell b now (Message.Ask m) = ask_cell b m.from m.txn (stands b m.txn)
message_cell b now _ = ToRefuse

-- an input, by its kind: the oldest wait that would be granted is what a resumption takes
abbrev pub cell : Setup → Before → Interval → Input → Cell
cell setup b now (Input.Deliver m) = Provided (is_for setup m) (message_cell b now m)
cell setup b now Input.Resume = resume_cell b now.earliest (ready (claims b.memory.rows))
cell setup b now (Input.Settle t) = settle_cell now.earliest t (stands b t)
cell setup b now (Input.Advance at) = ToServe now.latest setup.stride at
cell setup b now (Input.Nudge t) = nudge_cell b t (stands b t)
cell setup b now (Input.Forget at) = ToForget at
cell setup b now (Input.Retire below) = ToRetire below

-- the plan of an input
unfoldable pub plan_input : Setup → Before → Interval → Input → Planned
plan_input setup b now i = plan_cell b (cell setup b now i)

-- what a step answers: a refusal, or the record that it logs, the memory after it and the messages that it puts out
pub data Stepped : Type 0 where
  Refuses : Fault → Stepped
  Does : (logged : Option Record) → (memory : Memory) → (outbox : List Envelope) → Stepped

-- the step of a plan
abbrev pub stepped : Memory → Planned → Stepped
stepped m (Err fault) = Refuses fault
stepped m (Ok p) = Does p.logged (carried p m) p.outbox

-- the step of a shard whose table holds so many rows
unfoldable pub step_within : ℕ → Setup → Facts → Memory → Interval → Input → Stepped
step_within rows setup facts memory now i = stepped memory (plan_input setup (start_of_step rows setup facts memory) now i)

-- the step of a shard: its table holds 1,024 rows
abbrev pub step : Setup → Facts → Memory → Interval → Input → Stepped
step = step_within most_rows

-- the facts after a step
abbrev pub facts_after : Facts → Option Record → Facts
facts_after facts None = facts
facts_after facts (Some r) = learn facts r

-- the timestamp that an input names is within the limit
abbrev pub IsInLimit : Input → Type 0
IsInLimit (Input.Advance at) = at ≤ 2 ^ 62 - 1
IsInLimit (Input.Forget at) = at ≤ 2 ^ 62 - 1
IsInLimit _ = Unit {0}
