-- What the examples share: two shards split at `m`, short names of ids, keys, values and events.
use Rattle.std.specs.Prelude.{ℕ, List, [], ◌∷◌, ◌++◌, Option, Some, None, option_to_list}
use Rattle.record.specs.Facts.{facts_of}
use Rattle.protocol.specs.Rows.{Memory, rebuilt}
use Rattle.protocol.specs.Step.{Stepped, step}
use Rattle.units.specs.declared.fault.Fault.{Fault}
use Rattle.record.specs.declared.record.Record.{Record}
use Rattle.message.specs.declared.message.Message.{Message}
use Rattle.message.specs.declared.message.Envelope.{Envelope}
use Rattle.message.specs.declared.message.Input.{Input}
use Rattle.message.specs.declared.message.Address.TheVariants.{Shard, Session}
use Rattle.units.specs.Ids.{Id}
use Rattle.units.specs.Keys.{Bytes}
use Rattle.truetime.specs.Interval.{Interval}
use Rattle.units.specs.declared.writes.Write.{Write}
use Rattle.units.specs.declared.setup.Setup.{Setup}
use Rattle.units.specs.declared.setup.Book.TheVariants.{Off}
use Rattle.message.specs.declared.message.Answer.{Answer}

-- the keys `a`, `m`, `z` and the values `1`, `2`
abbrev pub a : Bytes
a = 97 ∷ []

abbrev pub m : Bytes
m = 109 ∷ []

abbrev pub z : Bytes
z = 122 ∷ []

abbrev pub one : Bytes
one = 49 ∷ []

abbrev pub two : Bytes
two = 50 ∷ []

-- the n-th transaction of run 1
abbrev pub txn : ℕ → Id
txn n = record { run = 1; number = n }

-- a reading of the clock
abbrev pub clock : ℕ → ℕ → Interval
clock e l = record { earliest = e; latest = l }

-- a write
abbrev pub sets : Bytes → Bytes → Write
sets k v = record { key = k; value = Some v }

-- shard n of the two
abbrev pub shard : ℕ → Setup
shard n = record { shard = n; splits = m ∷ []; stride = 0; book = Off }

-- ---- a shard by itself, given one input after another

-- its log and its memory
pub record Core : Type 0 where
  pub log : List Record
  pub memory : Memory

-- as an opening of a log leaves it
abbrev pub opened : List Record → Core
opened log = record { log = log; memory = rebuilt (facts_of log) }

abbrev pub fresh : Core
fresh = opened (Record.Opened 1 ∷ [])

-- what is heard of a step: a refusal, or the record and the messages
pub data Heard : Type 0 where
  Refuses : Fault → Heard
  Does : Option Record → List Envelope → Heard

abbrev pub heard : Stepped → Heard
heard (Stepped.Refuses f) = Refuses f
heard (Stepped.Does logged memory out) = Does logged out

abbrev pub after : Core → Stepped → Core
after core (Stepped.Refuses f) = core
after core (Stepped.Does logged memory out) = record { log = core.log ++ option_to_list logged; memory = memory }

abbrev pub stepped : Setup → Core → Interval × Input → Stepped
stepped setup core i = step setup (facts_of core.log) core.memory i.0 i.1

-- the shard after some inputs
abbrev pub fed : Setup → Core → List (Interval × Input) → Core
fed setup core [] = core
fed setup core (i ∷ is) = fed setup (after core (stepped setup core i)) is

-- what is heard of each step
abbrev pub hears : Setup → Core → List (Interval × Input) → List Heard
hears setup core [] = []
hears setup core (i ∷ is) = heard (stepped setup core i) ∷ hears setup (after core (stepped setup core i)) is

-- nothing happens
abbrev pub nothing : Heard
nothing = Does None []

-- the messages, each of its parts in order
abbrev pub read_of : Id → Bytes → Message
read_of t k = Message.Read (record { txn = t; key = k })

abbrev pub prepare_of : Id → ℕ → ℕ → List Bytes → List Write → Message
prepare_of t c epoch rs ws =
    Message.Prepare (record { txn = t; coordinator = c; reads = record { epoch = epoch; keys = rs }; writes = ws })

abbrev pub commit_of : Id → List ℕ → ℕ → List Bytes → List Write → Message
commit_of t ps epoch rs ws =
    Message.Commit (record { txn = t; parts = ps; reads = record { epoch = epoch; keys = rs }; writes = ws })

abbrev pub give_up_of : Id → Message
give_up_of t = Message.GiveUp (record { txn = t })

abbrev pub vote_of : ℕ → Id → Option ℕ → Message
vote_of n t vote = Message.Vote (record { from = n; txn = t; vote = vote })

abbrev pub outcome_of : ℕ → Id → Option ℕ → Message
outcome_of n t outcome = Message.Outcome (record { from = n; txn = t; outcome = outcome })

abbrev pub ask_of : ℕ → Id → Message
ask_of n t = Message.Ask (record { from = n; txn = t })

abbrev pub answer_of : ℕ → Id → Bytes → ℕ → Answer → Message
answer_of n t k epoch answer = Message.ReadAnswer (record { from = n; txn = t; key = k; epoch = epoch; answer = answer })

abbrev pub done_of : Id → Option ℕ → Message
done_of t outcome = Message.Done (record { txn = t; outcome = outcome })

-- a message that comes at a reading
abbrev pub comes : Message → Interval → Interval × Input
comes m now = (now, Input.Deliver m)

-- messages to a shard and to a session
abbrev pub to_shard : ℕ → Message → Envelope
to_shard n m = record { to = Shard n; message = m }

abbrev pub to_session : Id → Message → Envelope
to_session t m = record { to = Session t; message = m }
