-- A plan: what a step does to its shard. It names whom the step ends, what becomes of the row of its transaction, which
-- record it logs and which messages it puts out. All of it is told from the state before the step, so that nothing is
-- changed until the record is logged.
use Rattle.std.specs.List.{list_any}
use Rattle.std.specs.Prelude.{ℕ, ◌-◌, ◌^◌, Bool, true, not, cond, ◌&&◌, nat_le, List, [], ◌∷◌, ◌++◌, length, Option, Some, None, Result, Ok, Err, filter, flat_map}
use Rattle.units.specs.Ids.{Id, older, same_id, with_id}
use Rattle.units.specs.Locks.{wounded, is_free, with_locks}
use Rattle.record.specs.Facts.{Facts}
use Rattle.protocol.specs.Rows.{Memory, Row, Phase, Standing, standing, claims, find_row, held_in, with_row, without_row, without_rows}
use Rattle.protocol.specs.Outputs.{refused_vote}
use Rattle.units.specs.declared.fault.Fault.{Fault}
use Rattle.units.specs.declared.fault.Fault.TheVariants.{TimeSpent, RowsFull}
use Rattle.units.specs.declared.lock.Lock.{Lock}
use Rattle.units.specs.declared.setup.Setup.{Setup}
use Rattle.record.specs.declared.record.Record.{Record}
use Rattle.message.specs.declared.message.Envelope.{Envelope}

-- what becomes of the row of the transaction that a step is about
pub data Change : Type 0 where
  -- nothing, or there is none
  Keeps : Change
  -- it goes, with its locks, and the transaction counts as ended
  Ends : (txn : Id) → Change
  -- it goes, with its locks
  Drops : (txn : Id) → Change
  -- it has these locks beside those that it held, and this phase
  Puts : (txn : Id) → (needs : List Lock) → (phase : Phase) → Change
  -- nothing, and no id below this one counts as ended
  Retires : (below : Id) → Change

-- the plan of a step: whom it ends first, the change of its own transaction's row, the record that it logs, the greatest
-- timestamp after it, and what it puts out
pub record Plan : Type 0 where
  pub wounded : List Id
  pub change : Change
  pub logged : Option Record
  pub last : ℕ
  pub outbox : List Envelope

-- a plan, or a refusal
abbrev pub Planned : Type 0
Planned = Result Plan Fault

-- ---- what a plan does

-- the ids with several more
abbrev pub with_ids : List Id → List Id → List Id
with_ids ids [] = ids
with_ids ids (t ∷ ts) = with_ids (with_id ids t) ts

-- the rows after a change
unfoldable pub after_change : Change → List Row → List Row
after_change Keeps rows = rows
after_change (Ends t) rows = without_row rows t
after_change (Drops t) rows = without_row rows t
after_change (Puts t needs phase) rows = with_row rows (record { txn = t; held = with_locks (held_in rows t) needs; phase = phase })
after_change (Retires below) rows = rows

-- the ended ids after a change
unfoldable pub ended_by : Change → List Id → List Id
ended_by (Ends t) ids = with_id ids t
ended_by (Retires below) ids = filter (λ t. not (older t below)) ids
ended_by _ ids = ids

-- the memory after a plan
unfoldable pub carried : Plan → Memory → Memory
carried p m =
    record { last = p.last; rows = after_change p.change (without_rows m.rows p.wounded); ended = ended_by p.change (with_ids m.ended p.wounded) }

-- ---- the state that a plan is made from

-- where a step starts: how many rows the table holds, the shard, the facts of its log, and its memory
pub record Before : Type 0 where
  pub capacity : ℕ
  pub shard : ℕ
  pub facts : Facts
  pub memory : Memory

-- where a step of a shard starts
abbrev pub start_of_step : ℕ → Setup → Facts → Memory → Before
start_of_step rows setup facts memory = record { capacity = rows; shard = setup.shard; facts = facts; memory = memory }

-- how a transaction stands
abbrev pub stands : Before → Id → Standing
stands b t = standing b.facts b.memory t

-- whom a request ends: the younger holders in its way that are not firm
abbrev pub in_way : Before → Id → List Lock → List Id
in_way b t needs = wounded (claims b.memory.rows) t needs

-- a request is granted once those that it ends are gone
abbrev pub opens : Before → Id → List Lock → Bool
opens b t needs = is_free (claims (without_rows b.memory.rows (in_way b t needs))) t needs

-- there is no room for a row that a transaction lacks
abbrev pub is_crowded : Before → Id → Bool
is_crowded b t = nat_le b.capacity (length b.memory.rows) && not (list_any (λ r. same_id r.txn t) b.memory.rows)

-- the refused votes of rows that are ended while they wait with a prepare
abbrev pub votes_of : ℕ → List Row → List Id → List Envelope
votes_of n rows ts = flat_map (λ t. refused_vote n (find_row rows t)) ts

-- ---- the plans of which the cells are made

-- messages alone
abbrev pub replies : Before → List Envelope → Plan
replies b out = record { wounded = []; change = Keeps; logged = None; last = b.memory.last; outbox = out }

-- nothing at all
abbrev pub idles : Before → Plan
idles b = replies b []

-- a record of served time or of a horizon, or none, and the greatest timestamp
abbrev pub serves : Option Record → ℕ → Plan
serves logged last = record { wounded = []; change = Keeps; logged = logged; last = last; outbox = [] }

-- all ids below one are retired
abbrev pub retires : Id → ℕ → Plan
retires below last =
    record { wounded = []; change = Retires below; logged = Some (Record.Retired below); last = last; outbox = [] }

-- the transaction is ended
abbrev pub ends : Before → Id → List Envelope → Plan
ends b t out = record { wounded = []; change = Ends t; logged = None; last = b.memory.last; outbox = out }

-- the row goes by a record
abbrev pub drops : Id → Record → ℕ → List Envelope → Plan
drops t r last out = record { wounded = []; change = Drops t; logged = Some r; last = last; outbox = out }

-- some are ended, and the row is put with some locks more
abbrev pub puts : Before → List Id → Id → List Lock → Phase → Option Record → ℕ → List Envelope → Plan
puts b ended t needs phase logged last out =
    record { wounded = ended; change = Puts t needs phase; logged = logged; last = last; outbox = votes_of b.shard b.memory.rows ended ++ out }

-- a row that there is no room for is refused, where nothing else is
abbrev pub roomed : Bool → Planned → Planned
roomed true (Ok p) = Err RowsFull
roomed _ plan = plan

-- the greatest timestamp that there may be
abbrev pub time_limit : ℕ
time_limit = 2 ^ 62 - 1

-- within the limit of time, or refused
abbrev pub timed : ℕ → Planned → Planned
timed at plan = cond (nat_le at time_limit) plan (Err TimeSpent)
