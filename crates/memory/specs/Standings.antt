-- What planners are asked and answer, by the memory of a shard.
use Rattle.std.specs.Prelude.{◌≡◌, Bool, true, List, [], ◌∷◌, Option, Some, None, Result, Ok, IfOk}
use Rattle.units.specs.Ids.{Id}
use Rattle.units.specs.Locks.{exclusive}
use Rattle.units.specs.declared.fault.Fault.{Fault}
use Rattle.units.specs.declared.lock.Lock.{Lock}
use Rattle.units.specs.declared.writes.Write.{Write}
use Rattle.message.specs.declared.message.Envelope.{Envelope}
use Rattle.protocol.specs.Rows.{Phase, Row, Standing, HasRow, IsUnknown, WasEnded, WasAborted, WasRetired, WasSettled, WasClosed, find_row, held_in}
use Rattle.protocol.specs.Rows.{Idle, WaitsRead, WaitsPrepare, WaitsCommit, IsPrepared, IsDecided}
use Rattle.protocol.specs.Cells.{plan_cell}
use Rattle.protocol.specs.Table.{give_up_cell}
use Rattle.protocol.specs.Plan as protocol
use Rattle.rows.specs.CodeRows.{is_collecting, may_close}
use Rattle.rows.specs.RowTable.{has_phase}
use Rattle.memory.specs.Carry.{may_drop, may_end}
use Rattle.memory.specs.Kept.{Kept, start_of, IsPlanned}
use Rattle.memory.specs.Plans.{collecting, plan_of}
use Rattle.memory.specs.declared.plan.Step.{Step}
use Rattle.memory.specs.declared.standing.Standing.{Standing as CodeStanding}

-- how a transaction stands
abbrev pub standing_in : Kept → Id → Standing
standing_in k t = protocol.stands (start_of k) t

-- how a transaction stands by what the code tells of it, where it holds these locks
abbrev pub standing_of : List Lock → CodeStanding → Standing
standing_of held CodeStanding.Retired = WasRetired
standing_of held CodeStanding.Unknown = IsUnknown
standing_of held CodeStanding.Ended = WasEnded
standing_of held CodeStanding.Idle = HasRow held Idle
standing_of held (CodeStanding.WaitsRead k) = HasRow held (WaitsRead k.now)
standing_of held (CodeStanding.WaitsPrepare p) = HasRow held (WaitsPrepare p.now.coordinator p.now.reads p.now.writes)
standing_of held (CodeStanding.WaitsCommit c) = HasRow held (WaitsCommit c.now.latest c.now.parts c.now.reads c.now.writes)
standing_of held (CodeStanding.Collecting s) = HasRow held (collecting s.now.request s.now.votes)
standing_of held (CodeStanding.Prepared s) = HasRow held (IsPrepared s.now.coordinator s.now.at)
standing_of held (CodeStanding.Decided s) = HasRow held (IsDecided s.now.at s.now.parts)
standing_of held CodeStanding.Aborted = WasAborted
standing_of held (CodeStanding.Settled c) = WasSettled c.at c.parts
standing_of held (CodeStanding.Closed outcome) = WasClosed outcome

-- the row of a transaction, by how it stands
abbrev pub row_by : Id → Standing → Option Row
row_by t (HasRow held phase) = Some (record { txn = t; held = held; phase = phase })
row_by t _ = None

-- what the standing of a transaction tells of its row: of a retired id's nothing
abbrev pub TellsRow : List Row → Id → CodeStanding → Type 0
TellsRow rows t CodeStanding.Retired = Unit {0}
TellsRow rows t s = find_row rows t ≡ row_by t (standing_of (held_in rows t) s)

-- what the standing of a transaction allows: whoever reads or has no row may be ended and aborted, whoever collects votes may
-- be aborted, and a promise or a decision may be closed
abbrev pub Allows : List Row → Id → CodeStanding → Type 0
Allows rows t CodeStanding.Retired = Unit {0}
Allows rows t (CodeStanding.Collecting s) = (has_phase is_collecting rows t ≡ true) × (may_drop rows t ≡ true)
Allows rows t (CodeStanding.Prepared s) = has_phase may_close rows t ≡ true
Allows rows t (CodeStanding.Decided s) = has_phase may_close rows t ≡ true
Allows rows t _ = (may_end rows t ≡ true) × (may_drop rows t ≡ true)

-- its row is in a phase
abbrev pub HasRowIn : Kept → Id → Phase → Type 0
HasRowIn k t phase = find_row k.memory.rows t ≡ Some (record { txn = t; held = held_in k.memory.rows t; phase = phase })

-- exclusive locks of what is written would be granted
abbrev pub opens_writes : Kept → Id → List Write → Bool
opens_writes k t ws = protocol.opens (start_of k) t (exclusive ws)

-- nobody is in the way of exclusive locks of what is written whom they would end
abbrev pub EndsNobody : Kept → Id → List Write → Type 0
EndsNobody k t ws = protocol.in_way (start_of k) t (exclusive ws) ≡ []

-- where there is a plan, it is this one of the definitions
abbrev pub MakesPlan : Kept → protocol.Plan → Result Step Fault → Type 0
MakesPlan k p result = IfOk result (λ step. plan_of k.memory.rows step ≡ p)

-- where there is a plan, it answers this alone
abbrev pub MakesReply : Kept → Envelope → Result Step Fault → Type 0
MakesReply k envelope result = MakesPlan k (protocol.replies (start_of k) (envelope ∷ [])) result

-- what a giving up comes to, which both planners answer in part: the coordinator where votes are collected, the participant elsewhere
abbrev pub PlansGiveUp : Kept → Id → Standing → Result Step Fault → Type 0
PlansGiveUp k t standing result = IsPlanned k (plan_cell (start_of k) (give_up_cell t standing)) result
