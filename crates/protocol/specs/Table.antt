-- The step as a table: a function for each input, and in it a clause for each standing of its transaction, which says the cell
-- and computes nothing. The last clause, `_`, is for all other standings. Of a retired id all is refused.
use Rattle.std.specs.Prelude.{ℕ, true, false, List, [], ◌∷◌, Option, Some, None}
use Rattle.units.specs.Lists.{has}
use Rattle.units.specs.Ids.{Id}
use Rattle.units.specs.Keys.{Bytes}
use Rattle.message.specs.declared.message.Prepare.{Prepare}
use Rattle.message.specs.declared.message.Commit.{Commit}
use Rattle.message.specs.declared.message.Answer.TheVariants.{Refused}
use Rattle.protocol.specs.Rows.{Idle, WaitsRead, WaitsPrepare, WaitsCommit, Collecting, IsPrepared, IsDecided, Standing, IsUnknown, WasEnded, HasRow}
use Rattle.protocol.specs.Rows.{WasAborted, WasSettled, WasClosed, WasRetired}
use Rattle.protocol.specs.Outputs.{vote_to, answer_to, done_to, outcome_to, ask_to}
use Rattle.protocol.specs.Plan.{Before, stands}
use Rattle.protocol.specs.Cells.{Cell, ToRefuse, ToRest, ToReply, Provided, ToRead, ToPrepare, ToCommit, ToEnd, ToAbort, ToAbortFor, ToCount, ToClose, ToGoOn}
use Rattle.protocol.specs.Cells.{ToSettle, refuses, other_parts, is_outcome_for}

-- a read: it is refused once the transaction has ended, and passed over while it closes
abbrev pub read_cell : Before → Id → Bytes → Standing → Cell
read_cell b t k IsUnknown = ToRead t k [] false
read_cell b t k (HasRow held Idle) = ToRead t k held false
read_cell b t k (HasRow held (WaitsRead j)) = ToRead t k held true
read_cell b t k (HasRow held (WaitsPrepare c rs ws)) = ToRead t k held true
read_cell b t k (HasRow held (WaitsCommit l ps rs ws)) = ToRead t k held true
read_cell b t k (HasRow held _) = ToRest
read_cell b t k WasRetired = ToRefuse
read_cell b t k _ = ToReply (answer_to b.shard t k b.facts.epoch Refused)

-- a prepare
abbrev pub prepare_cell : Before → ℕ → Prepare → Standing → Cell
prepare_cell b earliest m IsUnknown = ToPrepare earliest m []
prepare_cell b earliest m (HasRow held Idle) = ToPrepare earliest m held
prepare_cell b earliest m (HasRow held (WaitsRead k)) = ToPrepare earliest m held
prepare_cell b earliest m (HasRow held (WaitsPrepare c rs ws)) = ToRest
prepare_cell b earliest m WasEnded = ToReply (refuses b m.txn m.coordinator)
prepare_cell b earliest m (HasRow held (IsPrepared c p)) = ToReply (vote_to b.shard m.coordinator m.txn (Some p))
prepare_cell b earliest m (WasClosed None) = ToReply (refuses b m.txn m.coordinator)
prepare_cell b earliest m (WasClosed (Some s)) = ToRest
prepare_cell b earliest m _ = ToRefuse

-- a commit
abbrev pub commit_cell : ℕ → Commit → Standing → Cell
commit_cell latest m IsUnknown = ToCommit latest m []
commit_cell latest m (HasRow held Idle) = ToCommit latest m held
commit_cell latest m (HasRow held (WaitsRead k)) = ToCommit latest m held
commit_cell latest m (HasRow held (WaitsCommit l ps rs ws)) = ToRest
commit_cell latest m (HasRow held (Collecting l ps rs ws votes)) = ToRest
commit_cell latest m (HasRow held (IsDecided s ps)) = ToRest
commit_cell latest m WasEnded = ToAbort m.txn m.parts
commit_cell latest m WasAborted = ToReply (done_to m.txn None)
commit_cell latest m (WasSettled s ps) = ToReply (done_to m.txn (Some s))
commit_cell latest m _ = ToRefuse

-- who voted yes is told the outcome
abbrev pub tell_cell : Before → ℕ → Id → Option ℕ → Option ℕ → Cell
tell_cell b n t outcome (Some p) = ToReply (outcome_to b.shard t outcome n)
tell_cell b n t outcome None = ToRest

-- a vote: a shard that takes no part is a stranger
abbrev pub vote_cell : Before → ℕ → Id → Option ℕ → Standing → Cell
vote_cell b n t vote (HasRow held (Collecting l ps rs ws votes)) = Provided (has (other_parts b.shard ps) n) (ToCount n t vote l ps rs ws votes)
vote_cell b n t vote WasAborted = tell_cell b n t None vote
vote_cell b n t vote (WasSettled s ps) = Provided (has (other_parts b.shard ps) n) (tell_cell b n t (Some s) vote)
vote_cell b n t vote (HasRow held (WaitsPrepare c rs ws)) = ToRefuse
vote_cell b n t vote (HasRow held (IsPrepared c p)) = ToRefuse
vote_cell b n t vote (WasClosed o) = ToRefuse
vote_cell b n t vote WasRetired = ToRefuse
vote_cell b n t vote _ = ToRest

-- a transaction that made no promise here may be aborted, and never committed; a prepare that it waits with is refused
abbrev pub unpromised_cell : Id → Option ℕ → List ℕ → Cell
unpromised_cell t None coordinators = ToEnd t coordinators
unpromised_cell t (Some s) coordinators = ToRefuse

-- an outcome
abbrev pub outcome_cell : ℕ → Id → Option ℕ → Standing → Cell
outcome_cell n t outcome (HasRow held (IsPrepared c p)) = Provided (is_outcome_for n c p outcome) (ToClose t outcome)
outcome_cell n t outcome IsUnknown = unpromised_cell t outcome []
outcome_cell n t outcome (HasRow held Idle) = unpromised_cell t outcome []
outcome_cell n t outcome (HasRow held (WaitsRead k)) = unpromised_cell t outcome []
outcome_cell n t outcome (HasRow held (WaitsPrepare c rs ws)) = unpromised_cell t outcome (c ∷ [])
outcome_cell n t outcome WasEnded = ToRest
outcome_cell n t outcome (WasClosed o) = ToRest
outcome_cell n t outcome _ = ToRefuse

-- a giving up
abbrev pub give_up_cell : Id → Standing → Cell
give_up_cell t IsUnknown = ToEnd t []
give_up_cell t (HasRow held Idle) = ToEnd t []
give_up_cell t (HasRow held (WaitsRead k)) = ToEnd t []
give_up_cell t (HasRow held (WaitsPrepare c rs ws)) = ToEnd t (c ∷ [])
give_up_cell t (HasRow held (WaitsCommit l ps rs ws)) = ToEnd t []
give_up_cell t (HasRow held (Collecting l ps rs ws votes)) = ToAbort t ps
give_up_cell t WasRetired = ToRefuse
give_up_cell t _ = ToRest

-- a question for an outcome: a shard that takes no part is a stranger
abbrev pub ask_cell : Before → ℕ → Id → Standing → Cell
ask_cell b n t IsUnknown = ToAbortFor n t
ask_cell b n t WasEnded = ToAbortFor n t
ask_cell b n t (HasRow held Idle) = ToAbortFor n t
ask_cell b n t (HasRow held (WaitsRead k)) = ToAbortFor n t
ask_cell b n t WasAborted = ToReply (outcome_to b.shard t None n)
ask_cell b n t (WasSettled s ps) = Provided (has (other_parts b.shard ps) n) (ToReply (outcome_to b.shard t (Some s) n))
ask_cell b n t (HasRow held (WaitsCommit l ps rs ws)) = ToRest
ask_cell b n t (HasRow held (Collecting l ps rs ws votes)) = ToRest
ask_cell b n t (HasRow held (IsDecided s ps)) = ToRest
ask_cell b n t _ = ToRefuse

-- a wait that is granted goes on: a prepare takes this reading, a commit the one at its arrival
abbrev pub go_on_cell : ℕ → Id → Standing → Cell
go_on_cell earliest t (HasRow held phase) = ToGoOn earliest t phase
go_on_cell earliest t _ = ToRest

-- the wait of the id that is ready, if there is one
abbrev pub resume_cell : Before → ℕ → Option Id → Cell
resume_cell b earliest None = ToRest
resume_cell b earliest (Some t) = go_on_cell earliest t (stands b t)

-- settling
abbrev pub settle_cell : ℕ → Id → Standing → Cell
settle_cell earliest t (HasRow held (IsDecided s ps)) = ToSettle earliest t s ps
settle_cell earliest t _ = ToRefuse

-- a nudge: a prepared row asks its coordinator
abbrev pub nudge_cell : Before → Id → Standing → Cell
nudge_cell b t (HasRow held (IsPrepared c p)) = ToReply (ask_to b.shard c t)
nudge_cell b t _ = ToRefuse
