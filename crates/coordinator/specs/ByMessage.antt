-- What a coordinator plans for each message, by how its transaction stands.
use Rattle.std.specs.Prelude.{ℕ, cond, List, [], ◌∷◌, None, Some, Option, Result, Err}
use Rattle.units.specs.Lists.{has}
use Rattle.units.specs.Ids.{Id}
use Rattle.units.specs.declared.fault.Fault.{Fault}
use Rattle.units.specs.declared.fault.Fault.TheVariants.{Stranger}
use Rattle.units.specs.declared.lock.Lock.{Lock}
use Rattle.record.specs.declared.record.Record.{Record}
use Rattle.message.specs.declared.message.Ask.{Ask}
use Rattle.message.specs.declared.message.Commit.{Commit}
use Rattle.message.specs.declared.message.Vote.{Vote}
use Rattle.memory.specs.States.{CollectingState}
use Rattle.memory.specs.votes.Voted.{Voted as CastVote}
use Rattle.memory.specs.wait.CommitRequest.{CommitRequest}
use Rattle.protocol.specs.Rows.{Standing, WaitsCommit, find_row, with_vote}
use Rattle.protocol.specs.Outputs.{done_to, outcome_to}
use Rattle.protocol.specs.Plan.{Before, Planned, drops, puts}
use Rattle.protocol.specs.Cells.{commit_stamp, other_parts, plan_asks, plan_cell, plan_commit_granted, plan_count, tells}
use Rattle.protocol.specs.Table.{ask_cell, commit_cell, settle_cell, tell_cell, vote_cell}
use Rattle.memory.specs.Kept.{Kept, start_of, IsPlanned}
use Rattle.memory.specs.Plans.{counted}
use Rattle.memory.specs.Standings.{MakesPlan}
use Rattle.memory.specs.declared.plan.Step.{Step}
use Rattle.coordinator.specs.Granted.{collects, decides, granted_by}

abbrev pub PlansCommit : Kept → ℕ → Commit → Standing → Result Step Fault → Type 0
PlansCommit k latest m standing result = IsPlanned k (plan_cell (start_of k) (commit_cell latest m standing)) result

-- the reads still stand
abbrev pub PlansCommitNow : Kept → ℕ → Commit → Result Step Fault → Type 0
PlansCommitNow k latest m result = IsPlanned k (plan_asks (start_of k) 0 m.txn (WaitsCommit latest m.parts m.reads.keys m.writes)) result

abbrev pub PlansAsk : Kept → Ask → Standing → Result Step Fault → Type 0
PlansAsk k m standing result = IsPlanned k (plan_cell (start_of k) (ask_cell (start_of k) m.from m.txn standing)) result

-- a transaction that is not known is aborted, and the shard that asked is told
abbrev pub MakesAbortFor : Kept → Ask → Result Step Fault → Type 0
MakesAbortFor k m result = MakesPlan k (drops m.txn (Record.Abort m.txn) k.memory.last (outcome_to k.setup.shard m.txn None m.from ∷ [])) result

abbrev pub PlansSettle : Kept → ℕ → Id → Standing → Result Step Fault → Type 0
PlansSettle k earliest t standing result = IsPlanned k (plan_cell (start_of k) (settle_cell earliest t standing)) result

-- a decided transaction is settled: its session and the other parts are told
abbrev pub MakesSettled : Kept → Id → ℕ → List ℕ → Result Step Fault → Type 0
MakesSettled k t at ps result =
    MakesPlan k
    (drops t (Record.Outcome t (Some at)) k.memory.last (done_to t (Some at) ∷ tells (start_of k) t (Some at) (other_parts k.setup.shard ps)))
    result

abbrev pub PlansVote : Kept → Vote → Standing → Result Step Fault → Type 0
PlansVote k m standing result = IsPlanned k (plan_cell (start_of k) (vote_cell (start_of k) m.from m.txn m.vote standing)) result

-- who voted yes is told the outcome
abbrev pub PlansTell : Kept → Vote → Option ℕ → Result Step Fault → Type 0
PlansTell k m outcome result = IsPlanned k (plan_cell (start_of k) (tell_cell (start_of k) m.from m.txn outcome m.vote)) result

-- a vote for a transaction that collects votes
abbrev pub vote_counted : Before → ℕ → Id → Option ℕ → CollectingState → Planned
vote_counted b n t vote s = plan_count b n t vote s.request.latest s.request.parts s.request.reads s.request.writes s.votes

-- such a vote, which counts where it is of a part
abbrev pub PlansPartVote : Kept → Vote → CollectingState → Result Step Fault → Type 0
PlansPartVote k m s result = IsPlanned k (cond (has (other_parts k.setup.shard s.request.parts) m.from) (vote_counted (start_of k) m.from m.txn m.vote s) (Err Stranger)) result

-- the timestamp of a decision, once one more vote is counted
abbrev pub stamp_with_vote : Kept → CollectingState → CastVote → ℕ
stamp_with_vote k s v = commit_stamp k.memory.last s.request.latest (with_vote v.shard v.at s.votes)

-- one more vote is kept
abbrev pub MakesVoteKept : Kept → Id → CastVote → Result Step Fault → Type 0
MakesVoteKept k t v result = MakesPlan k (puts (start_of k) [] t [] (counted v.shard v.at (find_row k.memory.rows t)) None k.memory.last []) result

-- a request whose locks are granted
abbrev pub PlansGranted : Kept → Id → CommitRequest → Result Step Fault → Type 0
PlansGranted k t r result =
    IsPlanned k (plan_commit_granted (start_of k) [] t r.latest r.parts r.reads r.writes (other_parts k.setup.shard r.parts)) result

-- the decision of a request, at a timestamp
abbrev pub MakesDecision : Kept → List Id → Id → List Lock → ℕ → CommitRequest → Result Step Fault → Type 0
MakesDecision k ended t needs at r result = MakesPlan k (decides (start_of k) ended t needs at r.parts r.reads r.writes) result

-- the votes of a request are collected
abbrev pub MakesCollecting : Kept → List Id → Id → CommitRequest → Result Step Fault → Type 0
MakesCollecting k ended t r result = MakesPlan k (collects (start_of k) ended t r.latest r.parts r.reads r.writes) result

-- what a request whose locks are granted leads to
abbrev pub MakesGranted : Kept → List Id → Id → Option ℕ → CommitRequest → Result Step Fault → Type 0
MakesGranted k ended t at r result = MakesPlan k (granted_by (start_of k) ended t at r) result
