-- What the states of a transaction are seen as, and the records that lead from one to the next.
use Rattle.std.specs.List.{list_any}
use Rattle.std.specs.Prelude.{◌≡◌, ℕ, Bool, true, false, nat_eq, nat_lt, List, [], ◌∷◌, Option}
use Rattle.units.specs.Ids.{Id, same_id}
use Rattle.units.specs.Lists.{when}
use Rattle.record.specs.Records.{as_aborted}
use Rattle.record.specs.declared.record.Record.{Record}
use Rattle.protocol.specs.Rows.{Voted, with_vote}
use Rattle.locks.specs.Table.{Token}
use Rattle.rows.specs.declared.votes.Voted.{Voted as CastVote}
use Rattle.rows.specs.declared.wait.Wait.{Wait}
use Rattle.rows.specs.declared.wait.CommitRequest.{CommitRequest}

-- a vote as the protocol sees it
abbrev pub voted_of : CastVote → Voted
voted_of v = record { shard = v.shard; at = v.at }

-- a shard has voted
abbrev pub has_voted : ℕ → List CastVote → Bool
has_voted n votes = list_any (λ v. nat_eq v.shard n) votes

-- votes of shards below 16, each shard once
abbrev pub AreVotes : List CastVote → Type 0
AreVotes [] = Unit {0}
AreVotes (v ∷ vs) = (nat_lt v.shard 16 ≡ true) × (has_voted v.shard vs ≡ false) × AreVotes vs

-- one vote of each shard
abbrev pub most_votes : ℕ
most_votes = 16

-- a transaction that reads, with what it waits with
pub record ReadingState : Type 0 where
  pub token : Token
  pub wait : Option Wait

-- the coordinator, while it waits for votes
pub record CollectingState : Type 0 where
  pub token : Token
  pub request : CommitRequest
  pub votes : List Voted

-- a participant that has promised
pub record PreparedState : Type 0 where
  pub token : Token
  pub coordinator : ℕ
  pub at : ℕ

-- the coordinator, once its decision is logged
pub record DecidedState : Type 0 where
  pub token : Token
  pub at : ℕ
  pub parts : List ℕ

-- the state of a transaction that reads
abbrev pub reading_state : Token → Option Wait → ReadingState
reading_state token wait = record { token = token; wait = wait }

-- the state of a coordinator that has no vote yet
abbrev pub collecting_of : Token → CommitRequest → CollectingState
collecting_of token request = record { token = token; request = request; votes = [] }

-- the state with a yes of a shard
abbrev pub collecting_with_yes : ℕ → ℕ → CollectingState → CollectingState
collecting_with_yes n p s = record { token = s.token; request = s.request; votes = with_vote n p s.votes }

-- the record is a promise of the transaction
abbrev pub is_prepare_of : Id → Record → Bool
is_prepare_of t (Record.Prepare p) = same_id p.txn t
is_prepare_of t _ = false

-- it is a decision of the transaction
abbrev pub is_commit_of : Id → Record → Bool
is_commit_of t (Record.Commit c) = same_id c.txn t
is_commit_of t _ = false

-- it is an abort of the transaction
abbrev pub is_abort_of : Id → Record → Bool
is_abort_of t r = when (λ u. same_id u t) (as_aborted r)

-- it says how the transaction ended at this shard
abbrev pub is_outcome_of : Id → Record → Bool
is_outcome_of t (Record.Outcome u o) = same_id u t
is_outcome_of t _ = false

-- the state that a logged promise leads to
abbrev pub prepared_by : Token → Record → PreparedState
prepared_by token (Record.Prepare p) = record { token = token; coordinator = p.coordinator; at = p.at }
prepared_by token _ = record { token = token; coordinator = 0; at = 0 }

-- the state that a logged decision leads to
abbrev pub decided_by : Token → Record → DecidedState
decided_by token (Record.Commit c) = record { token = token; at = c.at; parts = c.parts }
decided_by token _ = record { token = token; at = 0; parts = [] }
