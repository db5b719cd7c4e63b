-- The plans of a commit whose locks are granted.
use Rattle.std.specs.List.{list_any}
use Rattle.std.specs.Prelude.{◌≡◌, ℕ, ◌<◌, ◌≤◌, ◌^◌, nat_eq, max, Bool, true, false, not, List, [], map, Option, Some, None}
use Rattle.units.specs.Ids.{Id}
use Rattle.units.specs.Keys.{Bytes}
use Rattle.units.specs.Locks.{exclusive}
use Rattle.units.specs.declared.lock.Lock.{Lock}
use Rattle.units.specs.declared.writes.Write.{Write}
use Rattle.message.specs.declared.message.Commit.{Commit}
use Rattle.protocol.specs.Rows.{Collecting, IsDecided, Voted, WaitsCommit, with_vote}
use Rattle.protocol.specs.Outputs.{decision}
use Rattle.protocol.specs.Plan.{Before, Plan, puts, in_way}
use Rattle.memory.specs.States.{voted_of}
use Rattle.protocol.specs.Cells.{commit_stamp}
use Rattle.memory.specs.votes.Voted.{Voted as CastVote}
use Rattle.memory.specs.wait.CommitRequest.{CommitRequest}

-- the decision at a timestamp
abbrev pub decides : Before → List Id → Id → List Lock → ℕ → List ℕ → List Bytes → List Write → Plan
decides b ended t needs s ps rs ws = puts b ended t needs (IsDecided s ps) (Some (decision t s ps rs ws)) (max b.memory.last s) []

-- votes are collected
abbrev pub collects : Before → List Id → Id → ℕ → List ℕ → List Bytes → List Write → Plan
collects b ended t latest ps rs ws = puts b ended t (exclusive ws) (Collecting latest ps rs ws []) None b.memory.last []

-- what a request whose locks are granted leads to: the decision at a timestamp, or, where there is none yet, that votes are collected
abbrev pub granted_by : Before → List Id → Id → Option ℕ → CommitRequest → Plan
granted_by b ended t None r = collects b ended t r.latest r.parts r.reads r.writes
granted_by b ended t (Some s) r = decides b ended t (exclusive r.writes) s r.parts r.reads r.writes

-- the transaction waits with its commit
abbrev pub waits_commit : Before → Id → CommitRequest → Plan
waits_commit b t r = puts b (in_way b t (exclusive r.writes)) t [] (WaitsCommit r.latest r.parts r.reads r.writes) None b.memory.last []

-- the request of a commit that comes at a reading
abbrev pub request_of : ℕ → Commit → CommitRequest
request_of latest m = record { latest = latest; parts = m.parts; reads = m.reads.keys; writes = m.writes }

-- another shard takes part
abbrev pub has_others : Before → List ℕ → Bool
has_others b ps = list_any (λ n. not (nat_eq n b.shard)) ps

-- a commit whose locks are granted is decided at once, where no other shard takes part; else it is not decided yet
abbrev pub IsDecidedAt : Before → ℕ → List ℕ → Option ℕ → Type 0
IsDecidedAt b latest ps None = has_others b ps ≡ true
IsDecidedAt b latest ps (Some s) = (has_others b ps ≡ false) × (s ≡ commit_stamp b.memory.last latest []) × (s < 2 ^ 62)

-- or there is no timestamp left for it
abbrev pub IsTooLate : Before → ℕ → List ℕ → Type 0
IsTooLate b latest ps = (has_others b ps ≡ false) × (2 ^ 62 ≤ commit_stamp b.memory.last latest [])

-- the votes that a row keeps with one more
unfoldable pub more_votes : ℕ → ℕ → List CastVote → List Voted
more_votes n p votes = with_vote n p (map voted_of votes)
