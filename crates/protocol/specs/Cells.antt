-- What each cell of the table comes to: a cell is what the page `Table` says for an input and a standing, and its plan is
-- told from the cell and the state.
use Rattle.std.specs.List.{list_any, list_all}
use Rattle.std.specs.Prelude.{ℕ, ◌+◌, Bool, true, not, cond, ◌&&◌, nat_lt, nat_le, nat_eq, min, max, List, [], ◌∷◌, map, Option, Some, None, Ok, Err, filter}
use Rattle.units.specs.Lists.{greatest}
use Rattle.units.specs.Ids.{Id, older}
use Rattle.units.specs.Keys.{Bytes}
use Rattle.units.specs.Locks.{holds, exclusive}
use Rattle.units.specs.Versions.{latest}
use Rattle.protocol.specs.Rows.{Phase, Idle, WaitsRead, WaitsPrepare, WaitsCommit, Collecting, IsPrepared, IsDecided, Voted, needs_of, safe, with_vote}
use Rattle.protocol.specs.Outputs.{promise, decision, vote_to, answer_to, done_to, outcome_to}
use Rattle.protocol.specs.Plan.{Plan, Planned, Before, in_way, opens, is_crowded, replies, idles, serves, ends, drops, puts, retires, roomed, time_limit, timed}
use Rattle.units.specs.declared.fault.Fault.TheVariants.{Future, NotYet, Early, Stranger}
use Rattle.units.specs.declared.lock.Lock.{Lock}
use Rattle.units.specs.declared.lock.Mode.TheVariants.{Shared}
use Rattle.units.specs.declared.writes.Write.{Write}
use Rattle.record.specs.Accepted.{rises}
use Rattle.record.specs.declared.record.Record.{Record}
use Rattle.message.specs.declared.message.Prepare.{Prepare}
use Rattle.message.specs.declared.message.Commit.{Commit}
use Rattle.message.specs.declared.message.Envelope.{Envelope}
use Rattle.message.specs.declared.message.Answer.TheVariants.{Holds}

-- ---- the cells

-- a cell: what a step comes to, with the parts of the message or of the row that its plan is told from
pub data Cell : Type 0 where
  -- it is refused, as of a stranger
  ToRefuse : Cell
  -- nothing is done
  ToRest : Cell
  -- a message is put out, and nothing else is done
  ToReply : (message : Envelope) → Cell
  -- another cell if a test holds; else it is refused, as of a stranger
  Provided : (test : Bool) → (cell : Cell) → Cell
  -- a read of a transaction that holds these locks, and perhaps waits
  ToRead : (txn : Id) → (key : Bytes) → (held : List Lock) → (waits : Bool) → Cell
  -- a prepare, or a commit, of a transaction that holds these locks
  ToPrepare : (earliest : ℕ) → (prepare : Prepare) → (held : List Lock) → Cell
  ToCommit : (latest : ℕ) → (commit : Commit) → (held : List Lock) → Cell
  -- the transaction is ended, and these coordinators get its refused vote
  ToEnd : (txn : Id) → (coordinators : List ℕ) → Cell
  -- it is aborted, and its session and its other parts are told; or the one that asked is told
  ToAbort : (txn : Id) → (parts : List ℕ) → Cell
  ToAbortFor : (from : ℕ) → (txn : Id) → Cell
  -- a vote counts for a row that collects votes
  ToCount : (from : ℕ) → (txn : Id) → (vote : Option ℕ) → (latest : ℕ) → (parts : List ℕ) → (reads : List Bytes) → List Write → List Voted → Cell
  -- a promise is closed by an outcome
  ToClose : (txn : Id) → (outcome : Option ℕ) → Cell
  -- what a row waits with is granted: a read, a prepare, or a commit
  ToGoOn : (earliest : ℕ) → (txn : Id) → (wait : Phase) → Cell
  -- a decision is settled
  ToSettle : (earliest : ℕ) → (txn : Id) → (at : ℕ) → (parts : List ℕ) → Cell
  -- served time is advanced; a horizon is set; ids are retired
  ToServe : (latest stride at : ℕ) → Cell
  ToForget : (at : ℕ) → Cell
  ToRetire : (below : Id) → Cell

-- ---- read

-- a shared lock of a key
abbrev pub to_read : Bytes → List Lock
to_read k = record { key = k; mode = Shared } ∷ []

-- the answer with the latest value and the epoch
abbrev pub answers : Before → Id → Bytes → Envelope
answers b t k = answer_to b.shard t k b.facts.epoch (Holds (latest b.facts.installs k))

-- ---- prepare

-- the reads still stand: there are none, or their epoch is the present one and each of their keys is held
abbrev pub still_stand : Before → ℕ → List Bytes → List Lock → Bool
still_stand b epoch [] held = true
still_stand b epoch (k ∷ ks) held = nat_eq epoch b.facts.epoch && list_all (holds held) (k ∷ ks)

-- a vote refused
abbrev pub refuses : Before → Id → ℕ → Envelope
refuses b t c = vote_to b.shard c t None

-- a promise, where time is left: some locks more, a timestamp above all that was served, and a vote
unfoldable pub plan_promise : Before → List Id → ℕ → Id → ℕ → List Bytes → List Write → Planned
plan_promise b ended earliest t c rs ws =
    let p : ℕ = max (b.memory.last + 1) earliest in
    timed p (Ok
    (puts b ended t (exclusive ws) (IsPrepared c p) (Some (promise t c p rs ws)) (max b.memory.last p) (vote_to b.shard c t (Some p) ∷ [])))

-- ---- commit

-- the parts of a transaction other than this shard
abbrev pub other_parts : ℕ → List ℕ → List ℕ
other_parts n ps = filter (λ m. not (nat_eq m n)) ps

-- the outcome, to some shards
abbrev pub tells : Before → Id → Option ℕ → List ℕ → List Envelope
tells b t outcome ns = map (outcome_to b.shard t outcome) ns

-- the decision to abort: the session and the other parts are told
unfoldable pub plan_abort : Before → Id → List ℕ → Plan
plan_abort b t ps = drops t (Record.Abort t) b.memory.last (done_to t None ∷ tells b t None (other_parts b.shard ps))

-- the commit timestamp
abbrev pub commit_stamp : ℕ → ℕ → List Voted → ℕ
commit_stamp last latest votes = max (greatest (map (λ v. v.at) votes)) (max (latest + 1) (last + 1))

-- a decision, where time is left: above each vote, the latest end at the commit's arrival and all that was served
unfoldable pub plan_decide : Before → List Id → Id → ℕ → List ℕ → List Bytes → List Write → List Lock → List Voted → Planned
plan_decide b ended t latest ps rs ws needs votes =
    let s : ℕ = commit_stamp b.memory.last latest votes in
    timed s (Ok (puts b ended t needs (IsDecided s ps) (Some (decision t s ps rs ws)) (max b.memory.last s) []))

-- with no other part the transaction is decided; else it collects votes
unfoldable pub plan_commit_granted : Before → List Id → Id → ℕ → List ℕ → List Bytes → List Write → List ℕ → Planned
plan_commit_granted b ended t latest ps rs ws [] = plan_decide b ended t latest ps rs ws (exclusive ws) []
plan_commit_granted b ended t latest ps rs ws (n ∷ ns) = Ok (puts b ended t (exclusive ws) (Collecting latest ps rs ws []) None b.memory.last [])

-- ---- fresh, granted, waits

-- what a transaction waits with is granted, once some are ended: a read is answered, a prepare promised, a commit goes on
unfoldable pub plan_granted : Before → List Id → ℕ → Id → Phase → Planned
plan_granted b ended earliest t (WaitsRead k) = Ok (puts b ended t (to_read k) Idle None b.memory.last (answers b t k ∷ []))
plan_granted b ended earliest t (WaitsPrepare c rs ws) = plan_promise b ended earliest t c rs ws
plan_granted b ended earliest t (WaitsCommit l ps rs ws) = plan_commit_granted b ended t l ps rs ws (other_parts b.shard ps)
plan_granted b ended earliest t _ = Ok (idles b)

-- the locks that it needs are granted once who is in its way and may be ended is ended; or it waits
unfoldable pub plan_asks : Before → ℕ → Id → Phase → Planned
plan_asks b earliest t wait =
    roomed (is_crowded b t)
    (cond (opens b t (needs_of wait)) (plan_granted b (in_way b t (needs_of wait)) earliest t wait)
    (Ok (puts b (in_way b t (needs_of wait)) t [] wait None b.memory.last [])))

-- a key that is held is answered at once; a row that waits stays as it is. A read needs no reading of the clock
unfoldable pub plan_read_row : Before → Id → Bytes → List Lock → Bool → Planned
plan_read_row b t k held waits =
    cond (holds held k) (Ok (replies b (answers b t k ∷ []))) (cond waits (Ok (idles b)) (plan_asks b 0 t (WaitsRead k)))

-- where the reads do not stand any more, the transaction is ended here
unfoldable pub plan_prepare_fresh : Before → ℕ → Prepare → List Lock → Planned
plan_prepare_fresh b earliest m held =
    cond (still_stand b m.reads.epoch m.reads.keys held) (plan_asks b earliest m.txn (WaitsPrepare m.coordinator m.reads.keys m.writes))
    (Ok (ends b m.txn (refuses b m.txn m.coordinator ∷ [])))

-- where the reads do not stand any more, it is aborted. A commit keeps the reading at its arrival
unfoldable pub plan_commit_fresh : Before → ℕ → Commit → List Lock → Planned
plan_commit_fresh b latest m held =
    cond (still_stand b m.reads.epoch m.reads.keys held)
    (timed (latest + 1) (plan_asks b 0 m.txn (WaitsCommit latest m.parts m.reads.keys m.writes)))
    (Ok (plan_abort b m.txn m.parts))

-- ---- vote

-- each of the others has voted
abbrev pub all_voted : List ℕ → List Voted → Bool
all_voted ns votes = list_all (λ n. list_any (λ v. nat_eq v.shard n) votes) ns

-- a yes is kept, and the last one decides; a no aborts
unfoldable pub plan_count : Before → ℕ → Id → Option ℕ → ℕ → List ℕ → List Bytes → List Write → List Voted → Planned
plan_count b n t None latest ps rs ws votes = Ok (plan_abort b t ps)
plan_count b n t (Some p) latest ps rs ws votes =
    cond (all_voted (other_parts b.shard ps) (with_vote n p votes))
    (plan_decide b [] t latest ps rs ws [] (with_vote n p votes))
    (Ok (puts b [] t [] (Collecting latest ps rs ws (with_vote n p votes)) None b.memory.last []))

-- ---- outcome

-- an outcome that a promise allows: from its coordinator, and not below its timestamp
abbrev pub is_outcome_for : ℕ → ℕ → ℕ → Option ℕ → Bool
is_outcome_for n c p None = nat_eq n c
is_outcome_for n c p (Some s) = nat_eq n c && nat_le p s

-- a commit raises the greatest timestamp
abbrev pub raised : ℕ → Option ℕ → ℕ
raised last None = last
raised last (Some s) = max last s

-- ---- served time, horizon

-- served time above the floor is first logged as a ceiling, some stride ahead
abbrev pub ceiling_for : ℕ → ℕ → ℕ → Option Record
ceiling_for floor stride at = cond (nat_lt floor at) (Some (Record.Ceiling (min (at + stride) time_limit))) None

-- advancing the served time; nothing is served beyond the reading
unfoldable pub plan_advance : Before → ℕ → ℕ → ℕ → Planned
plan_advance b latest stride at =
    cond (nat_lt latest at) (Err Future) (Ok (serves (ceiling_for b.facts.floor stride at) (max b.memory.last at)))

-- a horizon: nothing above what is served is forgotten, and what is forgotten stays so
unfoldable pub plan_forget : Before → ℕ → Planned
plan_forget b at =
    cond (nat_lt (safe b.memory) at) (Err NotYet)
    (cond (nat_le at b.facts.horizon) (Ok (idles b)) (Ok (serves (Some (Record.Horizon at)) b.memory.last)))

-- ids are retired once none of them has a row; what is retired stays so
unfoldable pub plan_retire : Before → Id → Planned
plan_retire b below =
    cond (list_any (λ r. older r.txn below) b.memory.rows) (Err NotYet)
    (cond (rises b.facts.retired below) (Ok (retires below b.memory.last)) (Ok (idles b)))

-- ---- the plan of a cell

-- each cell's plan. A coordinator that does not know the transaction decides to abort it before it answers; a decision is settled only once
-- its timestamp has surely passed
abbrev pub plan_cell : Before → Cell → Planned
plan_cell b ToRefuse = Err Stranger
plan_cell b ToRest = Ok (idles b)
plan_cell b (ToReply e) = Ok (replies b (e ∷ []))
plan_cell b (Provided test c) = cond test (plan_cell b c) (Err Stranger)
plan_cell b (ToRead t k held waits) = plan_read_row b t k held waits
plan_cell b (ToPrepare earliest m held) = plan_prepare_fresh b earliest m held
plan_cell b (ToCommit latest m held) = plan_commit_fresh b latest m held
plan_cell b (ToEnd t cs) = Ok (ends b t (map (refuses b t) cs))
plan_cell b (ToAbort t ps) = Ok (plan_abort b t ps)
plan_cell b (ToAbortFor n t) = Ok (drops t (Record.Abort t) b.memory.last (outcome_to b.shard t None n ∷ []))
plan_cell b (ToCount n t vote l ps rs ws votes) = plan_count b n t vote l ps rs ws votes
plan_cell b (ToClose t outcome) = Ok (drops t (Record.Outcome t outcome) (raised b.memory.last outcome) [])
plan_cell b (ToGoOn earliest t wait) = plan_granted b [] earliest t wait
plan_cell b (ToSettle earliest t s ps) =
    cond (nat_lt s earliest) (Ok (drops t (Record.Outcome t (Some s)) b.memory.last (done_to t (Some s) ∷ tells b t (Some s) (other_parts b.shard ps))))
    (Err Early)
plan_cell b (ToServe latest stride at) = plan_advance b latest stride at
plan_cell b (ToForget at) = plan_forget b at
plan_cell b (ToRetire below) = plan_retire b below
