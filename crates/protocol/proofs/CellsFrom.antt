-- Where each cell comes from: the only walk of the inputs and the standings. What is told of each cell with its evidence is told of each step.
use Rattle.std.proofs.Common.{refl, ap, ◌∙◌}
use Rattle.std.specs.Prelude.{ℕ, ◌≡◌, true, false, not, List, [], ◌∷◌, Option, Some, None}
use Rattle.units.specs.Ids.{Id}
use Rattle.units.specs.Keys.{Bytes}
use Rattle.units.specs.Locks.{ready}
use Rattle.units.specs.declared.lock.Lock.{Lock}
use Rattle.units.specs.declared.setup.Setup.{Setup}
use Rattle.units.specs.declared.writes.Write.{Write}
use Rattle.truetime.specs.Interval.{Interval}
use Rattle.message.specs.declared.message.Address.{Address}
use Rattle.message.specs.declared.message.Address.TheVariants.{Shard}
use Rattle.message.specs.declared.message.Answer.TheVariants.{Refused}
use Rattle.message.specs.declared.message.Commit.{Commit}
use Rattle.message.specs.declared.message.Input.{Input}
use Rattle.message.specs.declared.message.Message.{Message}
use Rattle.message.specs.declared.message.Prepare.{Prepare}
use Rattle.protocol.specs.Rows.{Phase, Idle, WaitsRead, WaitsPrepare, WaitsCommit, Collecting, IsPrepared, IsDecided, Voted, Standing, IsUnknown, WasEnded}
use Rattle.protocol.specs.Rows.{HasRow, WasAborted, WasSettled, WasClosed, WasRetired, claims, is_firm, held_in}
use Rattle.protocol.specs.Plan.{Before, stands}
use Rattle.protocol.specs.Cells.{Cell, ToReply, Provided, ToRead, ToPrepare, ToCommit, ToEnd, ToAbort, ToAbortFor, ToCount, ToClose, ToGoOn, ToSettle}
use Rattle.protocol.specs.Cells.{ToServe, ToForget, ToRetire, is_outcome_for}
use Rattle.protocol.specs.Table.{read_cell, prepare_cell, commit_cell, tell_cell, vote_cell, unpromised_cell, outcome_cell, give_up_cell, ask_cell}
use Rattle.protocol.specs.Table.{go_on_cell, resume_cell, settle_cell, nudge_cell}
use Rattle.protocol.specs.Step.{is_for, message_cell, cell}
use Rattle.protocol.proofs.Shapes.{is_undecided, is_loose}
use Rattle.protocol.proofs.Choices.{held_at, held_unknown}

-- ---- the evidence

-- a message came, and is for this shard
pub record IsHeard (setup : Setup) (i : Input) (m : Message) : Type 0 where
  pub input : i ≡ Input.Deliver m
  pub own : is_for setup m ≡ true

-- a transaction is not known, or has a row that may be ended; and it holds these locks
pub record IsLooseAt (b : Before) (t : Id) (held : List Lock) : Type 0 where
  pub loose : is_loose (stands b t) ≡ true
  pub holds : held_in b.memory.rows t ≡ held

-- a transaction has a row in a phase
pub record IsIn (b : Before) (t : Id) (phase : Phase) : Type 0 where
  pub held : List Lock
  pub row : stands b t ≡ HasRow held phase

-- and it is the one that is ready
pub record IsNext (b : Before) (t : Id) (phase : Phase) : Type 0 where
  pub waits : IsIn b t phase
  pub next : ready (claims b.memory.rows) ≡ Some t

-- a transaction ended here, by this outcome
abbrev pub HasEnded : Before → Id → Option ℕ → Type 0
HasEnded b t None = stands b t ≡ WasAborted
HasEnded b t (Some s) = (ps : List ℕ) × (stands b t ≡ WasSettled s ps)

-- what a reply says is so: an outcome, a promise, or a question of one that promised; else it refuses
abbrev pub IsSaid : Before → Address → Message → Type 0
IsSaid b to (Message.ReadAnswer a) = a.answer ≡ Refused
IsSaid b to (Message.Vote v) = elim v.vote [ None ↦ Unit {0} | Some p ↦ (v.from ≡ b.shard) × ((c : ℕ) × IsIn b v.txn (IsPrepared c p)) ]
IsSaid b to (Message.Outcome o) = (o.from ≡ b.shard) × HasEnded b o.txn o.outcome
IsSaid b to (Message.Done d) = HasEnded b d.txn d.outcome
IsSaid b to (Message.Ask a) = (a.from ≡ b.shard) × ((c : ℕ) × ((p : ℕ) × ((to ≡ Shard c) × IsIn b a.txn (IsPrepared c p))))
IsSaid b to _ = ⊥

-- why a transaction is aborted: its commit came, or it collects votes
pub data MayAbort (setup : Setup) (b : Before) (i : Input) (t : Id) : Type 0 where
  AtCommit : (m : Commit) → t ≡ m.txn → IsHeard setup i (Message.Commit m) → MayAbort setup b i t
  AtRow : (l : ℕ) → (ps : List ℕ) → (rs : List Bytes) → (ws : List Write) → (votes : List Voted) → IsIn b t (Collecting l ps rs ws votes)
      → MayAbort setup b i t

-- why a promise is closed: its coordinator told an outcome that it allows
pub record MayClose (setup : Setup) (b : Before) (i : Input) (t : Id) (outcome : Option ℕ) : Type 0 where
  pub from : ℕ
  pub coordinator : ℕ
  pub at : ℕ
  pub heard : IsHeard setup i (Message.Outcome (record { from = from; txn = t; outcome = outcome }))
  pub promised : IsIn b t (IsPrepared coordinator at)
  pub allowed : is_outcome_for from coordinator at outcome ≡ true

-- what stands behind a cell
abbrev pub IsFrom : Setup → Before → Interval → Input → Cell → Type 0
IsFrom setup b now i (ToReply e) = IsSaid b e.to e.message
IsFrom setup b now i (Provided test c) = test ≡ true → IsFrom setup b now i c
IsFrom setup b now i (ToRead t k held waits) = IsLooseAt b t held
IsFrom setup b now i (ToPrepare earliest m held) = IsHeard setup i (Message.Prepare m) × IsLooseAt b m.txn held
IsFrom setup b now i (ToCommit latest m held) = IsHeard setup i (Message.Commit m) × (IsLooseAt b m.txn held × (latest ≡ now.latest))
IsFrom setup b now i (ToEnd t cs) = is_undecided (stands b t) ≡ true
IsFrom setup b now i (ToAbort t ps) = (is_undecided (stands b t) ≡ true) × MayAbort setup b i t
IsFrom setup b now i (ToAbortFor n t) = (is_undecided (stands b t) ≡ true) × IsHeard setup i (Message.Ask (record { from = n; txn = t }))
IsFrom setup b now i (ToCount n t vote l ps rs ws votes) =
    IsHeard setup i (Message.Vote (record { from = n; txn = t; vote = vote })) × IsIn b t (Collecting l ps rs ws votes)
IsFrom setup b now i (ToClose t outcome) = MayClose setup b i t outcome
IsFrom setup b now i (ToGoOn earliest t wait) = IsNext b t wait
IsFrom setup b now i (ToSettle earliest t s ps) = IsIn b t (IsDecided s ps) × (earliest ≡ now.earliest)
IsFrom setup b now i (ToServe latest stride at) = i ≡ Input.Advance at
IsFrom setup b now i (ToForget at) = i ≡ Input.Forget at
IsFrom setup b now i (ToRetire below) = i ≡ Input.Retire below
IsFrom setup b now i _ = Unit {0}

-- ---- the walk

module _ (setup : Setup) (b : Before) (now : Interval) (i : Input) where
  abbrev From : Cell → Type 0
  From = IsFrom setup b now i

  unknown : (t : Id) → stands b t ≡ IsUnknown → IsLooseAt b t []
  unknown t e = record { loose = ap is_loose e; holds = held_unknown b t e }

  loose : (t : Id) (held : List Lock) (phase : Phase) → is_firm phase ≡ false → stands b t ≡ HasRow held phase → IsLooseAt b t held
  loose t held phase slack e = record { loose = ap is_loose e ∙ ap not slack; holds = held_at b t held phase e }

  is_in : (t : Id) (held : List Lock) (phase : Phase) → stands b t ≡ HasRow held phase → IsIn b t phase
  is_in t held phase e = record { held = held; row = e }

  read_from : (t : Id) (k : Bytes) (s : Standing) → stands b t ≡ s → From (read_cell b t k s)
  read_from t k IsUnknown e = unknown t e
  read_from t k (HasRow held Idle) e = loose t held Idle refl e
  read_from t k (HasRow held (WaitsRead j)) e = loose t held (WaitsRead j) refl e
  read_from t k (HasRow held (WaitsPrepare c rs ws)) e = loose t held (WaitsPrepare c rs ws) refl e
  read_from t k (HasRow held (WaitsCommit l ps rs ws)) e = loose t held (WaitsCommit l ps rs ws) refl e
  read_from t k (HasRow held _) e = tt
  read_from t k WasRetired e = tt
  read_from t k _ e = refl

  prepare_from : (m : Prepare) (s : Standing) → IsHeard setup i (Message.Prepare m) → stands b m.txn ≡ s → From (prepare_cell b now.earliest m s)
  prepare_from m IsUnknown heard e = (heard, unknown m.txn e)
  prepare_from m (HasRow held Idle) heard e = (heard, loose m.txn held Idle refl e)
  prepare_from m (HasRow held (WaitsRead k)) heard e = (heard, loose m.txn held (WaitsRead k) refl e)
  prepare_from m (HasRow held (IsPrepared c p)) heard e = (refl, (c, is_in m.txn held (IsPrepared c p) e))
  prepare_from m (WasClosed None) heard e = tt
  prepare_from m (WasClosed (Some s)) heard e = tt
  prepare_from m _ heard e = tt

  commit_from : (m : Commit) (s : Standing) → IsHeard setup i (Message.Commit m) → stands b m.txn ≡ s → From (commit_cell now.latest m s)
  commit_from m IsUnknown heard e = (heard, (unknown m.txn e, refl))
  commit_from m (HasRow held Idle) heard e = (heard, (loose m.txn held Idle refl e, refl))
  commit_from m (HasRow held (WaitsRead k)) heard e = (heard, (loose m.txn held (WaitsRead k) refl e, refl))
  commit_from m WasEnded heard e = (ap is_undecided e, AtCommit m refl heard)
  commit_from m WasAborted heard e = e
  commit_from m (WasSettled s ps) heard e = (ps, e)
  commit_from m _ heard e = tt

  tell_from : (n : ℕ) (t : Id) (outcome vote : Option ℕ) → HasEnded b t outcome → From (tell_cell b n t outcome vote)
  tell_from n t outcome (Some p) ended = (refl, ended)
  tell_from n t outcome None ended = tt

  vote_from : (n : ℕ) (t : Id) (vote : Option ℕ) (s : Standing) → IsHeard setup i (Message.Vote (record { from = n; txn = t; vote = vote }))
      → stands b t ≡ s → From (vote_cell b n t vote s)
  vote_from n t vote (HasRow held (Collecting l ps rs ws votes)) heard e = λ part. (heard, is_in t held (Collecting l ps rs ws votes) e)
  vote_from n t vote WasAborted heard e = tell_from n t None vote e
  vote_from n t vote (WasSettled s ps) heard e = λ part. tell_from n t (Some s) vote (ps, e)
  vote_from n t vote _ heard e = tt

  unpromised_from : (t : Id) (outcome : Option ℕ) (cs : List ℕ) → is_undecided (stands b t) ≡ true → From (unpromised_cell t outcome cs)
  unpromised_from t None cs fresh = fresh
  unpromised_from t (Some s) cs fresh = tt

  outcome_from : (n : ℕ) (t : Id) (outcome : Option ℕ) (s : Standing) → IsHeard setup i (Message.Outcome (record { from = n; txn = t; outcome = outcome }))
      → stands b t ≡ s → From (outcome_cell n t outcome s)
  outcome_from n t outcome (HasRow held (IsPrepared c p)) heard e = λ allowed. record {
    from = n;
    coordinator = c;
    at = p;
    heard = heard;
    promised = is_in t held (IsPrepared c p) e;
    allowed = allowed;
  }
  outcome_from n t outcome IsUnknown heard e = unpromised_from t outcome [] (ap is_undecided e)
  outcome_from n t outcome (HasRow held Idle) heard e = unpromised_from t outcome [] (ap is_undecided e)
  outcome_from n t outcome (HasRow held (WaitsRead k)) heard e = unpromised_from t outcome [] (ap is_undecided e)
  outcome_from n t outcome (HasRow held (WaitsPrepare c rs ws)) heard e = unpromised_from t outcome (c ∷ []) (ap is_undecided e)
  outcome_from n t outcome _ heard e = tt

  give_up_from : (t : Id) (s : Standing) → stands b t ≡ s → From (give_up_cell t s)
  give_up_from t IsUnknown e = ap is_undecided e
  give_up_from t (HasRow held Idle) e = ap is_undecided e
  give_up_from t (HasRow held (WaitsRead k)) e = ap is_undecided e
  give_up_from t (HasRow held (WaitsPrepare c rs ws)) e = ap is_undecided e
  give_up_from t (HasRow held (WaitsCommit l ps rs ws)) e = ap is_undecided e
  give_up_from t (HasRow held (Collecting l ps rs ws votes)) e = (ap is_undecided e, AtRow l ps rs ws votes (is_in t held (Collecting l ps rs ws votes) e))
  give_up_from t _ e = tt

  ask_from : (n : ℕ) (t : Id) (s : Standing) → IsHeard setup i (Message.Ask (record { from = n; txn = t })) → stands b t ≡ s → From (ask_cell b n t s)
  ask_from n t IsUnknown heard e = (ap is_undecided e, heard)
  ask_from n t WasEnded heard e = (ap is_undecided e, heard)
  ask_from n t (HasRow held Idle) heard e = (ap is_undecided e, heard)
  ask_from n t (HasRow held (WaitsRead k)) heard e = (ap is_undecided e, heard)
  ask_from n t WasAborted heard e = (refl, e)
  ask_from n t (WasSettled s ps) heard e = λ part. (refl, (ps, e))
  ask_from n t _ heard e = tt

  go_on_from : (t : Id) (s : Standing) → ready (claims b.memory.rows) ≡ Some t → stands b t ≡ s → From (go_on_cell now.earliest t s)
  go_on_from t (HasRow held phase) next e = record { waits = is_in t held phase e; next = next }
  go_on_from t _ next e = tt

  resume_from : (o : Option Id) → ready (claims b.memory.rows) ≡ o → From (resume_cell b now.earliest o)
  resume_from None next = tt
  resume_from (Some t) next = go_on_from t (stands b t) next refl

  settle_from : (t : Id) (s : Standing) → stands b t ≡ s → From (settle_cell now.earliest t s)
  settle_from t (HasRow held (IsDecided s ps)) e = (is_in t held (IsDecided s ps) e, refl)
  settle_from t _ e = tt

  nudge_from : (t : Id) (s : Standing) → stands b t ≡ s → From (nudge_cell b t s)
  nudge_from t (HasRow held (IsPrepared c p)) e = (refl, (c, (p, (refl, is_in t held (IsPrepared c p) e))))
  nudge_from t _ e = tt

  message_from : (m : Message) → IsHeard setup i m → From (message_cell b now m)
  message_from (Message.Read m) heard = read_from m.txn m.key (stands b m.txn) refl
  message_from (Message.Prepare m) heard = prepare_from m (stands b m.txn) heard refl
  message_from (Message.Commit m) heard = commit_from m (stands b m.txn) heard refl
  message_from (Message.GiveUp m) heard = give_up_from m.txn (stands b m.txn) refl
  message_from (Message.Vote m) heard = vote_from m.from m.txn m.vote (stands b m.txn) heard refl
  message_from (Message.Outcome m) heard = outcome_from m.from m.txn m.outcome (stands b m.txn) heard refl
  message_from (Message.Ask m) heard = ask_from m.from m.txn (stands b m.txn) heard refl
  message_from _ heard = tt

-- each cell of the table has its evidence
pub cell_is_from : (setup : Setup) (b : Before) (now : Interval) (i : Input) → IsFrom setup b now i (cell setup b now i)
cell_is_from setup b now (Input.Deliver m) = λ own. message_from setup b now (Input.Deliver m) m (record { input = refl; own = own })
cell_is_from setup b now Input.Resume = resume_from setup b now Input.Resume (ready (claims b.memory.rows)) refl
cell_is_from setup b now (Input.Settle t) = settle_from setup b now (Input.Settle t) t (stands b t) refl
cell_is_from setup b now (Input.Advance at) = refl
cell_is_from setup b now (Input.Nudge t) = nudge_from setup b now (Input.Nudge t) t (stands b t) refl
cell_is_from setup b now (Input.Forget at) = refl
cell_is_from setup b now (Input.Retire below) = refl
