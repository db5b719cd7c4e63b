-- A step answers reads under locks alone, puts no row of an ended transaction, and logs what was read in the epoch in which it
-- was asked for.
use Rattle.std.proofs.Common.{◌≡◌, ℕ, ◌+◌, max, min, Bool, true, false, cond, nat_le, nat_lt, List, [], ◌∷◌, ◌++◌, Option, Some, None, refl, sym, ap, subst}
use Rattle.std.proofs.Common.{map, ◌∙◌}
use Rattle.std.specs.Prelude.{Ok, Err}
use Rattle.std.specs.List.{AllByRecursion}
use Rattle.std.proofs.lemmas.Bool.{eqb-true, and_parts}
use Rattle.units.specs.Ids.{Id}
use Rattle.protocol.specs.Outputs.{done_to, vote_to, outcome_to, promise, decision, refused_vote}
use Rattle.protocol.specs.Cells.{Cell, ToRefuse, ToRest, ToReply, Provided, ToRead, ToPrepare, ToCommit, ToEnd, ToAbort, ToAbortFor, ToCount, ToClose, ToGoOn}
use Rattle.protocol.specs.Cells.{ToSettle, ToServe, ToForget, ToRetire, commit_stamp, other_parts, still_stand, plan_read_row, plan_prepare_fresh, plan_promise}
use Rattle.protocol.specs.Cells.{plan_commit_fresh, plan_commit_granted, plan_decide, plan_abort, plan_granted, plan_asks, plan_count, plan_advance}
use Rattle.protocol.specs.Cells.{plan_forget, plan_retire, plan_cell, to_read, answers, refuses, tells}
use Rattle.units.specs.Keys.{Bytes}
use Rattle.units.specs.Locks.{exclusive, holds}
use Rattle.units.specs.Versions.{latest}
use Rattle.units.specs.declared.fault.Fault.TheVariants.{TimeSpent, NotYet, Stranger, Early, Future}
use Rattle.units.specs.declared.lock.Lock.{Lock}
use Rattle.units.specs.declared.setup.Setup.{Setup}
use Rattle.units.specs.declared.writes.Write.{Write}
use Rattle.truetime.specs.Interval.{Interval}
use Rattle.record.specs.Records.{is_below}
use Rattle.record.specs.declared.record.Record.{Record}
use Rattle.message.specs.declared.message.Address.{Address}
use Rattle.message.specs.declared.message.Answer.{Answer}
use Rattle.message.specs.declared.message.Answer.TheVariants.{Holds, Refused}
use Rattle.message.specs.declared.message.Envelope.{Envelope}
use Rattle.message.specs.declared.message.Input.{Input}
use Rattle.message.specs.declared.message.Message.{Message}
use Rattle.message.specs.declared.message.ReadAnswer.{ReadAnswer}
use Rattle.protocol.specs.Rows.{Row, Phase, Idle, WaitsRead, WaitsPrepare, WaitsCommit, Collecting, IsPrepared, IsDecided, Voted, Standing, IsUnknown}
use Rattle.protocol.specs.Rows.{WasEnded, WasRetired, HasRow, WasAborted, WasSettled, WasClosed, find_row, standing, standing_kept, with_vote}
use Rattle.protocol.specs.Step.{cell, plan_input}
use Rattle.protocol.specs.Sound.{is_open}
use Rattle.protocol.specs.Plan.{time_limit, Plan, Planned, Before, Change, Keeps, Puts, replies, serves, ends, drops, puts, votes_of, stands}
use Rattle.protocol.proofs.Each.{Each, planned, refused, tested, either, within_room}
use Rattle.protocol.proofs.CellsFrom.{IsHeard, IsLooseAt, IsIn, IsSaid, IsFrom, cell_is_from}
use Rattle.protocol.proofs.Choices.{held_at, held_unknown, undecided_of_loose}
use Rattle.protocol.proofs.Shapes.{is_loose, not_retired}
use Rattle.law.specs.Among.{IsAmong}
use Rattle.law.proofs.Members.{all_append}

-- the keys that a row waits or collects with
abbrev pub reads_of : Phase → List Bytes
reads_of (WaitsPrepare c rs ws) = rs
reads_of (WaitsCommit l ps rs ws) = rs
reads_of (Collecting l ps rs ws votes) = rs
reads_of _ = []

-- no value is told
abbrev Mute : Envelope → Type 0
Mute e = elim e.message [ Message.ReadAnswer a ↦ elim a.answer [ Holds x ↦ ⊥ | Refused ↦ Unit {0} ] | _ ↦ Unit {0} ]

abbrev AllMute : List Envelope → Type 0
AllMute es = AllByRecursion Mute es

-- who is told the value of a key has a row that holds it, or is given one
pub data Answered (b : Before) (p : Plan) (u : Id) (j : Bytes) : Type 0 where
  OfRow : p.change ≡ Keeps → p.wounded ≡ [] → p.logged ≡ None → (held : List Lock) → (phase : Phase) → stands b u ≡ HasRow held phase →
      is_open phase ≡ true → holds held j ≡ true → Answered b p u j
  OfLock : p.change ≡ Puts u (to_read j) Idle → p.logged ≡ None → Answered b p u j

-- a value that is told is the latest, in this epoch, and is told to an id that is not retired
pub record AnswerFair (b : Before) (p : Plan) (a : ReadAnswer) (x : Option Bytes) : Type 0 where
  pub from : a.from ≡ b.shard
  pub epoch : a.epoch ≡ b.facts.epoch
  pub value : latest b.facts.installs a.key ≡ x
  pub held : Answered b p a.txn a.key
  pub kept : is_below b.facts.retired a.txn ≡ false

abbrev pub MessageFair : Before → Plan → Message → Type 0
MessageFair b p m = elim m [ Message.ReadAnswer a ↦ elim a.answer [ Holds x ↦ AnswerFair b p a x | Refused ↦ Unit {0} ] | _ ↦ Unit {0} ]

abbrev pub AllFair : Before → Plan → List Envelope → Type 0
AllFair b p es = AllByRecursion (λ (e : Envelope). MessageFair b p e.message) es

mute_answer : (b : Before) (p : Plan) (a : ReadAnswer) (z : Answer) → a.answer ≡ z → (elim z as (λ q. Type 0) [ Holds x ↦ ⊥ | Refused ↦ Unit {0} ]) →
    (elim z as (λ q. Type 0) [ Holds x ↦ AnswerFair b p a x | Refused ↦ Unit {0} ])
mute_answer b p a (Holds x) is h = absurd h
mute_answer b p a Refused is h = tt

mute_message : (b : Before) (p : Plan) (to : Address) (m : Message) → Mute (record { to = to; message = m }) → MessageFair b p m
mute_message b p to (Message.ReadAnswer a) h = mute_answer b p a a.answer refl h
mute_message b p to _ h = tt

mute_fair : (b : Before) (p : Plan) (es : List Envelope) → AllMute es → AllFair b p es
mute_fair b p [] h = tt
mute_fair b p (e ∷ es) h = (mute_message b p e.to e.message h.0, mute_fair b p es h.1)

refused_mute : (n : ℕ) (o : Option Row) → AllMute (refused_vote n o)
refused_mute n None = tt
refused_mute n (Some r) = by_phase r.phase
  where
    by_phase : (phase : Phase) → AllMute (refused_vote n (Some (record r { phase = phase })))
    by_phase (WaitsPrepare c rs ws) = (tt, tt)
    by_phase _ = tt

votes_mute : (n : ℕ) (rows : List Row) (ts : List Id) → AllMute (votes_of n rows ts)
votes_mute n rows [] = tt
votes_mute n rows (t ∷ ts) = all_append Mute (refused_vote n (find_row rows t)) (votes_of n rows ts) (refused_mute n (find_row rows t)) (votes_mute n rows ts)

tells_mute : (b : Before) (u : Id) (o : Option ℕ) (ns : List ℕ) → AllMute (tells b u o ns)
tells_mute b u o [] = tt
tells_mute b u o (n ∷ ns) = (tt, tells_mute b u o ns)

-- a request that reads the key of this transaction is of the epoch
abbrev pub IsFairInput : Id → Bytes → ℕ → Input → Type 0
IsFairInput t k e (Input.Deliver (Message.Prepare p)) = p.txn ≡ t → IsAmong p.reads.keys k → p.reads.epoch ≡ e
IsFairInput t k e (Input.Deliver (Message.Commit c)) = c.txn ≡ t → IsAmong c.reads.keys k → c.reads.epoch ≡ e
IsFairInput t k e _ = Unit {0}

module _ (t : Id) (k : Bytes) (e : ℕ) (b : Before) where
  -- it was not ended, where it is this one, and is not retired
  abbrev Alive : Id → Type 0
  Alive u = (u ≡ t → stands b t ≡ WasEnded → ⊥) × (is_below b.facts.retired u ≡ false)

  -- where it is this one and reads the key, the epoch is this one
  abbrev pub Asked : Id → List Bytes → Type 0
  Asked u ks = u ≡ t → IsAmong ks k → b.facts.epoch ≡ e

  abbrev pub ChangeFair : Change → Type 0
  ChangeFair (Puts u needs phase) = Alive u × Asked u (reads_of phase)
  ChangeFair _ = Unit {0}

  abbrev pub LoggedFair : Option Record → Type 0
  LoggedFair (Some (Record.Prepare p)) = Asked p.txn p.reads
  LoggedFair (Some (Record.Commit c)) = Asked c.txn c.reads
  LoggedFair _ = Unit {0}

  pub record PlanFair (p : Plan) : Type 0 where
    pub change : ChangeFair p.change
    pub logged : LoggedFair p.logged
    pub told : AllFair b p p.outbox

  abbrev pub Fair : Planned → Type 0
  Fair = Each PlanFair (λ fault. Unit {0})

  replying : (out : List Envelope) → AllMute out → Fair (Ok (replies b out))
  replying out h = planned _ (record { change = tt; logged = tt; told = mute_fair b (replies b out) out h })

  serving : (r : Option Record) (last : ℕ) → LoggedFair r → Fair (Ok (serves r last))
  serving r last l = planned _ (record { change = tt; logged = l; told = tt })

  ending : (u : Id) (out : List Envelope) → AllMute out → Fair (Ok (ends b u out))
  ending u out h = planned _ (record { change = tt; logged = tt; told = mute_fair b (ends b u out) out h })

  dropping : (u : Id) (r : Record) (last : ℕ) (out : List Envelope) → LoggedFair (Some r) → AllMute out → Fair (Ok (drops u r last out))
  dropping u r last out l h = planned _ (record { change = tt; logged = l; told = mute_fair b (drops u r last out) out h })

  putting : (ended : List Id) (u : Id) (needs : List Lock) (phase : Phase) (r : Option Record) (last : ℕ) (out : List Envelope) → Alive u →
      Asked u (reads_of phase) → LoggedFair r → AllMute out → Fair (Ok (puts b ended u needs phase r last out))
  putting ended u needs phase r last out alive asked l h = planned _ (record {
    change = (alive, asked);
    logged = l;
    told = mute_fair b (puts b ended u needs phase r last out) (votes_of b.shard b.memory.rows ended ++ out)
        (all_append Mute (votes_of b.shard b.memory.rows ended) out (votes_mute b.shard b.memory.rows ended) h);
  })

  none_asked : (u : Id) → Asked u []
  none_asked u same none = absurd none

  -- who has a row is not retired
  kept_by : (gone : Bool) (s : Standing) (held : List Lock) (phase : Phase) → cond gone WasRetired s ≡ HasRow held phase → gone ≡ false
  kept_by true s held phase h = cc
  kept_by false s held phase h = refl

  row_kept : (u : Id) (held : List Lock) (phase : Phase) → stands b u ≡ HasRow held phase → is_below b.facts.retired u ≡ false
  unfolding standing
  row_kept u held phase h = kept_by (is_below b.facts.retired u) (standing_kept b.facts b.memory u) held phase h

  alive_in : (u : Id) (phase : Phase) → IsIn b u phase → Alive u
  alive_in u phase row = (
    λ same ended. let z : HasRow row.held phase ≡ WasEnded = sym row.row ∙ ap (stands b) same ∙ ended in cc,
    row_kept u row.held phase row.row,
  )

  alive_loose : (u : Id) → is_loose (stands b u) ≡ true → Alive u
  alive_loose u loose = (
    λ same ended. let z : false ≡ true = ap is_loose (sym ended) ∙ ap (λ v. is_loose (stands b v)) (sym same) ∙ loose in cc,
    not_retired b u (undecided_of_loose (stands b u) loose),
  )

  -- ---- a lock and the answer

  locking : (ended : List Id) (u : Id) (j : Bytes) → Alive u → Fair (Ok (puts b ended u (to_read j) Idle None b.memory.last (answers b u j ∷ [])))
  locking ended u j alive = planned _ (record {
    change = (alive, none_asked u);
    logged = tt;
    told = all_append (λ (z : Envelope). MessageFair b (puts b ended u (to_read j) Idle None b.memory.last (answers b u j ∷ [])) z.message)
        (votes_of b.shard b.memory.rows ended) (answers b u j ∷ [])
        (mute_fair b (puts b ended u (to_read j) Idle None b.memory.last (answers b u j ∷ [])) (votes_of b.shard b.memory.rows ended)
        (votes_mute b.shard b.memory.rows ended))
        (record { from = refl; epoch = refl; value = refl; held = OfLock refl refl; kept = alive.1 }, tt);
  })

  -- a key that a transaction that may be ended holds is held by its row
  held_answer : (u : Id) (j : Bytes) (held : List Lock) → IsLooseAt b u held → holds held j ≡ true → Fair (Ok (replies b (answers b u j ∷ [])))
  held_answer u j held at there = planned _ (by_standing (stands b u) refl at.loose)
    where
      by_standing : (s : Standing) → stands b u ≡ s → is_loose s ≡ true → PlanFair (replies b (answers b u j ∷ []))
      by_standing IsUnknown is loose =
          let none : [] ≡ held = sym (held_unknown b u is) ∙ at.holds in
          let z : false ≡ true = ap (λ ls. holds ls j) none ∙ there in cc
      by_standing (HasRow own phase) is loose =
          let same : own ≡ held = sym (held_at b u own phase is) ∙ at.holds in
          record {
            change = tt;
            logged = tt;
            told = (
              record {
                from = refl;
                epoch = refl;
                value = refl;
                held =
                    OfRow refl refl refl held phase (is ∙ ap (λ ls. HasRow ls phase) same) (undecided_of_loose (HasRow own phase) loose) there;
                kept = row_kept u own phase is;
              },
              tt,
            );
          }
      by_standing WasRetired is loose = cc
      by_standing WasEnded is loose = cc
      by_standing WasAborted is loose = cc
      by_standing (WasSettled s ps) is loose = cc
      by_standing (WasClosed o) is loose = cc

  -- ---- promises and decisions

  promising : (ended : List Id) (earliest : ℕ) (u : Id) (c : ℕ) (rs : List Bytes) (ws : List Write) → Alive u → Asked u rs →
      Fair (plan_promise b ended earliest u c rs ws)
  unfolding plan_promise
  promising ended earliest u c rs ws alive asked =
      let p : ℕ = max (b.memory.last + 1) earliest in
      either (nat_le p time_limit) (Ok (puts b ended u (exclusive ws) (IsPrepared c p) (Some (promise u c p rs ws)) (max b.memory.last p)
      (vote_to b.shard c u (Some p) ∷ []))) (Err TimeSpent)
      (putting ended u (exclusive ws) (IsPrepared c p) (Some (promise u c p rs ws)) (max b.memory.last p) (vote_to b.shard c u (Some p) ∷ []) alive
      (none_asked u) asked (tt, tt)) (refused TimeSpent tt)

  deciding : (ended : List Id) (u : Id) (l : ℕ) (ps : List ℕ) (rs : List Bytes) (ws : List Write) (needs : List Lock) (votes : List Voted) →
      Alive u → Asked u rs → Fair (plan_decide b ended u l ps rs ws needs votes)
  unfolding plan_decide
  deciding ended u l ps rs ws needs votes alive asked =
      let s : ℕ = commit_stamp b.memory.last l votes in
      either (nat_le s time_limit) (Ok (puts b ended u needs (IsDecided s ps) (Some (decision u s ps rs ws)) (max b.memory.last s) [])) (Err TimeSpent)
      (putting ended u needs (IsDecided s ps) (Some (decision u s ps rs ws)) (max b.memory.last s) [] alive (none_asked u) asked tt) (refused TimeSpent tt)

  commit_granting : (ended : List Id) (u : Id) (l : ℕ) (ps : List ℕ) (rs : List Bytes) (ws : List Write) (ns : List ℕ) → Alive u → Asked u rs →
      Fair (plan_commit_granted b ended u l ps rs ws ns)
  unfolding plan_commit_granted
  commit_granting ended u l ps rs ws [] alive asked = deciding ended u l ps rs ws (exclusive ws) [] alive asked
  commit_granting ended u l ps rs ws (n ∷ ns) alive asked = putting ended u (exclusive ws) (Collecting l ps rs ws []) None b.memory.last [] alive asked tt tt

  aborting : (u : Id) (ps : List ℕ) → Fair (Ok (plan_abort b u ps))
  unfolding plan_abort
  aborting u ps = dropping u (Record.Abort u) b.memory.last (done_to u None ∷ tells b u None (other_parts b.shard ps)) tt
      (tt, tells_mute b u None (other_parts b.shard ps))

  -- ---- fresh, granted, waits

  granting : (ended : List Id) (earliest : ℕ) (u : Id) (wait : Phase) → Alive u → Asked u (reads_of wait) → Fair (plan_granted b ended earliest u wait)
  unfolding plan_granted
  granting ended earliest u (WaitsRead j) alive asked = locking ended u j alive
  granting ended earliest u (WaitsPrepare c rs ws) alive asked = promising ended earliest u c rs ws alive asked
  granting ended earliest u (WaitsCommit l ps rs ws) alive asked = commit_granting ended u l ps rs ws (other_parts b.shard ps) alive asked
  granting ended earliest u _ alive asked = replying [] tt

  asking : (earliest : ℕ) (u : Id) (wait : Phase) → Alive u → Asked u (reads_of wait) → Fair (plan_asks b earliest u wait)
  unfolding plan_asks
  asking earliest u wait alive asked =
      within_room _ _ tt (either _ _ _ (granting _ earliest u wait alive asked) (putting _ u [] wait None b.memory.last [] alive asked tt tt))

  -- the reads that still stand are of this epoch
  still_asked : (u : Id) (epoch : ℕ) (rs : List Bytes) (held : List Lock) → (u ≡ t → IsAmong rs k → epoch ≡ e) →
      still_stand b epoch rs held ≡ true → Asked u rs
  still_asked u epoch [] held given still same none = absurd none
  still_asked u epoch (x ∷ xs) held given still same there = sym (eqb-true epoch b.facts.epoch (and_parts _ _ still).0) ∙ given same there

  counting : (n : ℕ) (u : Id) (vote : Option ℕ) (l : ℕ) (ps : List ℕ) (rs : List Bytes) (ws : List Write) (votes : List Voted) → Alive u →
      Asked u rs → Fair (plan_count b n u vote l ps rs ws votes)
  unfolding plan_count
  counting n u None l ps rs ws votes alive asked = aborting u ps
  counting n u (Some p) l ps rs ws votes alive asked =
      either _ _ _ (deciding [] u l ps rs ws [] (with_vote n p votes) alive asked) (putting [] u []
      (Collecting l ps rs ws (with_vote n p votes)) None b.memory.last [] alive asked tt tt)

  -- ---- served time

  advancing : (latest_end stride up : ℕ) → Fair (plan_advance b latest_end stride up)
  unfolding plan_advance
  advancing latest_end stride up = either _ _ _ (refused Future tt) (serving _ _ (ceiling (nat_lt b.facts.floor up) (min (up + stride) time_limit)))
    where
      ceiling : (high : Bool) (n : ℕ) → LoggedFair (cond high (Some (Record.Ceiling n)) None)
      ceiling true n = tt
      ceiling false n = tt

  forgetting : (up : ℕ) → Fair (plan_forget b up)
  unfolding plan_forget
  forgetting up = either _ _ _ (refused NotYet tt) (either _ _ _ (replying [] tt) (serving _ _ tt))

  retiring : (below : Id) → Fair (plan_retire b below)
  unfolding plan_retire
  retiring below =
      either _ _ _ (refused NotYet tt) (either _ _ _ (planned _ (record { change = tt; logged = tt; told = tt })) (replying [] tt))

  -- ---- all cells

  refuses_mute : (u : Id) (cs : List ℕ) → AllMute (map (refuses b u) cs)
  refuses_mute u [] = tt
  refuses_mute u (c ∷ cs) = (tt, refuses_mute u cs)

  said_mute : (to : Address) (m : Message) → IsSaid b to m → Mute (record { to = to; message = m })
  said_mute to (Message.ReadAnswer a) h = subst (λ z. elim z as (λ q. Type 0) [ Holds x ↦ ⊥ | Refused ↦ Unit {0} ]) (sym h) tt
  said_mute to _ h = tt

  module _ (rows : (u : Id) (held : List Lock) (phase : Phase) → stands b u ≡ HasRow held phase → Asked u (reads_of phase))
      (setup : Setup) (now : Interval) (i : Input) (given : IsFairInput t k e i) where
    asked_in : (u : Id) (phase : Phase) → IsIn b u phase → Asked u (reads_of phase)
    asked_in u phase row = rows u row.held phase row.row

    heard : (m : Message) → IsHeard setup i m → IsFairInput t k e (Input.Deliver m)
    heard m h = subst (IsFairInput t k e) h.input given

    fair : (c : Cell) → IsFrom setup b now i c → Fair (plan_cell b c)
    unfolding plan_read_row plan_prepare_fresh plan_commit_fresh
    fair ToRefuse from = refused Stranger tt
    fair ToRest from = replying [] tt
    fair (ToReply m) from = replying (m ∷ []) (said_mute m.to m.message from, tt)
    fair (Provided test c) from = tested test _ _ (λ h. fair c (from h)) (refused Stranger tt)
    fair (ToRead u j held waits) from =
        tested (holds held j) _ _ (λ there. held_answer u j held from there)
        (either waits _ _ (replying [] tt) (asking 0 u (WaitsRead j) (alive_loose u from.loose) (none_asked u)))
    fair (ToPrepare earliest m held) from =
        tested (still_stand b m.reads.epoch m.reads.keys held) _ _
        (λ still. asking earliest m.txn (WaitsPrepare m.coordinator m.reads.keys m.writes) (alive_loose m.txn from.1.loose)
        (still_asked m.txn m.reads.epoch m.reads.keys held (heard (Message.Prepare m) from.0) still))
        (ending m.txn (refuses b m.txn m.coordinator ∷ []) (tt, tt))
    fair (ToCommit l m held) from =
        tested (still_stand b m.reads.epoch m.reads.keys held) _ _
        (λ still. either _ _ _ (asking 0 m.txn (WaitsCommit l m.parts m.reads.keys m.writes) (alive_loose m.txn from.1.0.loose)
        (still_asked m.txn m.reads.epoch m.reads.keys held (heard (Message.Commit m) from.0) still)) (refused TimeSpent tt))
        (aborting m.txn m.parts)
    fair (ToEnd u cs) from = ending u _ (refuses_mute u cs)
    fair (ToAbort u ps) from = aborting u ps
    fair (ToAbortFor n u) from = dropping u (Record.Abort u) b.memory.last (outcome_to b.shard u None n ∷ []) tt (tt, tt)
    fair (ToCount n u vote l ps rs ws votes) from = counting n u vote l ps rs ws votes (alive_in u _ from.1) (asked_in u _ from.1)
    fair (ToClose u outcome) from = dropping u (Record.Outcome u outcome) _ [] tt tt
    fair (ToGoOn earliest u wait) from = granting [] earliest u wait (alive_in u wait from.waits) (asked_in u wait from.waits)
    fair (ToSettle earliest u s ps) from =
        either _ _ _ (dropping u (Record.Outcome u (Some s)) b.memory.last (done_to u (Some s) ∷ tells b u (Some s) (other_parts b.shard ps)) tt
        (tt, tells_mute b u (Some s) (other_parts b.shard ps))) (refused Early tt)
    fair (ToServe latest_end stride up) from = advancing latest_end stride up
    fair (ToForget up) from = forgetting up
    fair (ToRetire below) from = retiring below

  -- each input
  pub fairly : (rows : (u : Id) (held : List Lock) (phase : Phase) → stands b u ≡ HasRow held phase → Asked u (reads_of phase))
      (setup : Setup) (now : Interval) (i : Input) → IsFairInput t k e i → Fair (plan_input setup b now i)
  unfolding plan_input
  fairly rows setup now i given = fair rows setup now i given (cell setup b now i) (cell_is_from setup b now i)
