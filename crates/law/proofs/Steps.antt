-- A step does only what something stands behind, given that of what it starts from.
use Rattle.std.proofs.Common.{◌≡◌, ◌⊎◌, inr, ℕ, ◌<◌, ◌≤◌, Bool, true, false, cond, List, [], ◌∷◌, Option, Some, None, refl, sym, subst}
use Rattle.units.specs.Ids.{Id, has_id}
use Rattle.units.specs.Keys.{Bytes}
use Rattle.units.specs.declared.fault.Fault.TheVariants.{Stranger, TimeSpent}
use Rattle.units.specs.declared.setup.Setup.{Setup}
use Rattle.units.specs.declared.writes.Write.{Write}
use Rattle.units.proofs.IdLaws.{same_id-is}
use Rattle.units.proofs.ByIdLaws.{found_is, found_all}
use Rattle.truetime.specs.Interval.{Interval}
use Rattle.record.specs.Facts.{recorded}
use Rattle.record.specs.Records.{Status, Unrecorded, StandsPrepared, StandsDecided, HasAborted, HasSettled, HasClosed, is_below}
use Rattle.record.specs.declared.record.Record.{Record}
use Rattle.message.specs.declared.message.Address.{Address}
use Rattle.message.specs.declared.message.Commit.{Commit}
use Rattle.message.specs.declared.message.Input.{Input}
use Rattle.message.specs.declared.message.Message.{Message}
use Rattle.message.specs.declared.message.Outcome.{Outcome}
use Rattle.message.specs.declared.message.Vote.{Vote}
use Rattle.protocol.specs.Rows.{Row, Phase, WaitsRead, WaitsPrepare, WaitsCommit, IsPrepared, WasRetired, standing, standing_by, standing_kept, find_row}
use Rattle.protocol.specs.Outputs.{outcome_to}
use Rattle.protocol.specs.Plan.{Before, stands}
use Rattle.protocol.specs.Cells.{Cell, ToRefuse, ToRest, ToReply, Provided, ToRead, ToPrepare, ToCommit, ToEnd, ToAbort, ToAbortFor, ToCount, ToClose, ToGoOn}
use Rattle.protocol.specs.Cells.{ToSettle, ToServe, ToForget, ToRetire, plan_read_row, plan_prepare_fresh, plan_commit_fresh, plan_cell, answers, refuses}
use Rattle.protocol.specs.Cells.{raised}
use Rattle.protocol.specs.Step.{cell, plan_input}
use Rattle.protocol.proofs.CellsFrom.{IsHeard, IsIn, HasEnded, IsSaid, MayAbort, AtCommit, AtRow, IsFrom, cell_is_from}
use Rattle.protocol.proofs.Each.{refused, tested, either}
use Rattle.law.specs.Among.{IsAmong}
use Rattle.law.specs.Requests.{CommitWanted, input_asks}
use Rattle.law.specs.Evidence.{Scene, Sent, CommitAsked, BeganBy, HasOutcome, Remembers, WasAsked, WasQuestioned, PhaseEvidence, RowsEvidence, StatusEvidence}
use Rattle.law.specs.Evidence.{Told, VoteEvidence}
use Rattle.law.proofs.Members.{among_last}
use Rattle.law.proofs.Moves.{PlannedEvidence, StandingEvidence, replying, ending, dropping}
use Rattle.law.proofs.Table.{granting, asking, aborting, was_asked, counting, closing_told, refusals_told, settling, advancing, forgetting, retiring}

-- what a shard knows when it steps
pub record Knows (sc : Scene) (log : List Record) (b : Before) (now : Interval) : Type 0 where
  -- its rows and its statuses rest on something
  pub rows : RowsEvidence sc log b.shard b.memory.rows
  pub statuses : (t : Id) → StatusEvidence log sc.now t (recorded b.facts t)
  -- the reading is honest
  pub honest : now.earliest ≤ sc.now
  pub later : sc.now ≤ now.latest
  -- a transaction that was asked to commit began before this reading's end
  pub began : (t : Id) (ps : List ℕ) (rs : List Bytes) (ws : List Write) → CommitAsked sc.world b.shard t ps rs ws → BeganBy sc t now.latest
  -- a commit is told once its time has passed
  pub passed : (from : ℕ) (t : Id) (s : ℕ) → Sent sc.world b.shard (Message.Outcome (record { from = from; txn = t; outcome = Some s })) → s < sc.now

-- what an input asks of a shard counts as asked, where the present is not above its reading
abbrev pub IsAsked : Scene → ℕ → Interval → Input → Type 0
IsAsked sc n now i = (r : CommitWanted) → input_asks n now i ≡ Some r → sc.now ≤ r.latest → sc.asked r

-- what was given to a shard was put out for it, and what it asks counts as asked
abbrev pub Heard : Scene → ℕ → Interval → Input → Type 0
Heard sc n now (Input.Deliver m) = Sent sc.world n m × IsAsked sc n now (Input.Deliver m)
Heard sc n now _ = Unit {0}

module _ (sc : Scene) (log : List Record) (b : Before) (now : Interval) (knows : Knows sc log b now) where
  -- an abort, or an outcome, is logged
  abbrev EndEvidence : Id → Option ℕ → Type 0
  EndEvidence t outcome = elim outcome [ None ↦ IsAmong log (Record.Abort t) | Some s ↦ HasOutcome log sc.now t s ]

  -- a row that is found rests on something, and is that of the id
  row_evidence : (t : Id) (r : Row) → find_row b.memory.rows t ≡ Some r → PhaseEvidence sc log b.shard t r.phase
  row_evidence t r found =
      subst (λ u. PhaseEvidence sc log b.shard u r.phase) (same_id-is r.txn t (found_is (λ (q : Row). q.txn) b.memory.rows t r found))
      (found_all (λ (q : Row). PhaseEvidence sc log b.shard q.txn q.phase) (λ (q : Row). q.txn) b.memory.rows t r knows.rows found)

  by_parts : (t : Id) (o : Option Row) (status : Status) (ended : Bool) → ((r : Row) → o ≡ Some r → PhaseEvidence sc log b.shard t r.phase) →
      StatusEvidence log sc.now t status → StandingEvidence sc log b.shard t (standing_by o status ended)
  by_parts t (Some r) status ended row kept = row r refl
  by_parts t None HasAborted ended row kept = kept
  by_parts t None (HasSettled s ps) ended row kept = kept
  by_parts t None (HasClosed c o) ended row kept = tt
  by_parts t None Unrecorded false row kept = tt
  by_parts t None (StandsPrepared p) false row kept = tt
  by_parts t None (StandsDecided c) false row kept = tt
  by_parts t None _ true row kept = tt

  stands_by_evidence : (t : Id) → StandingEvidence sc log b.shard t (stands b t)
  unfolding standing
  stands_by_evidence t = by_test (is_below b.facts.retired t)
    where
      by_test : (c : Bool) → StandingEvidence sc log b.shard t (cond c WasRetired (standing_kept b.facts b.memory t))
      by_test true = tt
      by_test false = by_parts t (find_row b.memory.rows t) (recorded b.facts t) (has_id b.memory.ended t) (row_evidence t) (knows.statuses t)

  module _ (setup : Setup) (i : Input) (heard : Heard sc b.shard now i) where
    -- ---- what stands behind what a cell comes from

    word : (m : Message) → IsHeard setup i m → Heard sc b.shard now (Input.Deliver m)
    word m h = subst (Heard sc b.shard now) h.input heard

    in_row : (t : Id) (phase : Phase) → IsIn b t phase → PhaseEvidence sc log b.shard t phase
    in_row t phase row = subst (StandingEvidence sc log b.shard t) row.row (stands_by_evidence t)

    ended : (t : Id) (outcome : Option ℕ) → HasEnded b t outcome → EndEvidence t outcome
    ended t None e = subst (StandingEvidence sc log b.shard t) e (stands_by_evidence t)
    ended t (Some s) e = subst (StandingEvidence sc log b.shard t) e.1 (stands_by_evidence t)

    said : (to : Address) (m : Message) → IsSaid b to m → Told log sc.now b.shard to m
    said to (Message.ReadAnswer a) h = tt
    said to (Message.Vote v) h = by_vote v v.vote h
      where
        by_vote : (v : Vote) (o : Option ℕ) →
            (elim o as (λ q. Type 0) [ None ↦ Unit {0} | Some p ↦ (v.from ≡ b.shard) × ((c : ℕ) × IsIn b v.txn (IsPrepared c p)) ]) →
            (elim o as (λ q. Type 0) [ None ↦ Unit {0} | Some p ↦ (v.from ≡ b.shard) × VoteEvidence log v.txn p ])
        by_vote v None h = tt
        by_vote v (Some p) h = (h.0, record { coordinator = h.1.0; promised = in_row v.txn _ h.1.1 })
    said to (Message.Outcome o) h = by_outcome o o.outcome h.0 h.1
      where
        by_outcome : (o : Outcome) (q : Option ℕ) → o.from ≡ b.shard → HasEnded b o.txn q →
            (elim q as (λ r. Type 0) [
              | None ↦ (o.from ≡ b.shard) × IsAmong log (Record.Abort o.txn)
              | Some s ↦ (o.from ≡ b.shard) × HasOutcome log sc.now o.txn s
            ])
        by_outcome o None same h = (same, ended o.txn None h)
        by_outcome o (Some s) same h = (same, ended o.txn (Some s) h)
    said to (Message.Done d) h = ended d.txn d.outcome h
    said to (Message.Ask a) h =
        (h.0, record { coordinator = h.1.0; stamp = h.1.1.0; promised = in_row a.txn _ h.1.1.1.1; receiver = h.1.1.1.0 })
    said to _ h = absurd h

    asked : (m : Commit) → IsHeard setup i (Message.Commit m) → CommitAsked sc.world b.shard m.txn m.parts m.reads.keys m.writes
    asked m h = record { epoch = m.reads.epoch; sent = (word (Message.Commit m) h).0 }

    remembered : (latest : ℕ) (m : Commit) → IsHeard setup i (Message.Commit m) → latest ≡ now.latest →
        Remembers sc b.shard m.txn latest m.parts m.reads.keys m.writes
    remembered latest m h e = subst (λ l. Remembers sc b.shard m.txn l m.parts m.reads.keys m.writes) (sym e) (record {
      asked = asked m h;
      counts = (word (Message.Commit m) h).1 _ refl knows.later;
      began = knows.began m.txn m.parts m.reads.keys m.writes (asked m h);
    })

    why : (t : Id) → MayAbort setup b i t → WasAsked sc.world b.shard t ⊎ WasQuestioned sc.world b.shard t
    why t (AtCommit m same h) =
        subst (λ u. WasAsked sc.world b.shard u ⊎ WasQuestioned sc.world b.shard u) (sym same)
        (was_asked sc log b m.txn m.parts m.reads.keys m.writes (asked m h))
    why t (AtRow l ps rs ws votes row) = was_asked sc log b t ps rs ws (in_row t _ row).0.asked

    -- ---- all cells

    evidence : (c : Cell) → IsFrom setup b now i c → PlannedEvidence sc log b.shard (plan_cell b c)
    unfolding plan_read_row plan_prepare_fresh plan_commit_fresh
    evidence ToRefuse from = refused Stranger tt
    evidence ToRest from = replying sc log b [] tt
    evidence (ToReply e) from = replying sc log b (e ∷ []) (said e.to e.message from, tt)
    evidence (Provided test c) from = tested test _ _ (λ e. evidence c (from e)) (refused Stranger tt)
    evidence (ToRead t k held waits) from =
        either _ _ _ (replying sc log b (answers b t k ∷ []) (tt, tt))
        (either _ _ _ (replying sc log b [] tt) (asking sc log b 0 t (WaitsRead k) tt))
    evidence (ToPrepare earliest m held) from =
        either _ _ _
        (asking sc log b earliest m.txn (WaitsPrepare m.coordinator m.reads.keys m.writes)
        (record { epoch = m.reads.epoch; sent = (word (Message.Prepare m) from.0).0 }))
        (ending sc log b m.txn (refuses b m.txn m.coordinator ∷ []) (tt, tt))
    evidence (ToCommit latest m held) from =
        either _ _ _
        (either _ _ _
        (asking sc log b 0 m.txn (WaitsCommit latest m.parts m.reads.keys m.writes) (remembered latest m from.0 from.1.1))
        (refused TimeSpent tt))
        (aborting sc log b m.txn m.parts (was_asked sc log b m.txn m.parts m.reads.keys m.writes (asked m from.0)))
    evidence (ToEnd t cs) from = ending sc log b t _ (refusals_told sc log b t cs)
    evidence (ToAbort t ps) from = aborting sc log b t ps (why t from.1)
    evidence (ToAbortFor n t) from =
        dropping sc log b t (Record.Abort t) b.memory.last (outcome_to b.shard t None n ∷ [])
        (inr (record { from = n; sent = (word _ from.1).0 })) ((refl, among_last log (Record.Abort t)), tt)
    evidence (ToCount n t vote l ps rs ws votes) from =
        let row = in_row t _ from.1 in counting sc log b n t vote l ps rs ws votes (word _ from.0).0 row.0 row.1
    evidence (ToClose t outcome) from =
        let sent = (word _ from.heard).0 in
        dropping sc log b t (Record.Outcome t outcome) (raised b.memory.last outcome) []
        (closing_told sc log b from.from from.coordinator from.at t outcome sent
        (λ s is. knows.passed from.from t s
        (subst (λ o. Sent sc.world b.shard (Message.Outcome (record { from = from.from; txn = t; outcome = o }))) is sent))
        (in_row t _ from.promised) from.allowed) tt
    evidence (ToGoOn earliest t wait) from = granting sc log b [] earliest t wait (in_row t wait from.waits)
    evidence (ToSettle earliest t s ps) from =
        settling sc log b earliest t s ps (subst (λ at. at ≤ sc.now) (sym from.1) knows.honest) (in_row t _ from.0)
    evidence (ToServe latest stride at) from = advancing sc log b latest stride at
    evidence (ToForget at) from = forgetting sc log b at
    evidence (ToRetire below) from = retiring sc log b below

  -- each input is planned with evidence
  pub planned : (setup : Setup) (i : Input) → Heard sc b.shard now i → PlannedEvidence sc log b.shard (plan_input setup b now i)
  unfolding plan_input
  planned setup i heard = evidence setup i heard (cell setup b now i) (cell_is_from setup b now i)
