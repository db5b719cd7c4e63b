-- A scene that has grown: all that stood behind something still does.
use Rattle.std.proofs.Common.{◌≡◌, ◌⊎◌, inl, inr, ℕ, ◌≤◌, List, Option, Some, None, slice_get, arith}
use Rattle.std.specs.List.{AllByRecursion}
use Rattle.units.specs.Ids.{Id}
use Rattle.units.specs.Keys.{Bytes}
use Rattle.units.specs.declared.line.Line.{Line}
use Rattle.units.specs.declared.writes.Write.{Write}
use Rattle.units.proofs.ListLaws.{all_gives}
use Rattle.record.specs.declared.record.Committed.{Committed}
use Rattle.record.specs.declared.record.Record.{Record}
use Rattle.message.specs.declared.message.Address.{Address}
use Rattle.message.specs.declared.message.Envelope.{Envelope}
use Rattle.message.specs.declared.message.Message.{Message}
use Rattle.protocol.specs.Rows.{Row, Phase, Idle, WaitsRead, WaitsPrepare, WaitsCommit, Collecting, IsPrepared, IsDecided, Voted}
use Rattle.law.specs.Among.{IsAmong}
use Rattle.law.specs.Requests.{CommitWanted}
use Rattle.law.specs.Evidence.{Scene, log_at, ClosedOver, IsOfClosing, BeganBy, PrepareAsked, CommitAsked, VotedYes, HasPromise, HasDecision}
use Rattle.law.specs.Evidence.{HasOutcome, WasTold, CommitEvidence, IsAboveWanted, RecordEvidence, Remembers, PhaseEvidence, RowsEvidence, Told, SaidBySome}
use Rattle.law.specs.Evidence.{MessageEvidence, LineEvidence}

-- each member of the first list is one of the second
abbrev pub Within : {A : Type 0} → List A → List A → Type 0
Within {A} xs ys = (x : A) → IsAmong xs x → IsAmong ys x

-- more was put out, asked, written down and logged, and time went on
pub record Grows (a b : Scene) : Type 0 where
  pub sent : Within a.world.bag b.world.bag
  pub lines : Within a.world.lines b.world.lines
  pub times : (i time : ℕ) → slice_get a.times i ≡ Some time → slice_get b.times i ≡ Some time
  pub asked : (r : CommitWanted) → a.asked r → b.asked r
  pub decided : (n : ℕ) (c : Committed) → a.decided n c → b.decided n c
  pub now : a.now ≤ b.now
  pub closed : (t : Id) (messages : List Envelope) → ClosedOver a.world t messages → ClosedOver b.world t messages
  pub logs : (n : ℕ) → Within (log_at a.world n) (log_at b.world n)

-- ---- one log

module _ (log more : List Record) (within : Within log more) where
  pub promise_stays : (t : Id) (c p : ℕ) → HasPromise log t c p → HasPromise more t c p
  promise_stays t c p h = record { reads = h.reads; writes = h.writes; among = within _ h.among }

  pub decision_stays : (t : Id) (s : ℕ) → HasDecision log t s → HasDecision more t s
  decision_stays t s h = record { parts = h.parts; reads = h.reads; writes = h.writes; among = within _ h.among }

  pub outcome_stays : (now later : ℕ) → now ≤ later → (t : Id) (s : ℕ) → HasOutcome log now t s → HasOutcome more later t s
  outcome_stays now later on t s h =
      let before = h.passed in
      record { decided = decision_stays t s h.decided; ended = within _ h.ended; passed = omega (arith, before, on) }

  vote_stays : (now later n : ℕ) → now ≤ later → (to : Address) (from : ℕ) (t : Id) (o : Option ℕ) →
      Told log now n to (Message.Vote (record { from = from; txn = t; vote = o })) → Told more later n to
      (Message.Vote (record { from = from; txn = t; vote = o }))
  vote_stays now later n on to from t None h = tt
  vote_stays now later n on to from t (Some p) h = (h.0, record { coordinator = h.1.coordinator; promised = promise_stays t h.1.coordinator p h.1.promised })

  word_stays : (now later n : ℕ) → now ≤ later → (to : Address) (from : ℕ) (t : Id) (o : Option ℕ) →
      Told log now n to (Message.Outcome (record { from = from; txn = t; outcome = o })) →
      Told more later n to (Message.Outcome (record { from = from; txn = t; outcome = o }))
  word_stays now later n on to from t None h = (h.0, within _ h.1)
  word_stays now later n on to from t (Some s) h = (h.0, outcome_stays now later on t s h.1)

  done_stays : (now later n : ℕ) → now ≤ later → (to : Address) (t : Id) (o : Option ℕ) →
      Told log now n to (Message.Done (record { txn = t; outcome = o })) → Told more later n to (Message.Done (record { txn = t; outcome = o }))
  done_stays now later n on to t None h = within _ h
  done_stays now later n on to t (Some s) h = outcome_stays now later on t s h

  -- what a shard said stays so
  pub told_stays : (now later n : ℕ) → now ≤ later → (to : Address) (m : Message) → Told log now n to m → Told more later n to m
  told_stays now later n on to (Message.Vote v) h = vote_stays now later n on to v.from v.txn v.vote h
  told_stays now later n on to (Message.Outcome o) h = word_stays now later n on to o.from o.txn o.outcome h
  told_stays now later n on to (Message.Ask a) h = (
    h.0,
    record {
      coordinator = h.1.coordinator;
      stamp = h.1.stamp;
      promised = promise_stays a.txn h.1.coordinator h.1.stamp h.1.promised;
      receiver = h.1.receiver;
    },
  )
  told_stays now later n on to (Message.Done d) h = done_stays now later n on to d.txn d.outcome h
  told_stays now later n on to (Message.ReadAnswer a) h = tt
  told_stays now later n on to _ h = absurd h

-- ---- a scene

module _ (a b : Scene) (g : Grows a b) where
  pub began_stays : (t : Id) (latest : ℕ) → BeganBy a t latest → BeganBy b t latest
  began_stays t latest h = record { event = h.event; time = h.time; line = g.lines _ h.line; timed = g.times h.event h.time h.timed; below = h.below }

  prepare_asked_stays : (n : ℕ) (t : Id) (c : ℕ) (rs : List Bytes) (ws : List Write) → PrepareAsked a.world n t c rs ws → PrepareAsked b.world n t c rs ws
  prepare_asked_stays n t c rs ws h = record { epoch = h.epoch; sent = g.sent _ h.sent }

  commit_asked_stays : (n : ℕ) (t : Id) (ps : List ℕ) (rs : List Bytes) (ws : List Write) → CommitAsked a.world n t ps rs ws → CommitAsked b.world n t ps rs ws
  commit_asked_stays n t ps rs ws h = record { epoch = h.epoch; sent = g.sent _ h.sent }

  closing_stays : (t : Id) (e : Envelope) → IsOfClosing a.world t e → IsOfClosing b.world t e
  closing_stays t e h = record { messages = h.messages; over = g.closed t h.messages h.over; among = h.among }

  rests_stays : (n : ℕ) (c : Committed) → a.decided n c ⊎ IsAboveWanted a n c → b.decided n c ⊎ IsAboveWanted b n c
  rests_stays n c (inl old) = inl (g.decided n c old)
  rests_stays n c (inr r) = inr (record { latest = r.latest; asked = g.asked _ r.asked; above = r.above })

  commit_stays : (n : ℕ) (c : Committed) → CommitEvidence a n c → CommitEvidence b n c
  commit_stays n c h = record {
    asked = commit_asked_stays n c.txn c.parts c.reads c.writes h.asked;
    voted = λ m part. let v = h.voted m part in record { stamp = v.stamp; sent = g.sent _ v.sent; below = v.below };
    latest = h.latest;
    began = began_stays c.txn h.latest h.began;
    above = h.above;
    rests = rests_stays n c h.rests;
  }

  remembers_stays : (n : ℕ) (t : Id) (l : ℕ) (ps : List ℕ) (rs : List Bytes) (ws : List Write) → Remembers a n t l ps rs ws → Remembers b n t l ps rs ws
  remembers_stays n t l ps rs ws h = record {
    asked = commit_asked_stays n t ps rs ws h.asked;
    counts = g.asked _ h.counts;
    began = began_stays t l h.began;
  }

  votes_stay : (n : ℕ) (t : Id) (votes : List Voted) → AllByRecursion (VotedYes a.world n t) votes → AllByRecursion (VotedYes b.world n t) votes
  votes_stay n t votes h = all_gives (VotedYes a.world n t) (VotedYes b.world n t) (λ v sent. g.sent _ sent) votes h

  said_stays : (to : Address) (m : Message) → SaidBySome a to m → SaidBySome b to m
  said_stays to m h = record {
    shard = h.shard;
    told = told_stays (log_at a.world h.shard) (log_at b.world h.shard) (g.logs h.shard) a.now b.now h.shard g.now to m h.told;
  }

  -- what stood behind a message
  pub message_stays : (to : Address) (m : Message) → MessageEvidence a to m → MessageEvidence b to m
  message_stays to (Message.Read r) h = tt
  message_stays to (Message.GiveUp x) h = tt
  message_stays to (Message.Prepare p) h = closing_stays p.txn _ h
  message_stays to (Message.Commit c) h = closing_stays c.txn _ h
  message_stays to (Message.Vote v) h = said_stays to (Message.Vote v) h
  message_stays to (Message.Outcome o) h = said_stays to (Message.Outcome o) h
  message_stays to (Message.Ask x) h = said_stays to (Message.Ask x) h
  message_stays to (Message.Done d) h = said_stays to (Message.Done d) h
  message_stays to (Message.ReadAnswer x) h = said_stays to (Message.ReadAnswer x) h

  -- behind a line
  pub line_stays : (l : Line) → LineEvidence a l → LineEvidence b l
  line_stays (Line.Ack t s event) h = record { to = h.to; sent = g.sent _ h.sent; time = h.time; timed = g.times event h.time h.timed; above = h.above }
  line_stays _ h = tt

  module _ (log more : List Record) (within : Within log more) where
    was_told_stays : (n : ℕ) (t : Id) (o : Option ℕ) → WasTold a.world log n t o → WasTold b.world more n t o
    was_told_stays n t o h = record {
      coordinator = h.coordinator;
      stamp = h.stamp;
      promised =
          promise_stays log more within t h.coordinator h.stamp h.promised;
      sent = g.sent _ h.sent;
    }

    -- behind a record
    pub record_stays : (n : ℕ) (r : Record) → RecordEvidence a log n r → RecordEvidence b more n r
    record_stays n (Record.Opened epoch) h = tt
    record_stays n (Record.Ceiling at) h = tt
    record_stays n (Record.Horizon at) h = tt
    record_stays n (Record.Retired below) h = tt
    record_stays n (Record.Prepare p) h = prepare_asked_stays n p.txn p.coordinator p.reads p.writes h
    record_stays n (Record.Commit c) h = commit_stays n c h
    record_stays n (Record.Abort t) (inl h) = inl (record {
      parts = h.parts;
      reads = h.reads;
      writes = h.writes;
      asked =
          commit_asked_stays n t h.parts h.reads h.writes h.asked;
    })
    record_stays n (Record.Abort t) (inr h) = inr (record { from = h.from; sent = g.sent _ h.sent })
    record_stays n (Record.Outcome t None) h = was_told_stays n t None h
    record_stays n (Record.Outcome t (Some s)) h =
        let before = h.0 in let later = g.now in
        (omega (arith, before, later), elim h.1 [ inl d ↦ inl (decision_stays log more within t s d) | inr w ↦ inr (was_told_stays n t (Some s) w) ])
    record_stays n _ h = absurd h

    -- behind a row
    pub phase_stays : (n : ℕ) (t : Id) (phase : Phase) → PhaseEvidence a log n t phase → PhaseEvidence b more n t phase
    phase_stays n t Idle h = tt
    phase_stays n t (WaitsRead k) h = tt
    phase_stays n t (WaitsPrepare c rs ws) h = prepare_asked_stays n t c rs ws h
    phase_stays n t (WaitsCommit l ps rs ws) h = remembers_stays n t l ps rs ws h
    phase_stays n t (Collecting l ps rs ws votes) h = (remembers_stays n t l ps rs ws h.0, votes_stay n t votes h.1)
    phase_stays n t (IsPrepared c p) h = promise_stays log more within t c p h
    phase_stays n t (IsDecided s ps) h = decision_stays log more within t s h

    pub rows_stay : (n : ℕ) (rows : List Row) → RowsEvidence a log n rows → RowsEvidence b more n rows
    rows_stay n rows h = all_gives (λ (r : Row). PhaseEvidence a log n r.txn r.phase) (λ (r : Row). PhaseEvidence b more n r.txn r.phase)
        (λ r e. phase_stays n r.txn r.phase e) rows h
