-- A scene may start anew: what shards remember now counts as asked, and what their logs decide needs no request any more.
use Rattle.std.proofs.Common.{◌≡◌, ◌⊎◌, inl, inr, ℕ, List, [], ◌∷◌, Some, None, slice_get, refl, sym, ap, subst, ◌∙◌}
use Rattle.units.specs.Ids.{Id}
use Rattle.units.specs.declared.line.Line.{Line}
use Rattle.record.specs.declared.record.Committed.{Committed}
use Rattle.record.specs.declared.record.Record.{Record}
use Rattle.message.specs.declared.message.Address.{Address}
use Rattle.message.specs.declared.message.Message.{Message}
use Rattle.protocol.specs.Rows.{Memory, Row, Phase, Idle, WaitsRead, WaitsPrepare, WaitsCommit, Collecting, IsPrepared, IsDecided}
use Rattle.world.specs.Headline.{IsUnsure}
use Rattle.world.specs.World.{World, ShardNow, State, Runs, IsStopped, IsDown}
use Rattle.law.specs.Among.{IsAmong}
use Rattle.law.specs.Requests.{CommitWanted, IsRemembered, row_remembers}
use Rattle.law.specs.Evidence.{Scene, BeganBy, SaidBySome, RecordEvidence, PhaseEvidence, RowsEvidence, MessageEvidence, LineEvidence}
use Rattle.law.specs.Evidence.{StateEvidence, ShardEvidence, Holds, IsAboveWanted}
use Rattle.law.proofs.Every.{Clock}
use Rattle.law.proofs.Members.{all_at}
use Rattle.law.proofs.Picked.{some_same}

-- a record stands in the log of a shard, or is unsure there
pub record MayStand (w : World) (n : ℕ) (r : Record) : Type 0 where
  pub shard : ShardNow
  pub there : slice_get w.shards n ≡ Some shard
  pub is : IsAmong shard.log r ⊎ IsUnsure shard.unsure r

-- the scene that starts anew
abbrev pub anew : Scene → Scene
anew sc = record sc { asked = λ r. IsRemembered sc.world r; decided = λ n c. MayStand sc.world n (Record.Commit c) }

module _ (sc : Scene) where
  began_same : (t : Id) (latest : ℕ) → BeganBy sc t latest → BeganBy (anew sc) t latest
  began_same t latest h = record { event = h.event; time = h.time; line = h.line; timed = h.timed; below = h.below }

  said_same : (to : Address) (m : Message) → SaidBySome sc to m → SaidBySome (anew sc) to m
  said_same to m h = record { shard = h.shard; told = h.told }

  message_same : (to : Address) (m : Message) → MessageEvidence sc to m → MessageEvidence (anew sc) to m
  message_same to (Message.Read r) h = tt
  message_same to (Message.GiveUp x) h = tt
  message_same to (Message.Prepare p) h = h
  message_same to (Message.Commit c) h = h
  message_same to (Message.Vote v) h = said_same to (Message.Vote v) h
  message_same to (Message.Outcome o) h = said_same to (Message.Outcome o) h
  message_same to (Message.Ask x) h = said_same to (Message.Ask x) h
  message_same to (Message.Done d) h = said_same to (Message.Done d) h
  message_same to (Message.ReadAnswer x) h = said_same to (Message.ReadAnswer x) h

  line_same : (l : Line) → LineEvidence sc l → LineEvidence (anew sc) l
  line_same (Line.Ack t s event) h = record { to = h.to; sent = h.sent; time = h.time; timed = h.timed; above = h.above }
  line_same _ h = tt

  -- ---- a shard

  module _ (n : ℕ) (s : ShardNow) (there : slice_get sc.world.shards n ≡ Some s) where
    record_same : (r : Record) → IsAmong s.log r ⊎ IsUnsure s.unsure r → RecordEvidence sc s.log n r → RecordEvidence (anew sc) s.log n r
    record_same (Record.Opened epoch) is h = tt
    record_same (Record.Ceiling at) is h = tt
    record_same (Record.Horizon at) is h = tt
    record_same (Record.Retired below) is h = tt
    record_same (Record.Prepare p) is h = h
    record_same (Record.Commit c) is h = record {
      asked = h.asked;
      voted = h.voted;
      latest = h.latest;
      began = began_same c.txn h.latest h.began;
      above = h.above;
      rests = inl (record { shard = s; there = there; is = is });
    }
    record_same (Record.Abort t) is h = h
    record_same (Record.Outcome t None) is h = h
    record_same (Record.Outcome t (Some at)) is h = h
    record_same _ is h = absurd h

    module _ (m : Memory) (runs : s.state ≡ Runs m) where
      counts : (row : Row) (r : CommitWanted) → IsAmong m.rows row → row_remembers n row ≡ Some r → r.shard ≡ n → IsRemembered sc.world r
      counts row r among is same = record {
        shard = s;
        there = subst (λ k. slice_get sc.world.shards k ≡ Some s) (sym same) there;
        memory = m;
        runs = runs;
        row = row;
        among = among;
        same = subst (λ k. row_remembers k row ≡ Some r) (sym same) is;
      }

      phase_same : (row : Row) → IsAmong m.rows row → (p : Phase) → row.phase ≡ p → PhaseEvidence sc s.log n row.txn p →
          PhaseEvidence (anew sc) s.log n row.txn p
      phase_same row among Idle is h = tt
      phase_same row among (WaitsRead k) is h = tt
      phase_same row among (WaitsPrepare c rs ws) is h = h
      phase_same row among (WaitsCommit l ps rs ws) is h = record {
        asked = h.asked;
        counts = counts row _ among (ap (λ p. row_remembers n (record row { phase = p })) is) refl;
        began = began_same row.txn l h.began;
      }
      phase_same row among (Collecting l ps rs ws votes) is h = (
        record {
          asked = h.0.asked;
          counts = counts row _ among (ap (λ p. row_remembers n (record row { phase = p })) is) refl;
          began = began_same row.txn l h.0.began;
        },
        h.1,
      )
      phase_same row among (IsPrepared c p) is h = h
      phase_same row among (IsDecided at ps) is h = h

      rows_same : (rows : List Row) → ((row : Row) → IsAmong rows row → IsAmong m.rows row) → RowsEvidence sc s.log n rows →
          RowsEvidence (anew sc) s.log n rows
      rows_same [] among h = tt
      rows_same (row ∷ rows) among h =
          (phase_same row (among row (inl refl)) row.phase refl h.0, rows_same rows (λ q k. among q (inr k)) h.1)

    state_same : (st : State) → s.state ≡ st → StateEvidence sc s n st → StateEvidence (anew sc) s n st
    state_same (Runs m) is h = (rows_same m is m.rows (λ row k. k) h.0, h.1)
    state_same (IsStopped m) is h = tt
    state_same IsDown is h = tt

    shard_same : ShardEvidence sc n s → ShardEvidence (anew sc) n s
    shard_same h = record {
      records = λ r k. record_same r (inl k) (h.records r k);
      unsure = λ r k. record_same r (inr k) (h.unsure r k);
      state = state_same s.state refl h.state;
    }

  -- ---- the whole scene

  pub anew_holds : Holds sc → Holds (anew sc)
  anew_holds h = record {
    counted = h.counted;
    messages = λ e k. message_same e.to e.message (h.messages e k);
    shards = λ n s there. shard_same n s there (h.shards n s there);
    lines = λ l k. line_same l (h.lines l k);
    clients = λ t c e. began_same t sc.now (h.clients t c e);
    begun = h.begun;
    once = h.once;
  }

  pub anew_clock : Clock sc → Clock (anew sc)
  anew_clock c = record { count = c.count; time = c.time; below = c.below; rises = c.rises }

-- ---- what a scene tells

module _ (sc : Scene) (h : Holds sc) where
  -- what a shard remembers counts as asked
  pub asked_if_remembered : (r : CommitWanted) → IsRemembered sc.world r → sc.asked r
  asked_if_remembered r k = by_phase k.row.phase refl of_row
    where
      of_rows : RowsEvidence sc k.shard.log r.shard k.memory.rows
      of_rows = (subst (λ st. StateEvidence sc k.shard r.shard st) k.runs (h.shards r.shard k.shard k.there).state).0

      of_row : PhaseEvidence sc k.shard.log r.shard k.row.txn k.row.phase
      of_row = all_at (λ (q : Row). PhaseEvidence sc k.shard.log r.shard q.txn q.phase) k.memory.rows k.row of_rows k.among

      is_asked : (q : CommitWanted) → Some q ≡ Some r → sc.asked q → sc.asked r
      is_asked q same a = subst sc.asked (some_same q r same) a

      nothing : None ≡ Some r → sc.asked r
      nothing e = cc

      by_phase : (p : Phase) → k.row.phase ≡ p → PhaseEvidence sc k.shard.log r.shard k.row.txn p → sc.asked r
      by_phase (WaitsCommit l ps rs ws) is e = is_asked _ (sym (ap (λ p. row_remembers r.shard (record k.row { phase = p })) is) ∙ k.same) e.counts
      by_phase (Collecting l ps rs ws votes) is e =
          is_asked _ (sym (ap (λ p. row_remembers r.shard (record k.row { phase = p })) is) ∙ k.same) e.0.counts
      by_phase Idle is e = nothing (sym (ap (λ p. row_remembers r.shard (record k.row { phase = p })) is) ∙ k.same)
      by_phase (WaitsRead x) is e = nothing (sym (ap (λ p. row_remembers r.shard (record k.row { phase = p })) is) ∙ k.same)
      by_phase (WaitsPrepare c rs ws) is e = nothing (sym (ap (λ p. row_remembers r.shard (record k.row { phase = p })) is) ∙ k.same)
      by_phase (IsPrepared c p) is e = nothing (sym (ap (λ p. row_remembers r.shard (record k.row { phase = p })) is) ∙ k.same)
      by_phase (IsDecided at ps) is e = nothing (sym (ap (λ p. row_remembers r.shard (record k.row { phase = p })) is) ∙ k.same)

  -- what its log decides rests on something
  pub rests_if_decided : (n : ℕ) (c : Committed) → MayStand sc.world n (Record.Commit c) → sc.decided n c ⊎ IsAboveWanted sc n c
  rests_if_decided n c k = elim k.is [
    | inl sure ↦ ((h.shards n k.shard k.there).records (Record.Commit c) sure).rests
    | inr unsure ↦ ((h.shards n k.shard k.there).unsure (Record.Commit c) unsure).rests
  ]
