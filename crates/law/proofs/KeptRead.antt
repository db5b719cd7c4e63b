-- A value that was told is kept: by steps that are asked fairly, by crashes, failing calls and openings.
use Rattle.std.proofs.Common.{◌≡◌, inl, inr, ℕ, ◌+◌, true, List, [], ◌∷◌, ◌++◌, Option, Some, sym, subst, arith}
use Rattle.std.specs.Prelude.{Ok}
use Rattle.units.specs.Limits.{most_rows}
use Rattle.units.specs.Ids.{Id, same_id}
use Rattle.units.specs.Keys.{Bytes}
use Rattle.units.specs.Lists.{gather}
use Rattle.units.specs.Versions.{latest}
use Rattle.units.specs.declared.lock.Lock.{Lock}
use Rattle.units.specs.declared.setup.Setup.{Setup}
use Rattle.units.specs.declared.writes.Write.{Write}
use Rattle.truetime.specs.Interval.{Interval}
use Rattle.record.specs.Accepted.{followed}
use Rattle.record.specs.Facts.{TxnStatus, Facts, facts_of, learn}
use Rattle.record.specs.Installs.{installs_of}
use Rattle.record.specs.Records.{Status, StandsPrepared, StandsDecided}
use Rattle.record.specs.declared.record.Record.{Record}
use Rattle.record.proofs.LearnAgrees.{accepted_follows}
use Rattle.message.specs.declared.message.Input.{Input}
use Rattle.protocol.specs.Plan.{Plan, start_of_step, carried, stands}
use Rattle.protocol.specs.Rows.{Memory, Row, Phase, HasRow, find_row, rebuilt, standing_row}
use Rattle.protocol.specs.Step.{plan_input, facts_after, IsInLimit}
use Rattle.protocol.proofs.InWay.{row_at}
use Rattle.protocol.proofs.Each.{told_plan}
use Rattle.law.specs.Among.{IsAmong}
use Rattle.world.specs.World.{World}
use Rattle.law.proofs.Picked.{some_same}
use Rattle.law.proofs.Recorded.{among_first, among_gather}
use Rattle.law.proofs.Fair.{IsFairInput, PlanFair, fairly, reads_of}
use Rattle.world.proofs.Sounds.{SoundWorld}
use Rattle.law.proofs.HeldRead.{Held, held_keeps, held_logs}
use Rattle.law.proofs.ReadBefore.{Claims}
use Rattle.law.proofs.Stamps.{last_split}
use Rattle.world.proofs.EveryRun.{IsTaken, IsWell, keeps, opening_keeps, opens, logs}

-- a row that an opening finds waits for nothing
no_reads : (entries : List TxnStatus) (t : Id) (k : Bytes) (row : Row) → find_row (gather standing_row entries) t ≡ Some row
    → IsAmong (reads_of row.phase) k → ⊥
no_reads entries t k row found there =
    let s = among_gather standing_row entries row (among_first (λ (r : Row). same_id r.txn t) (gather standing_row entries) row found) in
    by_status s.from.txn s.from.status s.gives
  where
    by_status : (u : Id) (st : Status) → standing_row (record { txn = u; status = st }) ≡ Some row → ⊥
    by_status u (StandsPrepared p) e = subst (λ (r : Row). IsAmong (reads_of r.phase) k) (sym (some_same _ row e)) there
    by_status u (StandsDecided c) e = subst (λ (r : Row). IsAmong (reads_of r.phase) k) (sym (some_same _ row e)) there
    by_status u _ e = cc

module _ (n : ℕ) (t : Id) (k : Bytes) (e : ℕ) (x : Option Bytes) where
  -- what a shard is given is within the limit of time, and asks for the reader's key in its epoch alone
  pub record IsAllowed (setup : Setup) (i : Input) : Type 0 where
    pub limit : IsInLimit i
    pub fair : setup.shard ≡ n → IsFairInput t k e i

  pub record Tells (setup : Setup) (f : Facts) (m : Memory) : Type 0 where
    pub well : IsWell setup f m
    pub held : setup.shard ≡ n → Held t k e x f m

  -- where the reader was logged with the key, the value was the latest
  abbrev pub ReadsRightly : List Record → Type 0
  ReadsRightly log = (front : List Record) (r : Record) (back : List Record) (at : ℕ) (ks : List Bytes) (ws : List Write) → log ≡ front ++ r ∷ back →
      Claims r t at ks ws → IsAmong ks k → latest (installs_of front) k ≡ x

  pub record Told (setup : Setup) (log : List Record) : Type 0 where
    pub accepted : IsTaken setup log
    pub right : setup.shard ≡ n → ReadsRightly log

  fair_plan : (setup : Setup) (f : Facts) (m : Memory) (now : Interval) (i : Input) (p : Plan) → IsFairInput t k e i → Held t k e x f m →
      plan_input setup (start_of_step most_rows setup f m) now i ≡ Ok p → PlanFair t k e (start_of_step most_rows setup f m) p
  fair_plan setup f m now i p fair h is =
      told_plan (fairly t k e (start_of_step most_rows setup f m) rows setup now i fair) is
    where
      rows : (u : Id) (held : List Lock) (phase : Phase) → stands (start_of_step most_rows setup f m) u ≡ HasRow held phase → u ≡ t →
          IsAmong (reads_of phase) k → f.epoch ≡ e
      rows u held phase st same there = h.asked (record { txn = u; held = held; phase = phase })
          (subst (λ z. find_row m.rows z ≡ Some (record { txn = u; held = held; phase = phase })) same
          (row_at (start_of_step most_rows setup f m) u held phase st)) there

  pub tells_keeps : (setup : Setup) (f : Facts) (m : Memory) (now : Interval) (i : Input) (p : Plan) → IsAllowed setup i → Tells setup f m →
      plan_input setup (start_of_step most_rows setup f m) now i ≡ Ok p → Tells setup (facts_after f p.logged) (carried p m)
  tells_keeps setup f m now i p allowed s is = record {
    well = keeps setup f m now i p allowed.limit s.well is;
    held = λ here. held_keeps t k e x setup f m now i p s.well.sound is (fair_plan setup f m now i p (allowed.fair here) (s.held here) is) (s.held here);
  }

  pub tells_opens : (setup : Setup) (f : Facts) (m : Memory) → Tells setup f m → Tells setup (learn f (Record.Opened (f.epoch + 1))) (rebuilt f)
  unfolding rebuilt learn
  tells_opens setup f m s = record {
    well = opens_well;
    held = λ here. let late = (s.held here).late in record {
      late = omega (arith, late);
      asked = λ row found there. absurd (no_reads f.entries t k row found there);
      held = λ same. absurd (omega (arith, late, same));
    };
  }
    where
      opens_well : IsWell setup (learn f (Record.Opened (f.epoch + 1))) (rebuilt f)
      opens_well = opens setup f m s.well

  pub told_follows : (setup : Setup) (log : List Record) → Told setup log → followed setup.shard log ≡ true
  told_follows setup log s = accepted_follows setup log s.accepted.0

  pub told_logs : (setup : Setup) (log : List Record) (m : Memory) (now : Interval) (i : Input) (p : Plan) (r : Record) → IsAllowed setup i →
      Told setup log → Tells setup (facts_of log) m →
      plan_input setup (start_of_step most_rows setup (facts_of log) m) now i ≡ Ok p → p.logged ≡ Some r → Told setup (log ++ r ∷ [])
  unfolding facts_of
  told_logs setup log m now i p r allowed good s is logged = record {
    accepted = logs setup log m now i p r allowed.limit good.accepted s.well is logged;
    right = λ here front q back at ks ws split claims there. elim (last_split log r front q back split) [
      | inl end ↦ subst (λ l. latest (installs_of l) k ≡ x) end.1
          (held_logs t k e x setup (facts_of log) m now i p s.well.sound is (fair_plan setup (facts_of log) m now i p (allowed.fair here)
          (s.held here) is) (s.held here) r at ks ws logged
          (subst (λ z. Claims z t at ks ws) (sym end.0) claims) there)
      | inr more ↦ good.right here front q more.0 at ks ws more.1 claims there
    ];
  }

  pub told_opens : (setup : Setup) (log : List Record) → Told setup log → Told setup (log ++ Record.Opened ((facts_of log).epoch + 1) ∷ [])
  told_opens setup log good = record {
    accepted = opening_keeps setup log good.accepted;
    right = λ here front q back at ks ws split claims there. elim (last_split log (Record.Opened ((facts_of log).epoch + 1)) front q back split) [
      | inl end ↦ absurd (subst (λ z. Claims z t at ks ws) (sym end.0) claims)
      | inr more ↦ good.right here front q more.0 at ks ws more.1 claims there
    ];
  }

-- a value that a shard told is kept: in each log that a crash may leave, its reader was logged while it was the latest
abbrev pub KeptRead : ℕ → Id → Bytes → ℕ → Option Bytes → World → Type 0
KeptRead n t k e x w = SoundWorld (IsAllowed n t k e x) (Tells n t k e x) (Told n t k e x) (tells_keeps n t k e x) (tells_opens n t k e x)
    (told_follows n t k e x) (told_logs n t k e x) (told_opens n t k e x) w
