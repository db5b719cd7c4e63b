-- A value that a shard tells is kept from that moment on.
use Rattle.std.proofs.Common.{◌≡◌, inl, inr, ℕ, Bool, true, false, List, [], ◌∷◌, Option, Some, None, slice_get, refl, sym, ap, subst, ◌∙◌, arith}
use Rattle.std.proofs.lemmas.Bool.{cases_eq}
use Rattle.std.proofs.lemmas.Bool.Decides.{nat_tests}
use Rattle.units.specs.Limits.{most_rows}
use Rattle.units.specs.Ids.{Id}
use Rattle.protocol.specs.Cells.{to_read}
use Rattle.world.proofs.EveryRun.{WellShard, WellWorld, shard_with}
use Rattle.units.specs.Keys.{Bytes}
use Rattle.units.specs.Locks.{holds, with_lock, with_locks}
use Rattle.units.specs.Versions.{latest}
use Rattle.units.specs.declared.lock.Lock.{Lock}
use Rattle.units.specs.declared.lock.Mode.{Mode}
use Rattle.units.specs.declared.setup.Setup.{Setup}
use Rattle.units.specs.declared.writes.Write.{Write}
use Rattle.units.proofs.KeyLaws.{same_key-refl}
use Rattle.record.specs.Facts.{Facts, facts_of, recorded}
use Rattle.record.specs.Records.{Ended, Status, Unrecorded, StandsPrepared, StandsDecided, is_aborted}
use Rattle.record.specs.Records.{committed_of, prepared_of, ended_of, is_below, status_by, status_written}
use Rattle.record.specs.declared.record.Committed.{Committed}
use Rattle.record.specs.declared.record.Prepared.{Prepared}
use Rattle.record.specs.declared.record.Record.{Record}
use Rattle.record.specs.declared.record.Record.TheVariants.{Prepare, Commit}
use Rattle.record.proofs.Statuses.{recorded_is}
use Rattle.message.specs.declared.message.ReadAnswer.{ReadAnswer}
use Rattle.protocol.specs.Plan.{Plan, Before, start_of_step, carried, after_change}
use Rattle.protocol.specs.Rows.{held_in, without_rows, Memory, Row, Phase, Idle, find_row}
use Rattle.protocol.specs.Sound.{IsSound, Agrees, is_open}
use Rattle.protocol.specs.Step.{facts_after}
use Rattle.protocol.proofs.InWay.{row_at}
use Rattle.protocol.proofs.RowChanges.{row_as, find-with_row_same}
use Rattle.law.specs.Among.{IsAmong}
use Rattle.world.specs.Headline.{IsUnsure}
use Rattle.world.specs.World.{World, ShardNow, View, State, Runs, IsStopped, IsDown, Area, Unsure, setup_of}
use Rattle.law.proofs.OfLogs.{memory_is}
use Rattle.law.proofs.Members.{among_right}
use Rattle.law.proofs.Fair.{AnswerFair, Answered, OfRow, OfLock}
use Rattle.world.proofs.Sounds.{SoundLog, SoundShard}
use Rattle.law.proofs.HeldRead.{Held, Reads}
use Rattle.law.proofs.KeptRead.{IsAllowed, KeptRead, Tells, Told, tells_keeps, tells_opens, told_follows, told_logs, told_opens}
use Rattle.law.proofs.Picked.{some_same}
use Rattle.law.proofs.ReadBefore.{Claims}
use Rattle.law.proofs.Resolved.{not_committed, not_prepared}
use Rattle.law.proofs.Retired.{written_is}

-- a lock that is taken is held
holds_lock : (held : List Lock) (k : Bytes) (m : Mode) → holds (with_lock held (record { key = k; mode = m })) k ≡ true
holds_lock [] k m = rw (same_key-refl k) refl
holds_lock (h ∷ hs) k m = grind (arith, nat_tests, holds_lock hs k m, same_key-refl k)

-- ---- after the step

-- who was told the value of a key holds it, and the value is the latest
pub told_is_held : (setup : Setup) (f : Facts) (m : Memory) (p : Plan) (a : ReadAnswer) (x : Option Bytes) →
    AnswerFair (start_of_step most_rows setup f m) p a x → Held a.txn a.key a.epoch x (facts_after f p.logged) (carried p m)
unfolding carried after_change
told_is_held setup f m p a x fair = by_answer fair.held
  where
    b : Before
    b = start_of_step most_rows setup f m

    same_facts : p.logged ≡ None → facts_after f p.logged ≡ f
    same_facts e = ap (facts_after f) e

    made : p.logged ≡ None → (row : Row) → find_row (carried p m).rows a.txn ≡ Some row → is_open row.phase ≡ true → holds row.held a.key ≡ true →
        Held a.txn a.key a.epoch x (facts_after f p.logged) (carried p m)
    made none row found opened there =
        let epoch : (facts_after f p.logged).epoch ≡ a.epoch = ap (λ (g : Facts). g.epoch) (same_facts none) ∙ sym fair.epoch in
        record {
          late = omega (arith, epoch);
          asked = λ r g h. epoch;
          held = λ now. Reads row found opened there (ap (λ (g : Facts). latest g.installs a.key) (same_facts none) ∙ fair.value);
        }

    by_answer : Answered (start_of_step most_rows setup f m) p a.txn a.key → Held a.txn a.key a.epoch x (facts_after f p.logged) (carried p m)
    by_answer (OfRow change wounded logged held phase is opened there) =
        made logged (row_as a.txn held phase)
        (ap (λ c. find_row (after_change c (without_rows m.rows p.wounded)) a.txn) change ∙ ap (λ l. find_row (without_rows m.rows l) a.txn) wounded
        ∙ row_at (start_of_step most_rows setup f m) a.txn held phase is) opened there
    by_answer (OfLock change logged) =
        made logged (row_as a.txn (with_locks (held_in (without_rows m.rows p.wounded) a.txn) (to_read a.key)) Idle)
        (ap (λ c. find_row (after_change c (without_rows m.rows p.wounded)) a.txn) change
        ∙ find-with_row_same (without_rows m.rows p.wounded) (row_as a.txn (with_locks (held_in (without_rows m.rows p.wounded) a.txn)
        (to_read a.key)) Idle)) refl
        (holds_lock (held_in (without_rows m.rows p.wounded) a.txn) a.key _)

-- its row is open
pub told_row : (setup : Setup) (f : Facts) (m : Memory) (p : Plan) (a : ReadAnswer) (x : Option Bytes) →
    AnswerFair (start_of_step most_rows setup f m) p a x → (row : Row) × (find_row (carried p m).rows a.txn ≡ Some row) × (is_open row.phase ≡ true)
    × (p.logged ≡ None)
unfolding carried after_change
told_row setup f m p a x fair = by_answer fair.held
  where
    by_answer : Answered (start_of_step most_rows setup f m) p a.txn a.key → (row : Row) × (find_row (carried p m).rows a.txn ≡ Some row)
        × (is_open row.phase ≡ true) × (p.logged ≡ None)
    by_answer (OfRow change wounded logged held phase is opened there) = (
      row_as a.txn held phase,
      ap (λ c. find_row (after_change c (without_rows m.rows p.wounded)) a.txn) change ∙ ap (λ l. find_row (without_rows m.rows l) a.txn) wounded
          ∙ row_at (start_of_step most_rows setup f m) a.txn held phase is,
      opened,
      logged,
    )
    by_answer (OfLock change logged) = (
      row_as a.txn (with_locks (held_in (without_rows m.rows p.wounded) a.txn) (to_read a.key)) Idle,
      ap (λ c. find_row (after_change c (without_rows m.rows p.wounded)) a.txn) change
          ∙ find-with_row_same (without_rows m.rows p.wounded) (row_as a.txn (with_locks (held_in (without_rows m.rows p.wounded) a.txn) (to_read a.key)) Idle),
      refl,
      logged,
    )

-- ---- a reader with an open row has no record

-- a promise or a decision of an id that is not retired is a status
claimed_recorded : (log : List Record) (r : Record) (t : Id) (at : ℕ) (ks : List Bytes) (ws : List Write) → IsAmong log r → Claims r t at ks ws →
    is_below (facts_of log).retired t ≡ false → recorded (facts_of log) t ≡ Unrecorded → ⊥
unfolding status_written facts_of
claimed_recorded log r t at ks ws h c kept e = by_parts (is_aborted log t) (committed_of log t) refl (prepared_of log t) refl (ended_of log t)
    (sym (written_is log t kept) ∙ sym (recorded_is log t) ∙ e)
  where
    none_logged : (q : Record) → IsAmong log q → Claims q t at ks ws → committed_of log t ≡ None → prepared_of log t ≡ None → ⊥
    none_logged (Prepare p) j d hc hp = not_prepared log t p hp j d.0
    none_logged (Commit p) j d hc hp = not_committed log t p hc j d.0
    none_logged _ j d hc hp = d

    by_parts : (a : Bool) (d : Option Committed) → committed_of log t ≡ d → (q : Option Prepared) → prepared_of log t ≡ q → (z : Option Ended) →
        status_by a d q z ≡ Unrecorded → ⊥
    by_parts true d hd q hq z s = cc
    by_parts false (Some d) hd q hq (Some z) s = cc
    by_parts false (Some d) hd q hq None s = cc
    by_parts false None hd (Some q) hq (Some z) s = cc
    by_parts false None hd (Some q) hq None s = cc
    by_parts false None hd None hq z s = none_logged r h c hd hq

-- a row that reads on is of no record
pub open_unrecorded : (shard : ℕ) (f : Facts) (m : Memory) (t : Id) (row : Row) → IsSound shard f m → find_row m.rows t ≡ Some row →
    is_open row.phase ≡ true → recorded f t ≡ Unrecorded
open_unrecorded shard f m t row sound found opened = by_status (recorded f t) refl (subst (Agrees f.installs m.last (recorded f t)) found (sound.agrees t))
  where
    not_open : (p q : Phase) → p ≡ q → is_open p ≡ true → is_open q ≡ false → ⊥
    not_open p q same a b = let z : true ≡ false = sym a ∙ ap is_open same ∙ b in cc

    by_status : (s : Status) → recorded f t ≡ s → Agrees f.installs m.last s (Some row) → recorded f t ≡ Unrecorded
    by_status Unrecorded e a = e
    by_status (StandsPrepared p) e a = absurd (not_open row.phase _ a.phase opened refl)
    by_status (StandsDecided c) e a = absurd (not_open row.phase _ a.phase opened refl)
    by_status _ e a = absurd a

module _ (n : ℕ) (t : Id) (k : Bytes) (e : ℕ) (x : Option Bytes) where
  abbrev ToldShard : Setup → ShardNow → Type 0
  ToldShard setup s = SoundShard (IsAllowed n t k e x) (Tells n t k e x) (Told n t k e x) (tells_keeps n t k e x) (tells_opens n t k e x)
      (told_follows n t k e x) (told_logs n t k e x) (told_opens n t k e x) setup s

  abbrev ToldLog : Setup → List Record → Type 0
  ToldLog setup log = SoundLog (IsAllowed n t k e x) (Tells n t k e x) (Told n t k e x) (tells_keeps n t k e x) (tells_opens n t k e x)
      (told_follows n t k e x) (told_logs n t k e x) (told_opens n t k e x) setup log

  -- of another shard nothing is said
  apart_told : (setup : Setup) (log : List Record) (area : Area) (unsure : Unsure) (st : State) (views : List View) → (setup.shard ≡ n → ⊥) →
      WellShard setup (shard_with log area unsure st views) → ToldShard setup (shard_with log area unsure st views)
  apart_told setup log area unsure (Runs m) views other h = record {
    left = λ l may. let z = h.left l may in record {
      memory = z.memory;
      sound = record { well = z.sound; held = λ q. absurd (other q) };
      good =
          record { accepted = z.good; right = λ q. absurd (other q) };
    };
    state = (record { well = h.state.0; held = λ q. absurd (other q) }, h.state.1);
  }
  apart_told setup log area unsure (IsStopped m) views other h = record {
    left = λ l may. let z = h.left l may in record {
      memory = z.memory;
      sound = record { well = z.sound; held = λ q. absurd (other q) };
      good =
          record { accepted = z.good; right = λ q. absurd (other q) };
    };
    state = tt;
  }
  apart_told setup log area unsure IsDown views other h = record {
    left = λ l may. let z = h.left l may in record {
      memory = z.memory;
      sound = record { well = z.sound; held = λ q. absurd (other q) };
      good =
          record { accepted = z.good; right = λ q. absurd (other q) };
    };
    state = tt;
  }

  -- a running shard that holds the read
  here_told : (setup : Setup) (log : List Record) (area : Area) (unsure : Unsure) (m : Memory) (views : List View) →
      WellShard setup (shard_with log area unsure (Runs m) views) → Held t k e x (facts_of log) m → is_below (facts_of log).retired t ≡ false →
      recorded (facts_of log) t ≡ Unrecorded → ToldShard setup (shard_with log area unsure (Runs m) views)
  here_told setup log area unsure m views h held kept none = record {
    left = λ l may. elim may [
      | inl same ↦ subst (ToldLog setup) (sym same) (record {
        memory = m;
        sound = record { well = h.state.0; held = λ q. held };
        good = record {
          accepted = (h.left log (inl refl)).good;
          right = λ q front r back at ks ws split claims there. absurd (claimed_recorded log r t at ks ws
              (subst (λ z. IsAmong z r) (sym split) (among_right front (r ∷ back) r (inl refl))) claims kept none);
        };
      })
      | inr more ↦ absurd (subst (λ u. IsUnsure u more.0) h.state.1 more.1)
    ];
    state = (record { well = h.state.0; held = λ q. held }, h.state.1);
  }

  -- a shard that runs and holds a read keeps it
  pub held_is_kept : (w : World) (s : ShardNow) (m : Memory) → WellWorld w → slice_get w.shards n ≡ Some s → s.state ≡ Runs m →
      Held t k e x (facts_of s.log) m → is_below (facts_of s.log).retired t ≡ false → recorded (facts_of s.log) t ≡ Unrecorded → KeptRead n t k e x w
  held_is_kept w s m well there runs held kept none j z at = elim (cases_eq j n) [
    | inl same ↦ by_place same
    | inr other ↦ apart_told (setup_of w.config j) z.log z.area z.unsure z.state z.views other (well j z at)
  ]
    where
      by_place : j ≡ n → ToldShard (setup_of w.config j) z
      by_place same =
          let is : s ≡ z = some_same s z (sym there ∙ subst (λ i. slice_get w.shards i ≡ Some z) same at) in
          subst (ToldShard (setup_of w.config j)) is (by_state s.state runs (subst (WellShard (setup_of w.config j)) (sym is) (well j z at)))
        where
          by_state : (st : State) → st ≡ Runs m → WellShard (setup_of w.config j) (shard_with s.log s.area s.unsure st s.views) →
              ToldShard (setup_of w.config j) (shard_with s.log s.area s.unsure st s.views)
          by_state (Runs q) q_is h = here_told (setup_of w.config j) s.log s.area s.unsure q s.views h
              (subst (Held t k e x (facts_of s.log)) (sym (memory_is q m q_is)) held) kept none
          by_state (IsStopped q) q_is h = cc
          by_state IsDown q_is h = cc
