-- What a running shard shows is kept: by its steps, crashes, failing calls and openings.
use Rattle.std.proofs.Common.{◌≡◌, inl, inr, ℕ, ◌+◌, ◌-◌, ◌<◌, ◌≤◌, Bool, true, false, List, [], ◌∷◌, ◌++◌, map, Option, Some, None, slice_get, refl}
use Rattle.std.proofs.Common.{sym, ap, subst, ◌∙◌, arith}
use Rattle.std.specs.Prelude.{Ok}
use Rattle.std.proofs.lemmas.Bool.{cases_eq}
use Rattle.units.specs.Limits.{most_rows}
use Rattle.units.specs.Ids.{Id, same_id}
use Rattle.units.specs.Keys.{Bytes}
use Rattle.units.specs.Lists.{gather, least_with}
use Rattle.units.specs.Versions.{at_time}
use Rattle.units.specs.declared.setup.Setup.{Setup}
use Rattle.units.proofs.IdLaws.{same_id-is, same_id-refl}
use Rattle.units.proofs.ByIdLaws.{first_passes}
use Rattle.truetime.specs.Interval.{Interval}
use Rattle.record.specs.Accepted.{followed}
use Rattle.record.specs.Facts.{Facts, facts_of, learn}
use Rattle.record.specs.Installs.{installs_of}
use Rattle.record.specs.Records.{Ended, StandsPrepared, StandsDecided, as_ended, is_aborted, committed_of, prepared_of, ended_of, is_below, retired_of}
use Rattle.record.specs.Records.{status_by, status_written}
use Rattle.record.specs.declared.record.Committed.{Committed}
use Rattle.record.specs.declared.record.Prepared.{Prepared}
use Rattle.record.specs.declared.record.Record.{Record}
use Rattle.record.specs.declared.record.Record.TheVariants.{Prepare, Commit, Abort, Outcome}
use Rattle.record.proofs.LearnAgrees.{accepted_follows}
use Rattle.record.proofs.Statuses.{recorded_is}
use Rattle.message.specs.declared.message.Input.{Input}
use Rattle.protocol.specs.Plan.{Plan, start_of_step, carried}
use Rattle.protocol.specs.Rows.{Memory, Row, Phase, IsPrepared, IsDecided, find_row, held_stamp, rebuilt, safe}
use Rattle.protocol.specs.Sound.{IsSound, Agrees}
use Rattle.protocol.specs.Step.{plan_input, facts_after, IsInLimit}
use Rattle.law.specs.Among.{IsAmong}
use Rattle.world.specs.Headline.{IsUnsure}
use Rattle.world.specs.World.{World, ShardNow, View, State, Runs, IsStopped, IsDown, Area, Unsure, setup_of, view_of}
use Rattle.world.proofs.Openings.{opening_follows}
use Rattle.protocol.proofs.RowChanges.{by_id-claims}
use Rattle.law.proofs.OfLogs.{memory_is}
use Rattle.law.proofs.Orderly.{IsOrderly, orderly, same_claim, one_decision, one_promise, decided_not_promised}
use Rattle.law.proofs.Picked.{gather_among, map_among, some_same}
use Rattle.law.proofs.Logged.{AreLogged, each_logged}
use Rattle.law.proofs.Quiet.{HasEnd, IsQuiet, IsAbove, above_logged, quiet_stays, answer_stays}
use Rattle.law.proofs.Recorded.{among_first, outcome_among, is_aborted_among}
use Rattle.law.proofs.Resolved.{committed_is, prepared_is, not_committed, not_prepared}
use Rattle.law.proofs.Retired.{NoneStand, is_standing, none_stand, written_is}
use Rattle.law.proofs.Rising.{Rises, LoggedAbove, rising}
use Rattle.world.proofs.Sounds.{SoundLog, SoundShard, SoundWorld}
use Rattle.world.proofs.EveryRun.{InLimit, IsTaken, IsWell, WellShard, WellWorld, keeps, opening_keeps, opens, logs, shard_with}

-- ---- what a log shows up to a time stays

-- no promise and no decision stands up to the time of a view, and up to it the log shows what the view shows
pub record IsShown (log : List Record) (v : View) : Type 0 where
  pub quiet : IsQuiet log v.safe
  pub same : (k : Bytes) (at : ℕ) → at ≤ v.safe → at_time (installs_of log) k at ≡ at_time v.installs k at

pub quiet_lower : (log : List Record) (at low : ℕ) → IsQuiet log at → low ≤ at → IsQuiet log low
quiet_lower log at low q h = record {
  promises = λ p k e. q.promises p k (omega (arith, h, e));
  decisions = λ c k e. q.decisions c k (omega (arith, h, e));
}

shown_stays : (shard : ℕ) (log : List Record) (r : Record) (v : View) → AreLogged log → followed shard (log ++ r ∷ []) ≡ true → IsAbove v.safe r
    → IsShown log v →
    IsShown (log ++ r ∷ []) v
shown_stays shard log r v logged h above s = record {
  quiet = quiet_stays log r v.safe s.quiet above;
  same = λ k at low. answer_stays shard log r k at logged (above_logged v.safe r above) h (quiet_lower log v.safe at s.quiet low) ∙ s.same k at low;
}

-- ---- as what a step keeps

module _ (n : ℕ) (v : View) where
  -- the memory of one shard has served the time of the view
  pub record Serves (setup : Setup) (f : Facts) (m : Memory) : Type 0 where
    pub well : IsWell setup f m
    pub served : setup.shard ≡ n → v.safe ≤ m.last

  -- and its log shows the view
  pub record Shows (setup : Setup) (log : List Record) : Type 0 where
    pub accepted : IsTaken setup log
    pub shown : setup.shard ≡ n → IsShown log v

  pub rises : (setup : Setup) (f : Facts) (m : Memory) (now : Interval) (i : Input) (p : Plan) → IsWell setup f m →
      plan_input setup (start_of_step most_rows setup f m) now i ≡ Ok p → v.safe ≤ m.last → Rises v.safe p
  rises setup f m now i p well e low = rising most_rows v.safe setup f m now i p (by_id-claims m.rows well.sound.table.order) e low

  pub serves_keeps : (setup : Setup) (f : Facts) (m : Memory) (now : Interval) (i : Input) (p : Plan) → IsInLimit i → Serves setup f m →
      plan_input setup (start_of_step most_rows setup f m) now i ≡ Ok p → Serves setup (facts_after f p.logged) (carried p m)
  unfolding carried
  serves_keeps setup f m now i p limit s e = record {
    well = keeps setup f m now i p limit s.well e;
    served = λ here. (rises setup f m now i p s.well e (s.served here)).0;
  }

  pub serves_opens : (setup : Setup) (f : Facts) (m : Memory) → Serves setup f m → Serves setup (learn f (Record.Opened (f.epoch + 1))) (rebuilt f)
  unfolding rebuilt
  serves_opens setup f m s = record {
    well = opens setup f m s.well;
    served = λ here. let low = s.served here in let under = s.well.sound.under in omega (arith, low, under);
  }

  pub shows_follows : (setup : Setup) (log : List Record) → Shows setup log → followed setup.shard log ≡ true
  shows_follows setup log s = accepted_follows setup log s.accepted.0

  pub shows_logs : (setup : Setup) (log : List Record) (m : Memory) (now : Interval) (i : Input) (p : Plan) (r : Record) → IsInLimit i →
      Shows setup log → Serves setup (facts_of log) m →
      plan_input setup (start_of_step most_rows setup (facts_of log) m) now i ≡ Ok p → p.logged ≡ Some r → Shows setup (log ++ r ∷ [])
  shows_logs setup log m now i p r limit shows serves e logged =
      let more = logs setup log m now i p r limit shows.accepted serves.well e logged in
      record {
        accepted = more;
        shown = λ here. shown_stays setup.shard log r v (each_logged log shows.accepted.1) (accepted_follows setup (log ++ r ∷ []) more.0)
            (subst (LoggedAbove v.safe) logged (rises setup (facts_of log) m now i p serves.well e (serves.served here)).1) (shows.shown here);
      }

  pub shows_opens : (setup : Setup) (log : List Record) → Shows setup log → Shows setup (log ++ Record.Opened ((facts_of log).epoch + 1) ∷ [])
  shows_opens setup log s = record {
    accepted = opening_keeps setup log s.accepted;
    shown = λ here. shown_stays setup.shard log (Record.Opened ((facts_of log).epoch + 1)) v (each_logged log s.accepted.1)
        (opening_follows setup.shard log (accepted_follows setup log s.accepted.0)) tt (s.shown here);
  }

-- a view of a shard is kept: over whatever log a crash may leave
abbrev pub KeptView : ℕ → View → World → Type 0
KeptView n v w = SoundWorld InLimit (Serves n v) (Shows n v) (serves_keeps n v) (serves_opens n v) (shows_follows n v) (shows_logs n v) (shows_opens n v) w

-- ---- what a running shard shows now

least_low : (n : ℕ) (ms : List ℕ) → least_with n ms ≤ n
least_low n [] = omega arith
least_low n (m ∷ ms) = let ih = least_low n ms in omega (arith, ih)

least_below : (n : ℕ) (ms : List ℕ) (m : ℕ) → IsAmong ms m → least_with n ms ≤ m
least_below n [] m h = absurd h
least_below n (x ∷ ms) m (inl same) = omega (arith, same)
least_below n (x ∷ ms) m (inr later) = let ih = least_below n ms m later in omega (arith, ih)

pub safe_low : (m : Memory) → safe m ≤ m.last
unfolding safe
safe_low m = least_low m.last (map (λ s. s - 1) (gather (λ (r : Row). held_stamp r.phase) m.rows))

safe_below : (m : Memory) (r : Row) (at : ℕ) → IsAmong m.rows r → held_stamp r.phase ≡ Some at → safe m ≤ at - 1
unfolding safe
safe_below m r at h e =
    least_below m.last (map (λ s. s - 1) (gather (λ (q : Row). held_stamp q.phase) m.rows)) (at - 1)
    (map_among (λ s. s - 1) (gather (λ (q : Row). held_stamp q.phase) m.rows) at (gather_among (λ (q : Row). held_stamp q.phase) m.rows r at h e))

module _ (shard : ℕ) (log : List Record) (m : Memory) (sound : IsSound shard (facts_of log) m) (o : IsOrderly log) (gone : NoneStand log) where
  ended_there : (t : Id) (e : Ended) → ended_of log t ≡ Some e → HasEnd log t
  ended_there t e is = record {
    outcome = e.outcome;
    among = subst (λ u. IsAmong log (Outcome u e.outcome)) (same_id-is e.txn t (first_passes (λ (y : Ended). same_id y.txn t) (gather as_ended log) e is))
        (outcome_among log o.1 e (among_first (λ (y : Ended). same_id y.txn t) (gather as_ended log) e is));
  }

  -- a row that stands holds back the served time
  held_back : (t : Id) (at : ℕ) (p : Phase) (q : Option Row) → find_row m.rows t ≡ q → held_stamp p ≡ Some at → 0 < at → at ≤ safe m →
      ((r : Row) → q ≡ Some r → r.phase ≡ p) → (q ≡ None → ⊥) → ⊥
  held_back t at p None found stamp zero low row none = none refl
  held_back t at p (Some r) found stamp zero low row none =
      let back = safe_below m r at (among_first (λ (x : Row). same_id x.txn t) m.rows r found) (ap held_stamp (row r refl) ∙ stamp) in
      omega (arith, back, zero, low)

  -- who stands is not retired
  kept_there : (t : Id) → is_standing (status_written log t) ≡ true → is_below (retired_of log) t ≡ false
  kept_there t stands = by_test (is_below (retired_of log) t) refl
    where
      by_test : (b : Bool) → is_below (retired_of log) t ≡ b → b ≡ false
      by_test true below = let z : true ≡ false = sym stands ∙ gone t below in cc
      by_test false below = refl

  agrees_at : (t : Id) (a : Bool) (c : Option Committed) (p : Option Prepared) (e : Option Ended) → is_aborted log t ≡ a → committed_of log t ≡ c →
      prepared_of log t ≡ p → ended_of log t ≡ e → is_standing (status_by a c p e) ≡ true →
      Agrees (installs_of log) m.last (status_by a c p e) (find_row m.rows t)
  unfolding status_written facts_of
  agrees_at t a c p e ha hc hp he stands =
      subst (λ z. Agrees (installs_of log) m.last z (find_row m.rows t)) parts
      (subst (λ st. Agrees (installs_of log) m.last st (find_row m.rows t)) (recorded_is log t ∙ written_is log t kept) (sound.agrees t))
    where
      parts : status_written log t ≡ status_by a c p e
      parts =
          ap (λ z. status_by z (committed_of log t) (prepared_of log t) (ended_of log t)) ha
          ∙ ap (λ z. status_by a z (prepared_of log t) (ended_of log t)) hc ∙ ap (λ z. status_by a c z (ended_of log t)) hp
          ∙ ap (λ z. status_by a c p z) he

      kept : is_below (retired_of log) t ≡ false
      kept = kept_there t (ap is_standing parts ∙ stands)

  promise_ends : (p : Prepared) → IsAmong log (Prepare p) → p.at ≤ safe m → HasEnd log p.txn
  promise_ends p h low = by_parts (is_aborted log p.txn) refl (committed_of log p.txn) refl (prepared_of log p.txn) refl (ended_of log p.txn) refl
    where
      standing : (q : Prepared) → p ≡ q → Agrees (installs_of log) m.last (StandsPrepared q) (find_row m.rows p.txn) → ⊥
      standing q same agrees = by_row (find_row m.rows p.txn) refl agrees
        where
          by_row : (row : Option Row) → find_row m.rows p.txn ≡ row → Agrees (installs_of log) m.last (StandsPrepared q) row → ⊥
          by_row None found none = none
          by_row (Some r) found by =
              let zero = by.above_zero in
              held_back p.txn q.at (IsPrepared q.coordinator q.at) (Some r) found refl zero
              (let at = ap (λ (z : Prepared). z.at) same in omega (arith, low, at))
              (λ x e. ap (λ (z : Row). z.phase) (sym (some_same r x e)) ∙ by.phase) (λ e. cc)

      by_parts : (a : Bool) → is_aborted log p.txn ≡ a → (c : Option Committed) → committed_of log p.txn ≡ c → (q : Option Prepared) →
          prepared_of log p.txn ≡ q → (e : Option Ended) → ended_of log p.txn ≡ e → HasEnd log p.txn
      by_parts a ha c hc q hq (Some e) he = ended_there p.txn e he
      by_parts true ha c hc q hq None he =
          absurd (let same = same_claim log o p.txn (Prepare p) (Abort p.txn) h (is_aborted_among log p.txn ha) (same_id-refl p.txn) (same_id-refl p.txn) in cc)
      by_parts false ha (Some c) hc q hq None he = let i = committed_is log o.1 p.txn c hc in absurd (decided_not_promised log o c p i.0 h (sym i.1))
      by_parts false ha None hc None hq None he = absurd (not_prepared log p.txn p hq h refl)
      by_parts false ha None hc (Some q) hq None he =
          let i = prepared_is log o.1 p.txn q hq in
          absurd (standing q (one_promise log o p q h i.0 i.1) (agrees_at p.txn false None (Some q) None ha hc hq he refl))

  decision_ends : (c : Committed) → IsAmong log (Commit c) → c.at ≤ safe m → HasEnd log c.txn
  decision_ends c h low = by_parts (is_aborted log c.txn) refl (committed_of log c.txn) refl (prepared_of log c.txn) refl (ended_of log c.txn) refl
    where
      standing : (d : Committed) → c ≡ d → Agrees (installs_of log) m.last (StandsDecided d) (find_row m.rows c.txn) → ⊥
      standing d same agrees = by_row (find_row m.rows c.txn) refl agrees
        where
          by_row : (row : Option Row) → find_row m.rows c.txn ≡ row → Agrees (installs_of log) m.last (StandsDecided d) row → ⊥
          by_row None found none = none
          by_row (Some r) found by =
              let zero = by.above_zero in
              held_back c.txn d.at (IsDecided d.at d.parts) (Some r) found refl zero (let at = ap (λ (z : Committed). z.at) same in omega (arith, low, at))
              (λ x e. ap (λ (z : Row). z.phase) (sym (some_same r x e)) ∙ by.phase) (λ e. cc)

      by_parts : (a : Bool) → is_aborted log c.txn ≡ a → (d : Option Committed) → committed_of log c.txn ≡ d → (q : Option Prepared) →
          prepared_of log c.txn ≡ q → (e : Option Ended) → ended_of log c.txn ≡ e → HasEnd log c.txn
      by_parts a ha d hd q hq (Some e) he = ended_there c.txn e he
      by_parts true ha d hd q hq None he =
          absurd (let same = same_claim log o c.txn (Commit c) (Abort c.txn) h (is_aborted_among log c.txn ha) (same_id-refl c.txn) (same_id-refl c.txn) in cc)
      by_parts false ha None hd q hq None he = absurd (not_committed log c.txn c hd h refl)
      by_parts false ha (Some d) hd q hq None he =
          let i = committed_is log o.1 c.txn d hd in
          absurd (standing d (one_decision log o c d h i.0 i.1) (agrees_at c.txn false (Some d) q None ha hd hq he refl))

  -- what it serves is quiet
  pub safe_is_quiet : IsQuiet log (safe m)
  safe_is_quiet = record { promises = promise_ends; decisions = decision_ends }

-- a running shard, and what it shows
pub record IsPresent (w : World) (n : ℕ) (v : View) : Type 0 where
  pub shard : ShardNow
  pub there : slice_get w.shards n ≡ Some shard
  pub memory : Memory
  pub runs : shard.state ≡ Runs memory
  pub is : view_of (facts_of shard.log) memory ≡ v

abbrev pub KeptShard : ℕ → View → Setup → ShardNow → Type 0
KeptShard n v setup s = SoundShard InLimit (Serves n v) (Shows n v) (serves_keeps n v) (serves_opens n v) (shows_follows n v) (shows_logs n v)
    (shows_opens n v) setup s

-- the shard of a view is another
apart_kept : (n : ℕ) (v : View) (setup : Setup) (log : List Record) (area : Area) (unsure : Unsure) (st : State) (views : List View) → (setup.shard ≡ n → ⊥) →
    WellShard setup (shard_with log area unsure st views) → KeptShard n v setup (shard_with log area unsure st views)
apart_kept n v setup log area unsure (Runs m) views other h = record {
  left = λ l may. let x = h.left l may in record {
    memory = x.memory;
    sound = record { well = x.sound; served = λ e. absurd (other e) };
    good =
        record { accepted = x.good; shown = λ e. absurd (other e) };
  };
  state = (record { well = h.state.0; served = λ e. absurd (other e) }, h.state.1);
}
apart_kept n v setup log area unsure (IsStopped m) views other h = record {
  left = λ l may. let x = h.left l may in record {
    memory = x.memory;
    sound = record { well = x.sound; served = λ e. absurd (other e) };
    good =
        record { accepted = x.good; shown = λ e. absurd (other e) };
  };
  state = tt;
}
apart_kept n v setup log area unsure IsDown views other h = record {
  left = λ l may. let x = h.left l may in record {
    memory = x.memory;
    sound = record { well = x.sound; served = λ e. absurd (other e) };
    good =
        record { accepted = x.good; shown = λ e. absurd (other e) };
  };
  state = tt;
}

-- it is this one, and runs
shown_now : (setup : Setup) (log : List Record) (m : Memory) → IsWell setup (facts_of log) m → IsTaken setup log →
    IsShown log (view_of (facts_of log) m)
unfolding facts_of
shown_now setup log m well e = record {
  quiet = safe_is_quiet setup.shard log m well.sound (orderly setup.shard log (accepted_follows setup log e.0) (each_logged log e.1))
      (none_stand setup log e.0 (each_logged log e.1));
  same = λ k at low. refl;
}

running_kept : (n : ℕ) (setup : Setup) (log : List Record) (area : Area) (unsure : Unsure) (st : State) (views : List View) (m : Memory) → st ≡ Runs m →
    WellShard setup (shard_with log area unsure st views) →
    KeptShard n (view_of (facts_of log) m) setup (shard_with log area unsure st views)
running_kept n setup log area unsure (IsStopped q) views m e h = cc
running_kept n setup log area unsure IsDown views m e h = cc
running_kept n setup log area unsure (Runs q) views m e h = record {
  left = λ l may. elim may [
    | inl same ↦ subst (SoundLog InLimit (Serves n (view_of (facts_of log) m)) (Shows n (view_of (facts_of log) m))
        (serves_keeps n (view_of (facts_of log) m)) (serves_opens n (view_of (facts_of log) m)) (shows_follows n (view_of (facts_of log) m))
        (shows_logs n (view_of (facts_of log) m)) (shows_opens n (view_of (facts_of log) m)) setup) (sym same) (record {
          memory = m;
          sound = record { well = well; served = λ here. safe_low m };
          good = record { accepted = good; shown = λ here. shown_now setup log m well good };
        })
    | inr more ↦ absurd (subst (λ u. IsUnsure u more.0) h.state.1 more.1)
  ];
  state = (
    record {
      well = h.state.0;
      served = λ here. let low = safe_low m in let same = ap (λ (z : Memory). z.last) (memory_is q m e) in
          omega (arith, low, same);
    },
    h.state.1,
  );
}
  where
    well : IsWell setup (facts_of log) m
    well = subst (IsWell setup (facts_of log)) (memory_is q m e) h.state.0

    good : IsTaken setup log
    good = (h.left log (inl refl)).good

-- what a running shard shows now is kept
pub present_is_kept : (w : World) (n : ℕ) (v : View) → WellWorld w → IsPresent w n v → KeptView n v w
present_is_kept w n v well present = subst (λ z. KeptView n z w) present.is by_place
  where
    by_place : KeptView n (view_of (facts_of present.shard.log) present.memory) w
    by_place k s there = elim (cases_eq k n) [
      | inl same ↦ here k s there (some_same s present.shard (sym there ∙ subst (λ j. slice_get w.shards j ≡ Some present.shard) (sym same) present.there))
      | inr other ↦ apart_kept n (view_of (facts_of present.shard.log) present.memory) (setup_of w.config k) s.log s.area s.unsure s.state s.views other
          (well k s there)
    ]
      where
        here : (j : ℕ) (x : ShardNow) → slice_get w.shards j ≡ Some x → x ≡ present.shard →
            KeptShard n (view_of (facts_of present.shard.log) present.memory) (setup_of w.config j) x
        here j x at same =
            subst (λ (z : ShardNow). KeptShard n (view_of (facts_of z.log) present.memory) (setup_of w.config j) x) same
            (running_kept n (setup_of w.config j) x.log x.area x.unsure x.state x.views present.memory (ap (λ (z : ShardNow). z.state) same ∙ present.runs)
            (well j x at))
