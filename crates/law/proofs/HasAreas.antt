-- The area of each shard keeps what all records say that were logged since its disk was formatted.
use Rattle.std.specs.List.{list_all}
use Rattle.std.specs.Prelude.{IsTrue}
use Rattle.std.proofs.Common.{◌≡◌, ◌<◌, ◌⊎◌, inl, inr, ℕ, suc, ◌+◌, Bool, true, false, cond, not, max, ◌&&◌, nat_le, List, [], ◌∷◌, ◌++◌, length}
use Rattle.std.proofs.Common.{Option, Some, None, slice_get, refl, sym, ap}
use Rattle.std.proofs.Common.{subst, ◌∙◌, arith, option_to_list}
use Rattle.std.proofs.lemmas.Bool.{and_parts, cases_eq, false≢true}
use Rattle.std.proofs.lemmas.List.{append-nil}
use Rattle.std.proofs.lemmas.List.Folds.{list_all-append}
use Rattle.units.specs.Keys.{Bytes}
use Rattle.units.specs.Lists.{gather, greatest, replaced}
use Rattle.units.specs.declared.setup.Setup.{Setup}
use Rattle.units.proofs.Folds.{gather_append, greatest_append}
use Rattle.record.specs.Accepted.{Accepted, DamagedAt, StrangerAt, begins, belongs, fits_beside, followed, follows, taken, taken_from}
use Rattle.record.specs.Facts.{Facts, facts_of, learn}
use Rattle.record.specs.Records.{as_opened}
use Rattle.record.specs.declared.record.Record.{Record}
use Rattle.record.proofs.LearnAgrees.{accepted_follows, learn_agrees}
use Rattle.gatelog.specs.Gates.{is_left, is_read}
use Rattle.disk.specs.declared.plan.Fate.{Fate}
use Rattle.message.specs.declared.message.Envelope.{Envelope}
use Rattle.protocol.specs.Rows.{Memory}
use Rattle.protocol.specs.Showable.{record_ascends}
use Rattle.protocol.specs.Step.{Does}
use Rattle.session.specs.Sessions.{Moved, Denies, Goes}
use Rattle.ledger.specs.Keeps.{Alike}
use Rattle.ledger.specs.Rules.{takes}
use Rattle.ledger.specs.Turned.{turned}
use Rattle.ledger.proofs.Alike.{alike-keeps, alike-stays}
use Rattle.ledger.proofs.Belongs.{turned-belongs}
use Rattle.ledger.proofs.Come.{turned-log-keeps, turned-may_come}
use Rattle.ledger.proofs.Fits.{turned-fits}
use Rattle.ledger.proofs.Lasts.{log-is-of-shard, taken-lasts}
use Rattle.ledger.proofs.Takes.{takes-alike}
use Rattle.world.specs.Areas.{AreasKeep, IsBeside, MayHaveDone, MayLeaveArea}
use Rattle.world.specs.Headline.{doing_of}
use Rattle.world.specs.Lawful.{lawful, lawful_from, may_act, may_happen}
use Rattle.world.specs.Steady.{AlwaysHasAreas}
use Rattle.world.specs.World.{is_left_turn, is_read_turn}
use Rattle.world.specs.World.{World, ShardNow, Area, Nothing, Shown, Hidden, TurnShown, TurnHidden, acts, area_behind, crashed, effect, failed_in, failed_turn}
use Rattle.world.specs.World.{finished, fresh_area, fresh_log, fresh_shard, happens, look_at_view, look_noted, look_shard, moved, new_area, put_out, read_area}
use Rattle.world.specs.World.{read_log, run, run_from, set_shard, setup_of, start, turns, with_records}
use Rattle.world.specs.declared.event.Act.{Act}
use Rattle.world.specs.declared.event.Config.{Config}
use Rattle.world.specs.declared.event.Doing.{Doing}
use Rattle.world.specs.declared.event.Event.{Event}
use Rattle.world.specs.declared.event.Reply.{Reply}
use Rattle.world.proofs.EveryRun.{InLimit, IsTaken, IsWell, WellShard, WellWorld, always_well, doing_logs, fresh_taken, good, is_steady, keeps, logs}
use Rattle.world.proofs.EveryRun.{opening_keeps}
use Rattle.world.proofs.EveryRun.{opens, taken_follows}
use Rattle.world.proofs.Openings.{taken_more}
use Rattle.world.proofs.Places.{get-replaced_other, get-replaced_same, replicated}
use Rattle.world.proofs.Sounds.{read_left}
use Rattle.world.proofs.StepKinds.{is_logged}
use Rattle.world.proofs.TakenByFacts.{next_takes, taken_by_facts, takes_next, was_next}
use Rattle.world.proofs.Untouched.{run_settings}
use Rattle.law.proofs.Acts.{acts_go, step_of}
use Rattle.law.proofs.Areas.{IsLeft, logs_no_turn, no_more, read_may_leave}
use Rattle.law.proofs.AreasAscend.{always_ascend, AllAscend, read_ascends}
use Rattle.law.proofs.AreasDecide.{DecidesNoMore, more_decides, turned_decides}
use Rattle.law.proofs.AreasOwn.{log_names_own}
use Rattle.law.proofs.Every.{every_run_holds}
use Rattle.law.proofs.Logged.{each_logged}
use Rattle.law.proofs.Picked.{some_same}

-- an opening takes the area, and it is alike to the records, among which an opening and all its decisions are
pub record KeepsLog (setup : Setup) (log : List Record) (area : Area) : Type 0 where
  pub taken : taken setup area.records ≡ Accepted
  pub alike : Alike (facts_of log) (facts_of area.records)
  pub begun : 0 < (facts_of log).epoch
  pub decides : DecidesNoMore log area.records

-- each record of a log that is taken is of the shard
belong_from : (setup : Setup) (before : List Record) (place : ℕ) (log : List Record) → taken_from setup before place log ≡ Accepted →
    list_all (belongs setup) log ≡ true
belong_from setup before place [] h = refl
belong_from setup before place (r ∷ rs) h =
    by_tests (belongs setup r) (begins before r && follows setup.shard before r && fits_beside before r) h
    (λ k. belong_from setup (before ++ r ∷ []) (place + 1) rs k)
  where
    by_tests : (a b : Bool) → cond (not a) (StrangerAt place) (cond b (taken_from setup (before ++ r ∷ []) (place + 1) rs) (DamagedAt place)) ≡ Accepted →
        (taken_from setup (before ++ r ∷ []) (place + 1) rs ≡ Accepted → list_all (belongs setup) rs ≡ true) → (a && list_all (belongs setup) rs) ≡ true
    by_tests false b k rest = cc
    by_tests true false k rest = cc
    by_tests true true k rest = rest k

each_belongs : (setup : Setup) (log : List Record) → taken setup log ≡ Accepted → list_all (belongs setup) log ≡ true
unfolding taken
each_belongs setup log h = belong_from setup [] 0 log h

more_begun : (log : List Record) (r : Record) → 0 < (facts_of log).epoch → 0 < (facts_of (log ++ r ∷ [])).epoch
unfolding facts_of
more_begun log r h =
    subst (λ e. 0 < e) (sym (ap greatest (gather_append as_opened log (r ∷ [])) ∙ greatest_append (gather as_opened log) (gather as_opened (r ∷ []))))
    (above (greatest (gather as_opened log)) (greatest (gather as_opened (r ∷ []))) h)
  where
    above : (a b : ℕ) → 0 < a → 0 < max a b
    above a b k = omega (arith, k)

-- ---- one shard

module _ (config : Config) (bag : List Envelope) (n : ℕ) (s : ShardNow) (well : WellShard (setup_of config n) s)
    (up : list_all record_ascends (read_log s) ≡ true) (kept : KeepsLog (setup_of config n) (read_log s) (read_area s)) where
  accepted : taken (setup_of config n) (read_log s) ≡ Accepted
  accepted = (good config bag n s well).0

  known : followed n (read_log s) ≡ true
  known = accepted_follows (setup_of config n) (read_log s) accepted

  -- a turnover
  turned_kept : KeepsLog (setup_of config n) (read_log s) (new_area s)
  turned_kept =
      let setup : Setup = setup_of config n in
      let facts : Facts = facts_of (read_log s) in
      let sound = well.left (read_log s) (read_left InLimit IsWell IsTaken keeps opens taken_follows logs opening_keeps config bag n s well) in
      let regular = (taken-lasts setup (read_log s) accepted up).regular in
      let ids = log-is-of-shard n (read_log s) known in
      let own = log_names_own setup (read_log s) known (each_belongs setup (read_log s) accepted) in
      record {
        taken = taken_by_facts setup (turned facts) (turned-may_come n facts kept.begun regular ids)
            (turned-fits n facts sound.memory sound.sound.sound sound.sound.few regular) (turned-belongs setup facts own.installs own.entries);
        alike = turned-log-keeps n facts kept.begun regular ids;
        begun = kept.begun;
        decides = turned_decides (read_log s) (each_logged (read_log s) (good config bag n s well).1);
      }

  -- one more record
  more_kept : (r : Record) → IsTaken (setup_of config n) (read_log s ++ r ∷ []) →
      KeepsLog (setup_of config n) (read_log s ++ r ∷ []) (with_records (read_area s) (r ∷ []))
  more_kept r more =
      let setup : Setup = setup_of config n in
      let log : List Record = read_log s in
      let old : List Record = (read_area s).records in
      let each = and_parts (list_all is_logged log) (list_all is_logged (r ∷ [])) (sym (list_all-append is_logged log (r ∷ [])) ∙ more.1) in
      let kind : is_logged r ≡ true = (and_parts (is_logged r) true each.1).0 in
      let taken_here = next_takes setup log r known kind (was_next setup log r more.0) in
      let old_known = accepted_follows setup old kept.taken in
      let taken_there : takes setup (facts_of old) r ≡ true = sym (takes-alike setup (facts_of log) (facts_of old) r kept.alike) ∙ taken_here in
      let area_taken = taken_more setup old r kept.taken (takes_next setup old r old_known kind taken_there) in
      record {
        taken = area_taken;
        alike =
            subst (λ f. Alike f (facts_of (old ++ r ∷ []))) (sym (learn_agrees n log r (accepted_follows setup (log ++ r ∷ []) more.0)))
            (subst (λ f. Alike (learn (facts_of log) r) f) (sym (learn_agrees n old r (accepted_follows setup (old ++ r ∷ []) area_taken)))
            (alike-stays (facts_of log) (facts_of old) r kept.alike));
        begun = more_begun log r kept.begun;
        decides = more_decides log old r kind kept.decides;
      }

-- ---- a world

-- what is known of a world: each shard is well, and what its records write ascends
pub record Base (w : World) : Type 0 where
  pub well : WellWorld w
  pub up : (n : ℕ) (s : ShardNow) → slice_get w.shards n ≡ Some s → list_all record_ascends (read_log s) ≡ true

-- whatever a crash leaves of a shard keeps its log
abbrev pub AreKept : World → Type 0
AreKept w = (n : ℕ) (s : ShardNow) → slice_get w.shards n ≡ Some s → (log : List Record) (area : Area) → MayLeaveArea s log area →
    KeepsLog (setup_of w.config n) log area

module _ (w : World) (base : Base w) (kept : AreKept w) where
  module _ (n : ℕ) (s : ShardNow) (there : slice_get w.shards n ≡ Some s) where
    pub read_kept : KeepsLog (setup_of w.config n) (read_log s) (read_area s)
    read_kept = kept n s there (read_log s) (read_area s) (read_may_leave s)

    pub step_kept : (doing : Doing) (logged : Option Record) (memory : Memory) (out : List Envelope) →
        effect (setup_of w.config n) w.bag s doing ≡ Does logged memory out →
        KeepsLog (setup_of w.config n) (read_log s ++ option_to_list logged) (area_behind s doing logged)
    step_kept doing logged memory out e = by_case logged (turns doing) refl e
      where
        by_case : (o : Option Record) (b : Bool) → turns doing ≡ b → effect (setup_of w.config n) w.bag s doing ≡ Does o memory out →
            KeepsLog (setup_of w.config n) (read_log s ++ option_to_list o) (cond b (new_area s) (with_records (read_area s) (option_to_list o)))
        by_case None true is k =
            subst (λ l. KeepsLog (setup_of w.config n) l (new_area s)) (sym (append-nil (read_log s)))
            (turned_kept w.config w.bag n s (base.well n s there) (base.up n s there) read_kept)
        by_case None false is k =
            subst (λ l. KeepsLog (setup_of w.config n) l (with_records (read_area s) [])) (sym (append-nil (read_log s)))
            (subst (KeepsLog (setup_of w.config n) (read_log s)) (sym (no_more (read_area s))) read_kept)
        by_case (Some r) true is k = absurd (false≢true (sym (logs_no_turn (setup_of w.config n) w.bag s doing r memory out k) ∙ is))
        by_case (Some r) false is k =
            more_kept w.config w.bag n s (base.well n s there) (base.up n s there) read_kept r
            (doing_logs w.config w.bag n s (base.well n s there) doing r memory out k)

    pub done_kept : (doing : Doing) (log : List Record) (area : Area) → MayHaveDone w s n doing log area → KeepsLog (setup_of w.config n) log area
    done_kept doing log area m =
        subst (λ l. KeepsLog (setup_of w.config n) l area) (sym m.log_is)
        (subst (KeepsLog (setup_of w.config n) (read_log s ++ option_to_list m.logged)) (sym m.area_is) (step_kept doing m.logged m.memory m.out m.does))

    pub left_kept : (log : List Record) (area : Area) → IsLeft w n s log area → KeepsLog (setup_of w.config n) log area
    left_kept log area (inl plain) = kept n s there log area plain
    left_kept log area (inr within) = done_kept within.0 log area within.1

  set_kept : (n : ℕ) (old new : ShardNow) → slice_get w.shards n ≡ Some old →
      ((log : List Record) (area : Area) → MayLeaveArea new log area → KeepsLog (setup_of w.config n) log area) → AreKept (set_shard n new w)
  set_kept n old new there new_kept m s e = elim (cases_eq n m)
      [ inl same ↦ by_place same | inr ne ↦ kept m s (sym (get-replaced_other w.shards n m new ne) ∙ e) ]
    where
      by_place : n ≡ m → (log : List Record) (area : Area) → MayLeaveArea s log area → KeepsLog (setup_of w.config m) log area
      by_place same =
          let is : new ≡ s = some_same new s (sym (get-replaced_same w.shards n old new there)
          ∙ subst (λ k. slice_get (replaced w.shards n new) k ≡ Some s) (sym same) e) in
          subst (λ k. (log : List Record) (area : Area) → MayLeaveArea s log area → KeepsLog (setup_of w.config k) log area) same
          (subst (λ (x : ShardNow). (log : List Record) (area : Area) → MayLeaveArea x log area → KeepsLog (setup_of w.config n) log area) is new_kept)

  module _ (n : ℕ) (s : ShardNow) (there : slice_get w.shards n ≡ Some s) where
    crash_kept : (log : List Record) (area : Area) → IsLeft w n s log area → AreKept (set_shard n (crashed s log area) w)
    crash_kept log area left = set_kept n s (crashed s log area) there by_left
      where
        by_left : (l : List Record) (a : Area) → MayLeaveArea (crashed s log area) l a → KeepsLog (setup_of w.config n) l a
        by_left l a (inl same) =
            subst (λ x. KeepsLog (setup_of w.config n) x a) (sym same.0)
            (subst (KeepsLog (setup_of w.config n) log) (sym same.1) (left_kept n s there log area left))
        by_left l a (inr none) = absurd none

    finish_kept : (doing : Doing) (logged : Option Record) (memory : Memory) (out : List Envelope) →
        effect (setup_of w.config n) w.bag s doing ≡ Does logged memory out → AreKept (put_out out (set_shard n (finished s doing logged memory) w))
    unfolding put_out finished
    finish_kept doing logged memory out e = set_kept n s (finished s doing logged memory) there by_left
      where
        by_left : (l : List Record) (a : Area) → MayLeaveArea (finished s doing logged memory) l a → KeepsLog (setup_of w.config n) l a
        by_left l a (inl same) =
            subst (λ x. KeepsLog (setup_of w.config n) x a) (sym same.0)
            (subst (KeepsLog (setup_of w.config n) (read_log s ++ option_to_list logged)) (sym same.1) (step_kept n s there doing logged memory out e))
        by_left l a (inr none) = absurd none

    -- either the old, or what an append or a turnover leaves
    or_behind : (l log : List Record) (a area : Area) → KeepsLog (setup_of w.config n) log area → (l ≡ log) × (a ≡ area) → KeepsLog (setup_of w.config n) l a
    or_behind l log a area k same = subst (λ x. KeepsLog (setup_of w.config n) x a) (sym same.0) (subst (KeepsLog (setup_of w.config n) log) (sym same.1) k)

    fail_kept : (call : ℕ) (doing : Doing) (r : Record) (memory : Memory) (out : List Envelope) →
        effect (setup_of w.config n) w.bag s doing ≡ Does (Some r) memory out → AreKept (set_shard n (failed_in s call r) w)
    unfolding failed_in
    fail_kept call doing r memory out e = set_kept n s (failed_in s call r) there by_left
      where
        with_it : KeepsLog (setup_of w.config n) (read_log s ++ r ∷ []) (with_records (read_area s) (r ∷ []))
        with_it =
            subst (λ b. KeepsLog (setup_of w.config n) (read_log s ++ r ∷ []) (cond b (new_area s) (with_records (read_area s) (r ∷ []))))
            (logs_no_turn (setup_of w.config n) w.bag s doing r memory out e) (step_kept n s there doing (Some r) memory out e)

        by_unsure : (b c : Bool) (l : List Record) (a : Area) → IsBeside (failed_in s call r) (cond b (Shown r) (cond c (Hidden r) Nothing)) l a →
            KeepsLog (setup_of w.config n) l a
        by_unsure true c l a same = or_behind l _ a _ with_it same
        by_unsure false true l a same = or_behind l _ a _ with_it same
        by_unsure false false l a none = absurd none

        by_left : (l : List Record) (a : Area) → MayLeaveArea (failed_in s call r) l a → KeepsLog (setup_of w.config n) l a
        by_left l a (inl same) = or_behind l _ a _ (read_kept n s there) same
        by_left l a (inr beside) = by_unsure (is_read call) (is_left call Fate.New) l a beside

    turn_fail_kept : (call : ℕ) (doing : Doing) (memory : Memory) (out : List Envelope) → turns doing ≡ true →
        effect (setup_of w.config n) w.bag s doing ≡ Does None memory out → AreKept (set_shard n (failed_turn s call) w)
    unfolding failed_turn
    turn_fail_kept call doing memory out turning e = set_kept n s (failed_turn s call) there by_left
      where
        renewed : KeepsLog (setup_of w.config n) (read_log s) (new_area s)
        renewed = turned_kept w.config w.bag n s (base.well n s there) (base.up n s there) (read_kept n s there)

        by_unsure : (b c : Bool) (l : List Record) (a : Area) →
            IsBeside (failed_turn s call) (cond b (TurnShown (new_area s)) (cond c (TurnHidden (new_area s)) Nothing)) l a → KeepsLog (setup_of w.config n) l a
        by_unsure true c l a same = or_behind l _ a _ renewed same
        by_unsure false true l a same = or_behind l _ a _ renewed same
        by_unsure false false l a none = absurd none

        by_left : (l : List Record) (a : Area) → MayLeaveArea (failed_turn s call) l a → KeepsLog (setup_of w.config n) l a
        by_left l a (inl same) = or_behind l _ a _ (read_kept n s there) same
        by_left l a (inr beside) = by_unsure (is_read_turn call) (is_left_turn call Fate.New) l a beside

  moved_kept : (m : Moved) → AreKept (moved w m).0
  unfolding put_out
  moved_kept (Denies f) = kept
  moved_kept (Goes c out) = kept

  noted_kept : (k : Bytes) (at : ℕ) (r : Reply) → AreKept (look_noted w k at r).0
  noted_kept k at (Reply.Shows x) = kept
  noted_kept k at Reply.Done = kept
  noted_kept k at (Reply.Refused f) = kept
  noted_kept k at Reply.Crashed = kept

  acts_kept : (time : ℕ) (a : Act) → may_act w time a ≡ true → AreKept (acts w a).0
  acts_kept =
      acts_go w AreKept kept (λ t new. kept) (λ c s there. moved_kept (step_of w.config.splits s c)) (λ c to a there named told. kept)
      crash_kept finish_kept fail_kept turn_fail_kept
      (λ n s there k at. noted_kept k at (look_shard (setup_of w.config n) s k at))
      (λ n s there i k at. noted_kept k at (look_at_view (setup_of w.config n) (slice_get s.views i) k at))

-- ---- a whole run

run_kept : (w : World) (es : List Event) → AreKept w → lawful_from w es ≡ true →
    ((ds : List Event) → lawful_from w ds ≡ true → Base (run_from w ds)) → AreKept (run_from w es)
unfolding happens
run_kept w [] kept fair base = kept
run_kept w (e ∷ es) kept fair base =
    let p = and_parts (may_happen w e) (lawful_from ((happens w e).0) es) fair in
    run_kept ((happens w e).0) es
    (acts_kept w (base [] refl) kept e.time e.act (and_parts (nat_le w.time e.time) (may_act w e.time e.act) p.0).1) p.1
    (λ ds l. base (e ∷ ds) (ap (λ b. b && lawful_from ((happens w e).0) ds) p.0 ∙ l))

fresh_kept : (setup : Setup) → KeepsLog setup fresh_log fresh_area
unfolding facts_of
fresh_kept setup = record {
  taken = (fresh_taken setup).0;
  alike = record {
    epoch = refl;
    floor = refl;
    horizon = refl;
    retired = refl;
    entries = refl;
    versions = record { now = λ k. refl; at = λ k t low. refl };
  };
  begun = omega arith;
  decides = λ c none. absurd none;
}

start_kept : (config : Config) → AreKept (start config)
unfolding start
start_kept config n s e =
    subst (λ (x : ShardNow). (log : List Record) (area : Area) → MayLeaveArea x log area → KeepsLog (setup_of config n) log area)
    (replicated (suc (length config.splits)) n s e) by_left
  where
    by_left : (log : List Record) (area : Area) → MayLeaveArea fresh_shard log area → KeepsLog (setup_of config n) log area
    by_left log area (inl same) =
        subst (λ l. KeepsLog (setup_of config n) l area) (sym same.0)
        (subst (KeepsLog (setup_of config n) fresh_log) (sym same.1) (fresh_kept (setup_of config n)))
    by_left log area (inr none) = absurd none

pub based : (config : Config) (es : List Event) → lawful config es ≡ true → Base (run config es)
based config es fair =
    let r = every_run_holds is_steady config es fair in
    record {
      well = always_well config es fair;
      up = λ n s there. read_ascends r.scene r.holds (subst AllAscend (sym r.same) (always_ascend config es fair)) n s
          (subst (λ (w : World). slice_get w.shards n ≡ Some s) (sym r.same) there);
    }

pub always_kept : (config : Config) (es : List Event) → lawful config es ≡ true → AreKept (run config es)
unfolding run lawful
always_kept config es fair = run_kept (start config) es (start_kept config) fair (λ ds l. based config ds l)

module _ (config : Config) (es : List Event) (fair : lawful config es ≡ true) where
  abbrev w : World
  w = run config es

  base : Base w
  base = based config es fair

  read_is_kept : (n : ℕ) (s : ShardNow) → slice_get w.shards n ≡ Some s → KeepsLog (setup_of w.config n) (read_log s) (read_area s)
  read_is_kept n s there = read_kept w base (always_kept config es fair) n s there

  -- the decisions of the area are of the records
  pub area_decides : (n : ℕ) (s : ShardNow) → slice_get w.shards n ≡ Some s → DecidesNoMore (read_log s) (read_area s).records
  area_decides n s there = (read_is_kept n s there).decides

-- every lawful run has its areas
pub always_has_areas : AlwaysHasAreas
always_has_areas config es fair = record {
  takes = λ n s there. (read_is_kept config es fair n s there).taken;
  alike = λ n s there. (read_is_kept config es fair n s there).alike;
  lasting = λ n s there. taken-lasts (setup_of w.config n) (read_log s) (good w.config w.bag n s ((base config es fair).well n s there)).0
      ((base config es fair).up n s there);
}
  where
    w : World
    w = run config es

-- and whatever a crash leaves of one keeps what was said
pub areas_keep : AreasKeep
areas_keep config es n log area fair left =
    let k : KeepsLog (setup_of (run config es).config n) log area = by_place left.0 left.1 left.2 in (
      subst (λ (c : Config). taken (setup_of c n) area.records ≡ Accepted) (run_settings config es) k.taken,
      alike-keeps (facts_of log) (facts_of area.records) k.alike,
    )
  where
    w : World
    w = run config es

    by_place : (s : ShardNow) → slice_get w.shards n ≡ Some s → (MayLeaveArea s log area ⊎ ((e : Event) × (doing : Doing)
        × IsTrue (lawful config (es ++ e ∷ [])) × (doing_of w e.act ≡ Some (n, doing)) × MayHaveDone w s n doing log area))
        → KeepsLog (setup_of w.config n) log area
    by_place s there (inl plain) = left_kept w (based config es fair) (always_kept config es fair) n s there log area (inl plain)
    by_place s there (inr within) = done_kept w (based config es fair) (always_kept config es fair) n s there within.1 log area within.4
