-- Whatever a crash leaves, some event of the run tells it.
use Rattle.std.proofs.Common.{◌≡◌, ◌⊎◌, inl, inr, ℕ, ◌≤◌, ◌<◌, Bool, true, false, not, cond, ◌&&◌, nat_eq, nat_le, nat_lt, List, [], ◌∷◌, ◌++◌, length}
use Rattle.std.proofs.Common.{Option, Some, None, slice_get, refl, sym, ap, ◌∙◌, subst, arith}
use Rattle.std.proofs.lemmas.Bool.{and_from, and_parts, false≢true}
use Rattle.std.proofs.lemmas.Bool.Decides.{nat_tests}
use Rattle.std.proofs.lemmas.Option.{slice_get_within}
use Rattle.units.specs.Lists.{when}
use Rattle.units.specs.declared.fault.Fault.TheVariants.{Stopped}
use Rattle.units.specs.declared.setup.Setup.{Setup}
use Rattle.truetime.specs.Interval.{Interval}
use Rattle.truetime.specs.Reading.{is_honest}
use Rattle.disk.specs.declared.plan.FailurePlan.{FailurePlan}
use Rattle.disk.specs.declared.plan.Fate.{Fate}
use Rattle.disk.specs.File.{File, surface}
use Rattle.disk.specs.Image.{MayLeave}
use Rattle.message.specs.declared.message.Address.{Address}
use Rattle.message.specs.declared.message.Address.TheVariants.{Shard, Session}
use Rattle.message.specs.declared.message.Envelope.{Envelope}
use Rattle.protocol.specs.Rows.{Memory}
use Rattle.protocol.specs.Step.{Stepped, Refuses, Does}
use Rattle.record.specs.declared.record.Record.{Record}
use Rattle.world.specs.Areas.{IsBeside, MayHaveDone, MayLeaveArea}
use Rattle.world.specs.Headline.{doing_of}
use Rattle.world.specs.Lawful.{can_come, goes_to, is_down, is_in, is_up, lawful, may_act, may_crash, may_do, may_happen}
use Rattle.world.specs.World.{World, Area, ShardNow, State, Runs, IsStopped, IsDown, Unsure, Nothing, Shown, Hidden, TurnShown, TurnHidden, area_behind}
use Rattle.world.specs.World.{crashed_in, effect, left_area_of, new_area, read_area, run, setup_of, start, turns, with_records}
use Rattle.world.specs.declared.event.Act.{Act}
use Rattle.world.specs.declared.event.Config.{Config}
use Rattle.world.specs.declared.event.Doing.{Doing}
use Rattle.world.specs.declared.event.Event.{Event}
use Rattle.world.proofs.Untouched.{run_settings}
use Rattle.lives.specs.Inputs.{goes_on}
use Rattle.lives.specs.Held.{HoldsArea}
use Rattle.lives.proofs.Living.{asks_the_resting}
use Rattle.law.proofs.Areas.{logs_no_turn, no_more}
use Rattle.law.proofs.Instants.{last_may}
use Rattle.images.specs.Images.{AreElsewhere, CrashesAreTold, IsTold, IsUnderWay, LeavesImage, Life, RestartsFrom, RestartsWith, Turns}
use Rattle.images.specs.Images.{Up, Down, disk_of, events_of}
use Rattle.images.proofs.Held.{LivesAs, LivesIn, ReadsAs, life_holds, sure_area}
use Rattle.images.proofs.Placed.{no_input, some_shard}
use Rattle.images.proofs.Turned.{HoldRun, MayLeaveHere, holds, under_way_reads}

pub same_number : (n : ℕ) → nat_eq n n ≡ true
same_number n = grind (arith, nat_tests)

pub no_later : (n : ℕ) → nat_le n n ≡ true
no_later n = grind (arith, nat_tests)

pub below : (n m : ℕ) → n < m → nat_lt n m ≡ true
below n m h = grind (arith, nat_tests)

-- a reading at a time holds it
honest_at : (time : ℕ) → is_honest time (record { earliest = time; latest = time }) ≡ true
honest_at time = and_from (nat_le time time) (nat_le time time) (no_later time) (no_later time)

same_pair : (a b : ℕ × Doing) → ◌≡◌ {A = Option (ℕ × Doing)} (Some a) (Some b) → a ≡ b
same_pair a b e = cc

-- the last of lawful events may happen
pub last_of : (config : Config) (es : List Event) (e : Event) → lawful config (es ++ e ∷ []) ≡ true → may_happen (run config es) e ≡ true
unfolding run lawful
last_of config es e fair = last_may (start config) es e fair

-- a doing that may be under way may be done
pub may_be_done : (w : World) (time n : ℕ) (doing : Doing) (a : Act) → doing_of w a ≡ Some (n, doing) → may_act w time a ≡ true → may_do w time n doing ≡ true
unfolding may_act
may_be_done w time n doing (Act.At k d) of may =
    let one = same_pair (k, d) (n, doing) of in
    subst (λ (p : ℕ × Doing). may_do w time p.0 p.1 ≡ true) one (and_parts (nat_lt k (length w.shards)) (may_do w time k d) may).1
may_be_done w time n doing (Act.CrashIn k call fate named d) of may =
    let one = same_pair (k, d) (n, doing) of in
    let p = and_parts (nat_lt k (length w.shards) && nat_eq k named && may_do w time k d) (may_crash w k d) may in
    subst (λ (p : ℕ × Doing). may_do w time p.0 p.1 ≡ true) one
    (and_parts (nat_lt k (length w.shards) && nat_eq k named) (may_do w time k d) p.0).1
may_be_done w time n doing (Act.FailIn k call named d) of may =
    let one = same_pair (k, d) (n, doing) of in
    subst (λ (p : ℕ × Doing). may_do w time p.0 p.1 ≡ true) one
    (and_parts (nat_lt k (length w.shards) && nat_eq k named) (may_do w time k d) may).1
may_be_done w time n doing (Act.Deliver m now) of may = by_bag (slice_get w.bag m) refl of
  where
    honest : is_honest time now ≡ true
    honest = (and_parts (is_honest time now) (when (can_come w) (slice_get w.bag m)) may).0

    by_address : (e : Envelope) (to : Address) → slice_get w.bag m ≡ Some e → e.to ≡ to →
        elim to as (λ x. Option (ℕ × Doing)) [ Shard k ↦ Some (k, Doing.Take m now) | Session t ↦ None ] ≡ Some (n, doing) → may_do w time n doing ≡ true
    by_address e (Session t) there goes k = absurd (cc)
    by_address e (Shard k) there goes is =
        let here : goes_to k e ≡ true = ap (λ a. elim a as (λ x. Bool) [ Shard j ↦ nat_eq j k | Session t ↦ false ]) goes ∙ same_number k in
        subst (λ (p : ℕ × Doing). may_do w time p.0 p.1 ≡ true) (same_pair (k, Doing.Take m now) (n, doing) is)
        (and_from (is_honest time now) (when (goes_to k) (slice_get w.bag m)) honest (ap (when (goes_to k)) there ∙ here))

    by_bag : (o : Option Envelope) → slice_get w.bag m ≡ o →
        elim o as (λ x. Option (ℕ × Doing)) [
          | None ↦ None
          | Some e ↦ elim e.to as (λ x. Option (ℕ × Doing)) [ Shard k ↦ Some (k, Doing.Take m now) | Session t ↦ None ]
        ] ≡ Some (n, doing) → may_do w time n doing ≡ true
    by_bag None there k = absurd (cc)
    by_bag (Some e) there k = by_address e e.to there refl k
may_be_done w time n doing (Act.Begin t) of may = absurd (cc)
may_be_done w time n doing (Act.Read t j) of may = absurd (cc)
may_be_done w time n doing (Act.Write t j x) of may = absurd (cc)
may_be_done w time n doing (Act.Close t) of may = absurd (cc)
may_be_done w time n doing (Act.Quit t) of may = absurd (cc)
may_be_done w time n doing (Act.Look k j at) of may = absurd (cc)
may_be_done w time n doing (Act.View k v j at) of may = absurd (cc)
may_be_done w time n doing (Act.Crash k) of may = absurd (cc)

-- ---- what crashes leave

-- where an unsure gate is left open, the area is the one that may be there beside
beside_left : (s : ShardNow) (u : Unsure) (log : List Record) (area : Area) → IsBeside s u log area → area ≡ left_area_of Fate.New s.area u
beside_left s Nothing log area is = absurd is
beside_left s (Shown r) log area is = is.1
beside_left s (Hidden r) log area is = is.1
beside_left s (TurnShown other) log area is = is.1
beside_left s (TurnHidden other) log area is = is.1

-- in a doing that is refused: that one
refused_left : (s : ShardNow) (now : Interval) (log : List Record) (area : Area) (st : Stepped) → st ≡ Refuses Stopped → IsBeside s s.unsure log area →
    area ≡ (crashed_in s 0 Fate.New (Doing.Resume now) st).area
unfolding crashed_in
refused_left s now log area st is beside = subst (λ x. area ≡ (crashed_in s 0 Fate.New (Doing.Resume now) x).area) (sym is)
    (beside_left s s.unsure log area beside)

-- in an opening, before its append: what was read
unopened_left : (s : ShardNow) (st : Stepped) → read_area s ≡ (crashed_in s 0 Fate.Old Doing.Open st).area
unfolding crashed_in
unopened_left s (Refuses f) = refl
unopened_left s (Does None memory out) = refl
unopened_left s (Does (Some r) memory out) = sym (no_more (read_area s))

-- in a doing that logs: the area with its record
logged_left : (s : ShardNow) (doing : Doing) (r : Record) (memory : Memory) (out : List Envelope) (st : Stepped) → st ≡ Does (Some r) memory out →
    with_records (read_area s) (r ∷ []) ≡ (crashed_in s 3 Fate.New doing st).area
unfolding crashed_in
logged_left s doing r memory out st is = subst (λ x. with_records (read_area s) (r ∷ []) ≡ (crashed_in s 3 Fate.New doing x).area) (sym is) refl

-- in one that logs nothing: in a turnover the new area, else what was read
nothing_left : (s : ShardNow) (doing : Doing) (memory : Memory) (out : List Envelope) (st : Stepped) → st ≡ Does None memory out →
    area_behind s doing None ≡ (crashed_in s 3 Fate.New doing st).area
unfolding crashed_in
nothing_left s doing memory out st is = subst (λ x. area_behind s doing None ≡ (crashed_in s 3 Fate.New doing x).area) (sym is) (by_test (turns doing))
  where
    by_test : (b : Bool) → cond b (new_area s) (with_records (read_area s) []) ≡ cond (b && true) (new_area s) (read_area s)
    by_test true = refl
    by_test false = no_more (read_area s)

-- what is behind a doing that logs a record, which is no turnover
logs_behind : (setup : Setup) (bag : List Envelope) (s : ShardNow) (doing : Doing) (r : Record) (memory : Memory) (out : List Envelope) →
    effect setup bag s doing ≡ Does (Some r) memory out → area_behind s doing (Some r) ≡ with_records (read_area s) (r ∷ [])
logs_behind setup bag s doing r memory out does =
    ap (λ b. cond b (new_area s) (with_records (read_area s) (r ∷ []))) (logs_no_turn setup bag s doing r memory out does)

-- a crash in the fourth call of a doing may leave what the doing would have left
pub done_left : (w : World) (s : ShardNow) (n : ℕ) (doing : Doing) (log : List Record) (area : Area) → MayHaveDone w s n doing log area →
    area ≡ (crashed_in s 3 Fate.New doing (effect (setup_of w.config n) w.bag s doing)).area
done_left w s n doing log area h = h.area_is ∙ by_logged h.logged h.does
  where
    by_logged : (o : Option Record) → effect (setup_of w.config n) w.bag s doing ≡ Does o h.memory h.out →
        area_behind s doing o ≡ (crashed_in s 3 Fate.New doing (effect (setup_of w.config n) w.bag s doing)).area
    by_logged None does = nothing_left s doing h.memory h.out (effect (setup_of w.config n) w.bag s doing) does
    by_logged (Some r) does = logs_behind (setup_of w.config n) w.bag s doing r h.memory h.out does
        ∙ logged_left s doing r h.memory h.out (effect (setup_of w.config n) w.bag s doing) does

-- where the oldest change is undone, what is unsure is not there
old_stays : (area : Area) (u : Unsure) → left_area_of Fate.Old area u ≡ area
old_stays area Nothing = refl
old_stays area (Shown r) = no_more area
old_stays area (Hidden r) = no_more area
old_stays area (TurnShown other) = refl
old_stays area (TurnHidden other) = refl

-- a crash at the front of a chore, by which nothing is there yet: of a shard that runs, and of one that is stopped
up_left : (s : ShardNow) (now : Interval) (st : Stepped) → s.unsure ≡ Nothing → s.area ≡ (crashed_in s 0 Fate.Old (Doing.Resume now) st).area
unfolding crashed_in
up_left s now (Refuses f) sure = sym (old_stays s.area s.unsure)
up_left s now (Does None memory out) sure = sym (sure_area s sure)
up_left s now (Does (Some r) memory out) sure = sym (no_more (read_area s) ∙ sure_area s sure)

stopped_left : (s : ShardNow) (now : Interval) (st : Stepped) → st ≡ Refuses Stopped → s.area ≡ (crashed_in s 0 Fate.Old (Doing.Resume now) st).area
unfolding crashed_in
stopped_left s now st is = subst (λ x. s.area ≡ (crashed_in s 0 Fate.Old (Doing.Resume now) x).area) (sym is) (sym (old_stays s.area s.unsure))

-- an image of a shard's disk holds what a crash in a call of a doing leaves, and it may come at a time
pub record IsLeftIn (w : World) (time n : ℕ) (image : List ℕ) : Type 0 where
  pub later : w.time ≤ time
  pub call : ℕ
  pub fate : Fate
  pub doing : Doing
  pub may : may_do w time n doing ≡ true
  pub crash : may_crash w n doing ≡ true
  pub shard : ShardNow
  pub there : slice_get w.shards n ≡ Some shard
  pub holds : HoldsArea (crashed_in shard call fate doing (effect (setup_of w.config n) w.bag shard doing)).area image

pub at_most : (a b : ℕ) → a ≤ b → nat_le a b ≡ true
at_most a b e = grind (arith, nat_tests)

-- the crash
abbrev pub crash_of : (w : World) (time n : ℕ) (image : List ℕ) → IsLeftIn w time n image → Event
crash_of w time n image l = record { time = time; act = Act.CrashIn n l.call l.fate n l.doing }

pub crash_comes : (w : World) (time n : ℕ) (image : List ℕ) (l : IsLeftIn w time n image) → may_happen w (crash_of w time n image l) ≡ true
unfolding may_act
crash_comes w time n image l = and_from (nat_le w.time time) _ (at_most w.time time l.later)
    (and_from (nat_lt n (length w.shards) && nat_eq n n && may_do w time n l.doing) (may_crash w n l.doing)
    (and_from (nat_lt n (length w.shards) && nat_eq n n) (may_do w time n l.doing)
    (and_from (nat_lt n (length w.shards)) (nat_eq n n) (below n (length w.shards) (slice_get_within w.shards n l.shard l.there)) (same_number n))
    l.may) l.crash)

-- what goes on from an image that holds an area
restarts : {D : Type 0} (file : D → File) (image : List ℕ) (area : Area) (new : Life D) → HoldsArea area image → RestartsFrom file image new →
    RestartsWith file area new
restarts file image area (Up core) has k = absurd k
restarts file image area (Down disk) has k = λ later may. ((k later may).0 ∙ has.0, (k later may).1 ∙ has.1)

pub crash_turns : {D : Type 0} (keeps obeys : Type 0) (file : D → File) (clock : D → ℕ) (since : D → ℕ → List ℕ → Type 0) (failures : D → ℕ)
    (plan : D → FailurePlan) (w : World) (time n : ℕ) (image : List ℕ) (l : IsLeftIn w time n image) (old new : ℕ → Life D) → AreElsewhere n old new →
    RestartsFrom file image (new n) → Turns keeps obeys file clock since failures plan w (crash_of w time n image l).act old new
crash_turns keeps obeys file clock since failures plan w time n image l old new elsewhere k = record {
  elsewhere = elsewhere;
  here = λ t e. subst
      (λ (x : ShardNow). RestartsWith file
      (crashed_in x l.call l.fate l.doing (effect (setup_of w.config n) w.bag x l.doing)).area (new n))
      (some_shard l.shard t (sym l.there ∙ e))
      (restarts file image (crashed_in l.shard l.call l.fate l.doing (effect (setup_of w.config n) w.bag l.shard l.doing)).area (new n) l.holds k);
}

module _ {D : Type 0} (keeps obeys : Type 0) (file : D → File) (clock : D → ℕ) (since : D → ℕ → List ℕ → Type 0) (failures : D → ℕ)
    (plan : D → FailurePlan)
    (counts : (disk : D) (moment : ℕ) (image : List ℕ) → moment ≤ clock disk → MayLeave (surface (file disk)) image → since disk moment image)
    (kept : keeps) (config : Config) (es : List Event) (fair : lawful config es ≡ true) (lives : ℕ → Life D)
    (h : HoldRun keeps obeys file clock since failures plan counts kept config es lives) (n : ℕ) (s : ShardNow)
    (there : slice_get (run config es).shards n ≡ Some s) where
  abbrev Told : List ℕ → Type 0
  Told image = IsTold keeps obeys file clock since failures plan config es lives n image

  config_is : (run config es).config ≡ config
  config_is = run_settings config es

  here : LivesAs file (setup_of (run config es).config n) s (lives n)
  here = h n s there

  is_shard : (t : ShardNow) → slice_get (run config es).shards n ≡ Some t → s ≡ t
  is_shard t e = some_shard s t (sym there ∙ e)

  counted : nat_lt n (length (run config es).shards) ≡ true
  counted = below n (length (run config es).shards) (slice_get_within (run config es).shards n s there)

  in_state : (test : State → Bool) → test s.state ≡ true → is_in (run config es) n test ≡ true
  in_state test is = ap (when (λ (t : ShardNow). test t.state)) there ∙ is

  -- the event of such a crash tells it
  crash_told : (time : ℕ) (image : List ℕ) → IsLeftIn (run config es) time n image → Told image
  crash_told time image l = record {
    event = crash_of (run config es) time n image l;
    may = crash_comes (run config es) time n image l;
    tells = λ new elsewhere k. crash_turns keeps obeys file clock since failures plan (run config es) time n image l lives new elsewhere k;
  }

  -- ---- between two calls

  pub now_left : (time : ℕ) (image : List ℕ) → (run config es).time ≤ time → ReadsAs (MayLeaveArea s) image →
      (is_down s.state ≡ false) ⊎ (s.unsure ≡ Nothing) → IsLeftIn (run config es) time n image
  now_left time image later reads can = by_fits reads.fits can
    where
      now : Interval
      now = record { earliest = time; latest = time }

      Left : Type 0
      Left = IsLeftIn (run config es) time n image

      what : Doing → Stepped
      what doing = effect (setup_of (run config es).config n) (run config es).bag s doing

      -- nothing is unsure of a shard that runs
      stopped : (st : State) → LivesIn file (setup_of (run config es).config n) s (lives n) st → is_down st ≡ false → (is_up st ≡ false) ⊎ (s.unsure ≡ Nothing)
      stopped st l up = by_life (lives n) st l up
        where
          by_life : (life : Life D) (x : State) → LivesIn file (setup_of (run config es).config n) s life x → is_down x ≡ false →
              (is_up x ≡ false) ⊎ (s.unsure ≡ Nothing)
          by_life (Up core) (Runs m) k up = inr k.sure
          by_life (Up core) (IsStopped m) k up = inl refl
          by_life (Up core) IsDown k up = absurd k
          by_life (Down disk) (Runs m) k up = absurd k
          by_life (Down disk) (IsStopped m) k up = inl refl
          by_life (Down disk) IsDown k up = absurd (false≢true (sym up))

      -- a shard that is up or stopped crashes in a chore
      by_chore : (fate : Fate) → is_down s.state ≡ false → reads.area ≡ (crashed_in s 0 fate (Doing.Resume now) (what (Doing.Resume now))).area → Left
      by_chore fate up same = record {
        later = later;
        call = 0;
        fate = fate;
        doing = Doing.Resume now;
        may = honest_at time;
        crash = in_state (λ st. not (is_down st)) (ap not up);
        shard = s;
        there = there;
        holds = subst (λ a. HoldsArea a image) same reads.holds;
      }

      resting : is_up s.state ≡ false → what (Doing.Resume now) ≡ Refuses Stopped
      resting rests = asks_the_resting (setup_of (run config es).config n) (run config es).bag s (Doing.Resume now) refl rests

      -- before its first call
      before : is_down s.state ≡ false → reads.area ≡ s.area → Left
      before up same = elim (stopped s.state here up) [
        | inl rests ↦ by_chore Fate.Old up (same ∙ stopped_left s now (what (Doing.Resume now)) (resting rests))
        | inr sure ↦ by_chore Fate.Old up (same ∙ up_left s now (what (Doing.Resume now)) sure)
      ]

      -- with what was unsure
      with_unsure : is_down s.state ≡ false → IsBeside s s.unsure reads.log reads.area → Left
      with_unsure up beside = elim (stopped s.state here up) [
        | inl rests ↦ by_chore Fate.New up (refused_left s now reads.log reads.area (what (Doing.Resume now)) (resting rests) beside)
        | inr sure ↦ absurd (subst (λ u. IsBeside s u reads.log reads.area) sure beside)
      ]

      -- a shard that is down crashes within an opening, before its append
      by_opening : is_down s.state ≡ true → s.unsure ≡ Nothing → reads.area ≡ s.area → Left
      by_opening down sure same = record {
        later = later;
        call = 0;
        fate = Fate.Old;
        doing = Doing.Open;
        may = in_state (λ st. not (is_up st)) (down_rests s.state down);
        crash = refl;
        shard = s;
        there = there;
        holds = subst (λ a. HoldsArea a image) (same ∙ sym (sure_area s sure) ∙ unopened_left s (what Doing.Open)) reads.holds;
      }
        where
          down_rests : (st : State) → is_down st ≡ true → not (is_up st) ≡ true
          down_rests (Runs m) e = absurd (false≢true e)
          down_rests (IsStopped m) e = absurd (false≢true e)
          down_rests IsDown e = refl

      by_down : (b : Bool) → is_down s.state ≡ b → s.unsure ≡ Nothing → reads.area ≡ s.area → Left
      by_down true down sure same = by_opening down sure same
      by_down false up sure same = before up same

      by_fits : MayLeaveArea s reads.log reads.area → (is_down s.state ≡ false) ⊎ (s.unsure ≡ Nothing) → Left
      by_fits (inl same) (inl up) = before up same.1
      by_fits (inl same) (inr sure) = by_down (is_down s.state) refl sure same.1
      by_fits (inr beside) (inl up) = with_unsure up beside
      by_fits (inr beside) (inr sure) = absurd (subst (λ u. IsBeside s u reads.log reads.area) sure beside)

  -- ---- within one

  -- a shard that takes an input is not down
  crash_may : (doing : Doing) (logged : Option Record) (memory : Memory) (out : List Envelope) →
      effect (setup_of (run config es).config n) (run config es).bag s doing ≡ Does logged memory out → (g : goes_on doing ≡ true) →
      is_in (run config es) n (λ st. not (is_down st)) ≡ true
  crash_may doing logged memory out does g = by_state s.state refl
    where
      by_state : (st : State) → s.state ≡ st → is_in (run config es) n (λ st. not (is_down st)) ≡ true
      by_state (Runs m) is = in_state (λ st. not (is_down st)) (ap (λ st. not (is_down st)) is)
      by_state (IsStopped m) is = in_state (λ st. not (is_down st)) (ap (λ st. not (is_down st)) is)
      by_state IsDown is = absurd (no_input (setup_of (run config es).config n) (run config es).bag s doing logged memory out does
          (asks_the_resting (setup_of (run config es).config n) (run config es).bag s doing g (ap is_up is)))

  may_be_in : (doing : Doing) (logged : Option Record) (memory : Memory) (out : List Envelope) →
      effect (setup_of (run config es).config n) (run config es).bag s doing ≡ Does logged memory out → may_crash (run config es) n doing ≡ true
  may_be_in Doing.Open logged memory out does = refl
  may_be_in Doing.Turn logged memory out does = crash_may Doing.Turn logged memory out does refl
  may_be_in (Doing.Take m now) logged memory out does = crash_may (Doing.Take m now) logged memory out does refl
  may_be_in (Doing.Resume now) logged memory out does = crash_may (Doing.Resume now) logged memory out does refl
  may_be_in (Doing.Settle t now) logged memory out does = crash_may (Doing.Settle t now) logged memory out does refl
  may_be_in (Doing.Advance at now) logged memory out does = crash_may (Doing.Advance at now) logged memory out does refl
  may_be_in (Doing.Forget at now) logged memory out does = crash_may (Doing.Forget at now) logged memory out does refl
  may_be_in (Doing.Retire below now) logged memory out does = crash_may (Doing.Retire below now) logged memory out does refl
  may_be_in (Doing.Nudge t now) logged memory out does = crash_may (Doing.Nudge t now) logged memory out does refl

  -- what a call that is under way has done
  pub call_left : (after : Life D) (u : IsUnderWay keeps obeys file clock since failures plan config es lives n after) (image : List ℕ) (log : List Record)
      (area : Area) → HoldsArea area image → MayHaveDone (run config es) s n u.doing log area → IsLeftIn (run config es) u.event.time n image
  call_left after u image log area holds done = record {
    later = later (run config es).time u.event.time parts.0;
    call = 3;
    fate = Fate.New;
    doing = u.doing;
    may = may_be_done (run config es) u.event.time n u.doing u.event.act u.of parts.1;
    crash = may_be_in u.doing done.logged done.memory done.out done.does;
    shard = s;
    there = there;
    holds = subst (λ a. HoldsArea a image) (done_left (run config es) s n u.doing log area done) holds;
  }
    where
      parts : (nat_le (run config es).time u.event.time ≡ true) × (may_act (run config es) u.event.time u.event.act ≡ true)
      parts = and_parts (nat_le (run config es).time u.event.time) (may_act (run config es) u.event.time u.event.act) (last_of config es u.event u.may)

      later : (a b : ℕ) → nat_le a b ≡ true → a ≤ b
      later a b e = grind (arith, nat_tests)

  -- the event of a call is no earlier than the events before it
  pub comes_later : (after : Life D) (u : IsUnderWay keeps obeys file clock since failures plan config es lives n after) → (run config es).time ≤ u.event.time
  comes_later after u = later (run config es).time u.event.time
      (and_parts (nat_le (run config es).time u.event.time) (may_act (run config es) u.event.time u.event.act) (last_of config es u.event u.may)).0
    where
      later : (a b : ℕ) → nat_le a b ≡ true → a ≤ b
      later a b e = grind (arith, nat_tests)

  within_told : (after : Life D) (image : List ℕ) → IsUnderWay keeps obeys file clock since failures plan config es lives n after →
      since (disk_of after) (clock (disk_of (lives n))) image → (is_down s.state ≡ false) ⊎ (s.unsure ≡ Nothing) → Told image
  within_told after image u left can = by_fits reads.fits
    where
      reads : ReadsAs (MayLeaveHere (run config es) n u.doing s) image
      reads = under_way_reads keeps obeys file clock since failures plan counts kept config es fair lives h n after u s image there left

      by_fits : MayLeaveHere (run config es) n u.doing s reads.log reads.area → Told image
      by_fits (inl fits) = crash_told (run config es).time image (now_left (run config es).time image (omega arith)
          (record { log = reads.log; area = reads.area; holds = reads.holds; fits = fits }) can)
      by_fits (inr done) = crash_told u.event.time image (call_left after u image reads.log reads.area reads.holds done)

module _ {D : Type 0} (keeps obeys : Type 0) (file : D → File) (clock : D → ℕ) (since : D → ℕ → List ℕ → Type 0) (failures : D → ℕ)
    (plan : D → FailurePlan)
    (counts : (disk : D) (moment : ℕ) (image : List ℕ) → moment ≤ clock disk → MayLeave (surface (file disk)) image → since disk moment image)
    (kept : keeps) where
  pub crashes_are_told : CrashesAreTold keeps obeys file clock since failures plan
  crashes_are_told keep config turns first lives fair fresh leads n s there can image left = by_left
      (holds keeps obeys file clock since failures plan counts kept config turns first lives fair fresh leads) left
    where
      by_left : HoldRun keeps obeys file clock since failures plan counts kept config (events_of turns) lives →
          LeavesImage keeps obeys file clock since failures plan config (events_of turns) lives n image →
          IsTold keeps obeys file clock since failures plan config (events_of turns) lives n image
      by_left h (inl now) =
          let w : World = run config (events_of turns) in
          crash_told keeps obeys file clock since failures plan counts kept config (events_of turns) fair lives h n s there w.time image
          (now_left keeps obeys file clock since failures plan counts kept config (events_of turns) fair lives h n s there w.time image (omega arith)
          ((life_holds file (setup_of w.config n) s (lives n) s.state (h n s there)).left image now) can)
      by_left h (inr call) = within_told keeps obeys file clock since failures plan counts kept config (events_of turns) fair lives h n s there
          call.0 image call.1 call.2 can
