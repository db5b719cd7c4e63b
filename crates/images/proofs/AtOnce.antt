-- A crash of all shards at once: each disk holds what it held at some moment of the call that its shard was in, and crashes within calls, one
-- behind the other, tell it.
use Rattle.std.proofs.Common.{◌≡◌, ◌≢◌, ◌⊎◌, inl, inr, ℕ, zero, suc, ◌≤◌, ◌<◌, Bool, true, false, cond, nat_eq, List, [], ◌∷◌, ◌++◌, length, map}
use Rattle.std.proofs.Common.{Option, Some, None, slice_get, refl, sym, ap, ◌∙◌, subst, arith}
use Rattle.std.proofs.lemmas.Bool.{and_from, and_parts, cases_eq}
use Rattle.std.proofs.lemmas.Bool.Decides.{nat_tests}
use Rattle.std.proofs.lemmas.Option.{slice_get_past}
use Rattle.units.specs.Lists.{replaced, when}
use Rattle.units.specs.declared.fault.Fault.TheVariants.{Stranger}
use Rattle.disk.specs.declared.plan.FailurePlan.{FailurePlan}
use Rattle.disk.specs.File.{File, surface}
use Rattle.disk.specs.Image.{MayLeave}
use Rattle.world.specs.Areas.{MayLeaveArea}
use Rattle.world.specs.Lawful.{is_down, is_in, lawful, lawful_from, may_crash, may_do, may_happen}
use Rattle.world.specs.World.{World, After, ShardNow, State, Nothing, acts, crashed_in, effect, happens, refused, run, run_from, set_shard}
use Rattle.world.specs.World.{setup_of, start, ticked}
use Rattle.world.specs.declared.event.Config.{Config}
use Rattle.world.specs.declared.event.Doing.{Doing}
use Rattle.world.specs.declared.event.Event.{Event}
use Rattle.world.specs.declared.event.Reply.{Reply}
use Rattle.world.proofs.Places.{get-replaced_same, get-replaced_other}
use Rattle.law.proofs.WholeLaw.{run_on}
use Rattle.images.specs.Images.{AllCrashAtOnce, AllGoOn, AllRestart, AreBeside, AreInOrder, AreTold, AreWithinCalls, Call, IsBesideThen, IsUnderWay}
use Rattle.images.specs.Images.{Happens, Leads, LeavesInCalls, Life, RestartsFrom, disk_of, events_of}
use Rattle.images.proofs.Held.{ReadsAs}
use Rattle.images.proofs.Placed.{some_shard}
use Rattle.images.proofs.Told.{IsLeftIn, call_left, comes_later, crash_comes, crash_of, crash_turns, now_left, same_number}
use Rattle.images.proofs.Turned.{HoldRun, MayLeaveHere, have_logs, holds, now_reads, under_way_reads}

-- ---- shards that crash in calls

-- a shard, and the time at which it crashes
abbrev pub Place : Type 0
Place = ℕ × ℕ

-- none of them is this shard
abbrev pub AreOther : ℕ → List Place → Type 0
AreOther n [] = Unit {0}
AreOther n (p ∷ ps) = (n ≢ p.0) × AreOther n ps

-- they are other shards than this one, at no earlier times
abbrev pub AreLater : Place → List Place → Type 0
AreLater p [] = Unit {0}
AreLater p (q ∷ qs) = (p.0 ≢ q.0) × (p.1 ≤ q.1) × AreLater p qs

-- the image of each is such as a crash in a call leaves
abbrev pub AreLeftIn : World → List (List ℕ) → List Place → Type 0
AreLeftIn w images [] = Unit {0}
AreLeftIn w images (p ∷ ps) =
    ((image : List ℕ) × (slice_get images p.0 ≡ Some image) × IsLeftIn w p.1 p.0 image) × AreLater p ps × AreLeftIn w images ps

-- each other image is one that a crash between two events leaves
abbrev pub AreLeftBetween : World → List (List ℕ) → List Place → Type 0
AreLeftBetween w images ps =
    (m : ℕ) (s : ShardNow) (image : List ℕ) → slice_get w.shards m ≡ Some s → slice_get images m ≡ Some image → AreOther m ps →
    ReadsAs (MayLeaveArea s) image

same_count : (ss : List ShardNow) (n : ℕ) (t : ShardNow) → length (replaced ss n t) ≡ length ss
same_count [] n t = refl
same_count (s ∷ ss) zero t = refl
same_count (s ∷ ss) (suc n) t = ap suc (same_count ss n t)

some_image : (a b : List ℕ) → Some a ≡ Some b → a ≡ b
some_image a b e = cc

-- ---- one crash

module _ (w : World) (time n : ℕ) (image : List ℕ) (l : IsLeftIn w time n image) where
  -- what there is of the shard then
  abbrev left : ShardNow
  left = crashed_in l.shard l.call l.fate l.doing (effect (setup_of w.config n) w.bag l.shard l.doing)

  -- and of the world
  abbrev next : World
  next = ticked (set_shard n left w) time

  happens_next : (happens w (crash_of w time n image l)).0 ≡ next
  unfolding happens acts
  happens_next = ap (λ (o : Option ShardNow). ticked ((elim o as (λ x. After) [
    | None ↦ refused w Stranger
    | Some s ↦ (set_shard n (crashed_in s l.call l.fate l.doing (effect (setup_of w.config n) w.bag s l.doing)) w, Reply.Crashed)
  ]).0) time) l.there

  -- its image is what is there
  here_between : ReadsAs (MayLeaveArea left) image
  here_between = record { log = left.log; area = left.area; holds = l.holds; fits = inl (refl, refl) }

  there_next : slice_get next.shards n ≡ Some left
  there_next = get-replaced_same w.shards n l.shard left l.there

  -- another shard is as it was
  module _ (m : ℕ) (other : n ≢ m) where
    same_shard : slice_get next.shards m ≡ slice_get w.shards m
    same_shard = get-replaced_other w.shards n m left other

    same_state : (test : State → Bool) → is_in next m test ≡ is_in w m test
    same_state test = ap (when (λ (s : ShardNow). test s.state)) same_shard

    same_may : (at : ℕ) (doing : Doing) → may_do next at m doing ≡ may_do w at m doing
    same_may at (Doing.Take k now) = refl
    same_may at (Doing.Resume now) = refl
    same_may at (Doing.Settle t now) = refl
    same_may at (Doing.Advance to now) = refl
    same_may at (Doing.Nudge t now) = refl
    same_may at (Doing.Forget to now) = refl
    same_may at (Doing.Retire below now) = refl
    same_may at Doing.Turn = refl
    same_may at Doing.Open = same_state _

    same_crash : (doing : Doing) → may_crash next m doing ≡ may_crash w m doing
    same_crash (Doing.Take k now) = same_state _
    same_crash (Doing.Resume now) = same_state _
    same_crash (Doing.Settle t now) = same_state _
    same_crash (Doing.Advance to now) = same_state _
    same_crash (Doing.Nudge t now) = same_state _
    same_crash (Doing.Forget to now) = same_state _
    same_crash (Doing.Retire below now) = same_state _
    same_crash Doing.Turn = same_state _
    same_crash Doing.Open = refl

    still_left : (at : ℕ) (other_image : List ℕ) → time ≤ at → IsLeftIn w at m other_image → IsLeftIn next at m other_image
    still_left at other_image le k = record {
      later = le;
      call = k.call;
      fate = k.fate;
      doing = k.doing;
      may = same_may at k.doing ∙ k.may;
      crash = same_crash k.doing ∙ k.crash;
      shard = k.shard;
      there = same_shard ∙ k.there;
      holds = k.holds;
    }

  all_still_left : (images : List (List ℕ)) (ps : List Place) → AreLater (n, time) ps → AreLeftIn w images ps → AreLeftIn next images ps
  all_still_left images [] later k = tt
  all_still_left images (p ∷ ps) later k = (
    (k.0.0, k.0.1, still_left p.0 later.0 p.1 k.0.0 later.1 k.0.2),
    k.1,
    all_still_left images ps later.2 k.2,
  )

  all_still_between : (images : List (List ℕ)) (ps : List Place) → slice_get images n ≡ Some image → AreLeftBetween w images ((n, time) ∷ ps) →
      AreLeftBetween next images ps
  all_still_between images ps is k m s found there shown rest = elim (cases_eq n m) [
    | inl same ↦
        let one : left ≡ s = some_shard left s (sym there_next ∙ subst (λ i. slice_get next.shards i ≡ Some s) (sym same) there) in
        let it : image ≡ found = some_image image found (sym is ∙ subst (λ i. slice_get images i ≡ Some found) (sym same) shown) in
        subst (λ x. ReadsAs (MayLeaveArea s) x) it (subst (λ t. ReadsAs (MayLeaveArea t) image) one here_between)
    | inr ne ↦ k m s found (sym (same_shard m ne) ∙ there) shown ((λ e. ne (sym e)), rest)
  ]

-- ---- all crashes

-- events that may come one behind the other
joined : (w : World) (es more : List Event) → lawful_from w es ≡ true → lawful_from (run_from w es) more ≡ true → lawful_from w (es ++ more) ≡ true
joined w [] more h k = k
joined w (e ∷ es) more h k =
    let p = and_parts (may_happen w e) (lawful_from ((happens w e).0) es) h in
    and_from (may_happen w e) (lawful_from ((happens w e).0) (es ++ more)) p.0 (joined ((happens w e).0) es more p.1 k)

all_lawful : (config : Config) (es more : List Event) → lawful config es ≡ true → lawful_from (run config es) more ≡ true → lawful config (es ++ more) ≡ true
unfolding lawful run
all_lawful config es more h k = joined (start config) es more h k

run_both : (config : Config) (es more : List Event) → run config (es ++ more) ≡ run_from (run config es) more
unfolding run
run_both config es more = run_on (start config) es more

image_at : (ss : List ShardNow) (images : List (List ℕ)) → length images ≡ length ss → (n : ℕ) (s : ShardNow) → slice_get ss n ≡ Some s →
    (image : List ℕ) × (slice_get images n ≡ Some image)
image_at [] [] count n s there = absurd (cc)
image_at [] (x ∷ images) count n s there = absurd (cc)
image_at (t ∷ ss) [] count n s there = absurd (cc)
image_at (t ∷ ss) (x ∷ images) count zero s there = (x, refl)
image_at (t ∷ ss) (x ∷ images) count (suc n) s there = image_at ss images (omega (arith, count)) n s there

shard_at : (ss : List ShardNow) (n : ℕ) → n < length ss → (s : ShardNow) × (slice_get ss n ≡ Some s)
shard_at [] n lt = absurd (omega (arith, lt))
shard_at (s ∷ ss) zero lt = (s, refl)
shard_at (s ∷ ss) (suc n) lt = shard_at ss n (omega (arith, lt))

-- one of some shards, or another
is_one : (n : ℕ) (ps : List Place) → AreOther n ps ⊎ (AreOther n ps → ⊥)
is_one n [] = inl tt
is_one n (p ∷ ps) = by_head (cases_eq n p.0) (is_one n ps)
  where
    by_head : (n ≡ p.0) ⊎ (n ≢ p.0) → AreOther n ps ⊎ (AreOther n ps → ⊥) → AreOther n (p ∷ ps) ⊎ (AreOther n (p ∷ ps) → ⊥)
    by_head (inl same) rest = inr (λ other. other.0 same)
    by_head (inr ne) (inl other) = inl (ne, other)
    by_head (inr ne) (inr one) = inr (λ other. one other.1)

module _ {D : Type 0} (keeps obeys : Type 0) (file : D → File) (clock : D → ℕ) (since : D → ℕ → List ℕ → Type 0) (failures : D → ℕ)
    (plan : D → FailurePlan) where
  -- another in the place of what there is of one shard
  abbrev with_new : ℕ → Life D → (ℕ → Life D) → ℕ → Life D
  with_new n x lives m = cond (nat_eq n m) x (lives m)

  with_same : (n : ℕ) (x : Life D) (lives : ℕ → Life D) → with_new n x lives n ≡ x
  with_same n x lives = ap (λ b. cond b x (lives n)) (same_number n)

  with_other : (n m : ℕ) (x : Life D) (lives : ℕ → Life D) → n ≢ m → with_new n x lives m ≡ lives m
  with_other n m x lives ne = ap (λ b. cond b x (lives m)) (differ n m ne)
    where
      differ : (a b : ℕ) → a ≢ b → nat_eq a b ≡ false
      differ a b other = grind (arith, nat_tests)

  -- crashes within calls, behind which all images are such as a crash between two events leaves, and all that goes on is beside the run
  record Told (w : World) (images : List (List ℕ)) (ps : List Place) : Type 0 where
    crashes : List Event
    within : AreWithinCalls crashes
    may : lawful_from w crashes ≡ true
    lines : (run_from w crashes).lines ≡ w.lines
    count : length (run_from w crashes).shards ≡ length w.shards
    between : (m : ℕ) (s : ShardNow) (image : List ℕ) → AreLeftBetween w images ps → slice_get (run_from w crashes).shards m ≡ Some s →
        slice_get images m ≡ Some image → ReadsAs (MayLeaveArea s) image
    leads : (old new : ℕ → Life D) → ((m : ℕ) (image : List ℕ) → slice_get images m ≡ Some image → RestartsFrom file image (new m)) →
        ((m : ℕ) → AreOther m ps → new m ≡ old m) → Leads keeps obeys file clock since failures plan w (map Happens crashes) old new

  told_by : (ps : List Place) (w : World) (images : List (List ℕ)) → AreLeftIn w images ps → Told w images ps
  told_by [] w images k = record {
    crashes = [];
    within = tt;
    may = refl;
    lines = refl;
    count = refl;
    between = λ m s image between there is. between m s image there is tt;
    leads = λ old new restarts others m. others m tt;
  }
  told_by (p ∷ ps) w images ((image, is, l), later, k) =
      with_one (next w p.1 p.0 image l) (happens_next w p.1 p.0 image l) refl
      (told_by ps (next w p.1 p.0 image l) images (all_still_left w p.1 p.0 image l images ps later k))
    where
      crash : Event
      crash = crash_of w p.1 p.0 image l

      with_one : (v : World) → (happens w crash).0 ≡ v → v ≡ next w p.1 p.0 image l → Told v images ps → Told w images (p ∷ ps)
      with_one v goes same t = record {
        crashes = crash ∷ t.crashes;
        within = ((p.0, l.call, l.fate, l.doing, refl), t.within);
        may = and_from (may_happen w crash) _ (crash_comes w p.1 p.0 image l) (ap (λ x. lawful_from x t.crashes) goes ∙ t.may);
        lines = ap (λ x. (run_from x t.crashes).lines) goes ∙ t.lines ∙ ap (λ (x : World). x.lines) same;
        count = ap (λ x. length (run_from x t.crashes).shards) goes ∙ t.count ∙ ap (λ (x : World). length x.shards) same
            ∙ same_count w.shards p.0 (left w p.1 p.0 image l);
        between = λ m s found rest there shown.
            t.between m s found (subst (λ x. AreLeftBetween x images ps) (sym same) (all_still_between w p.1 p.0 image l images ps is rest))
            (subst (λ x. slice_get (run_from x t.crashes).shards m ≡ Some s) goes there) shown;
        leads = λ old new restarts others. (
          with_new p.0 (new p.0) old,
          crash_turns keeps obeys file clock since failures plan w p.1 p.0 image l old (with_new p.0 (new p.0) old)
              (λ m ne. with_other p.0 m (new p.0) old ne)
              (subst (RestartsFrom file image) (sym (with_same p.0 (new p.0) old)) (restarts p.0 image is)),
          subst (λ x. Leads keeps obeys file clock since failures plan x (map Happens t.crashes) (with_new p.0 (new p.0) old) new) (sym goes)
              (t.leads (with_new p.0 (new p.0) old) new restarts (λ m other. elim (cases_eq p.0 m) [
                | inl at ↦ sym (subst (λ i. with_new p.0 (new p.0) old i ≡ new i) at (with_same p.0 (new p.0) old))
                | inr ne ↦ others m ((λ e. ne (sym e)), other) ∙ sym (with_other p.0 m (new p.0) old ne)
              ])),
        );
      }

-- ---- calls

module _ {D : Type 0} (keeps obeys : Type 0) (file : D → File) (clock : D → ℕ) (since : D → ℕ → List ℕ → Type 0) (failures : D → ℕ)
    (plan : D → FailurePlan)
    (counts : (disk : D) (moment : ℕ) (image : List ℕ) → moment ≤ clock disk → MayLeave (surface (file disk)) image → since disk moment image)
    (kept : keeps) where
  module _ (config : Config) (es : List Event) (fair : lawful config es ≡ true) (lives : ℕ → Life D)
      (h : HoldRun keeps obeys file clock since failures plan counts kept config es lives) (images : List (List ℕ))
      (count : length images ≡ length (run config es).shards) where
    abbrev OneCall : Type 0
    OneCall = Call keeps obeys file clock since failures plan config es lives

    abbrev Leaves : List OneCall → ℕ → List ℕ → Type 0
    Leaves = LeavesInCalls keeps obeys file clock since failures plan config es lives

    abbrev Beside : OneCall → List OneCall → Type 0
    Beside = AreBeside keeps obeys file clock since failures plan config es lives

    -- the shards whose images have what they were doing; of each other shard that is asked for, what a crash between two events leaves
    record Sorted (Asked : ℕ → Type 0) (cs : List OneCall) : Type 0 where
      ps : List Place
      within : AreLeftIn (run config es) images ps
      later : (p : Place) → ((c : OneCall) → Beside c cs → p ≡ (c.n, c.under_way.event.time) → AreLater p ps)
      soon : (m : ℕ) → AreOther m ps → AreLater (m, (run config es).time) ps
      between : (m : ℕ) (s : ShardNow) (image : List ℕ) → Asked m → slice_get (run config es).shards m ≡ Some s → slice_get images m ≡ Some image →
          AreOther m ps → ReadsAs (MayLeaveArea s) image

    -- all of some calls are at shards that are asked for
    abbrev AreAsked : (ℕ → Type 0) → List OneCall → Type 0
    AreAsked Asked [] = Unit {0}
    AreAsked Asked (c ∷ cs) = Asked c.n × AreAsked Asked cs

    asked_beside : (Asked : ℕ → Type 0) (c : OneCall) (cs : List OneCall) → Beside c cs → AreAsked Asked cs → AreAsked (λ m. Asked m × (c.n ≢ m)) cs
    asked_beside Asked c [] beside k = tt
    asked_beside Asked c (d ∷ ds) beside k = ((k.0, beside.0), asked_beside Asked c ds beside.2 k.1)

    all_asked : (cs : List OneCall) → AreAsked (λ m. Unit {0}) cs
    all_asked [] = tt
    all_asked (c ∷ cs) = (tt, all_asked cs)

    sorted : (cs : List OneCall) → AreInOrder keeps obeys file clock since failures plan config es lives cs → (Asked : ℕ → Type 0) →
        AreAsked Asked cs → ((m : ℕ) (image : List ℕ) → Asked m → slice_get images m ≡ Some image → Leaves cs m image) → Sorted Asked cs
    sorted [] order Asked asked each = record {
      ps = [];
      within = tt;
      later = λ p c beside is. tt;
      soon = λ m other. tt;
      between = λ m s image a there is rest. now_reads keeps obeys file clock since failures plan counts kept config es fair lives h m s image there
          (each m image a is);
    }
    sorted (c ∷ cs) (beside, order) Asked asked each =
        by_fits (sorted cs order (λ m. Asked m × (c.n ≢ m)) (asked_beside Asked c cs beside asked.1) elsewhere) reads.fits
      where
        u : IsUnderWay keeps obeys file clock since failures plan config es lives c.n c.after
        u = c.under_way

        there : slice_get (run config es).shards c.n ≡ Some u.shard
        there = u.there

        found : (image : List ℕ) × (slice_get images c.n ≡ Some image)
        found = image_at (run config es).shards images count c.n u.shard there

        left_here : Leaves (c ∷ cs) c.n found.0 → since (disk_of c.after) (clock (disk_of (lives c.n))) found.0
        left_here (inl it) = it.1
        left_here (inr other) = absurd (other.0 refl)

        reads : ReadsAs (MayLeaveHere (run config es) c.n u.doing u.shard) found.0
        reads = under_way_reads keeps obeys file clock since failures plan counts kept config es fair lives h c.n c.after u u.shard found.0 there
            (left_here (each c.n found.0 asked.0 found.1))

        elsewhere : (m : ℕ) (image : List ℕ) → Asked m × (c.n ≢ m) → slice_get images m ≡ Some image → Leaves cs m image
        elsewhere m image a is = by_leaves (each m image a.0 is)
          where
            by_leaves : Leaves (c ∷ cs) m image → Leaves cs m image
            by_leaves (inl it) = absurd (a.1 it.0)
            by_leaves (inr rest) = rest.1

        by_fits : Sorted (λ m. Asked m × (c.n ≢ m)) cs → MayLeaveHere (run config es) c.n u.doing u.shard reads.log reads.area → Sorted Asked (c ∷ cs)
        by_fits rest (inl fits) = record {
          ps = rest.ps;
          within = rest.within;
          later = λ p d besides is. rest.later p d besides.2 is;
          soon = rest.soon;
          between = λ m s image a at is other. elim (cases_eq c.n m) [
            | inl same ↦
                let one : u.shard ≡ s = some_shard u.shard s (sym there ∙ subst (λ i. slice_get (run config es).shards i ≡ Some s) (sym same) at) in
                let it : found.0 ≡ image = some_image found.0 image (sym found.1 ∙ subst (λ i. slice_get images i ≡ Some image) (sym same) is) in
                subst (λ x. ReadsAs (MayLeaveArea s) x) it (subst (λ t. ReadsAs (MayLeaveArea t) found.0) one
                (record { log = reads.log; area = reads.area; holds = reads.holds; fits = fits }))
            | inr ne ↦ rest.between m s image (a, ne) at is other
          ];
        }
        by_fits rest (inr done) = record {
          ps = (c.n, u.event.time) ∷ rest.ps;
          within = (
            (
              found.0,
              found.1,
              call_left keeps obeys file clock since failures plan counts kept config es fair lives h c.n u.shard there c.after u found.0
                  reads.log reads.area reads.holds done,
            ),
            rest.later (c.n, u.event.time) c beside refl,
            rest.within,
          );
          later = λ p d besides is.
              subst (λ q. AreLater q ((c.n, u.event.time) ∷ rest.ps)) (sym is)
              (besides.0, besides.1, rest.later (d.n, d.under_way.event.time) d besides.2 refl);
          soon = λ m other. (
            other.0,
            comes_later keeps obeys file clock since failures plan counts kept config es fair lives h c.n u.shard there c.after u,
            rest.soon m other.1,
          );
          between = λ m s image a at is other. rest.between m s image (a, λ e. other.0 (sym e)) at is other.1;
        }

    abbrev Told_so : List Place → Type 0
    Told_so ps = Told keeps obeys file clock since failures plan (run config es) images ps

    told_so : (ps : List Place) → AreLeftIn (run config es) images ps → Told_so ps
    told_so ps k = told_by keeps obeys file clock since failures plan ps (run config es) images k

    told_at_once : (cs : List OneCall) → AreInOrder keeps obeys file clock since failures plan config es lives cs →
        ((m : ℕ) (image : List ℕ) → slice_get images m ≡ Some image → Leaves cs m image) → AreTold config es images
    told_at_once cs order each =
        let s : Sorted (λ m. Unit {0}) cs = sorted cs order (λ m. Unit {0}) (all_asked cs) (λ m image a is. each m image is) in
        let t : Told_so s.ps = told_so s.ps s.within in
        let both : run config (es ++ t.crashes) ≡ run_from (run config es) t.crashes = run_both config es t.crashes in
        let may : lawful config (es ++ t.crashes) ≡ true = all_lawful config es t.crashes fair t.may in
        record {
          crashes = t.crashes;
          within = t.within;
          may = may;
          lines = ap (λ (x : World). x.lines) both ∙ t.lines;
          logs = have_logs config (es ++ t.crashes) may images (count ∙ sym t.count ∙ ap (λ (x : World). length x.shards) (sym both))
              (λ m x image there is. t.between m x image (λ i y found at shown other. s.between i y found tt at shown other)
              (subst (λ (v : World). slice_get v.shards m ≡ Some x) both there) is);
        }

    -- ---- all others crash too, before them

    module _ (can : (n : ℕ) (s : ShardNow) → slice_get (run config es).shards n ≡ Some s → (is_down s.state ≡ false) ⊎ (s.unsure ≡ Nothing))
        (cs : List OneCall) (s : Sorted (λ m. Unit {0}) cs) where
      -- these, and all shards below a number
      record Whole (below : ℕ) : Type 0 where
        ps : List Place
        within : AreLeftIn (run config es) images ps
        soon : (m : ℕ) → AreOther m ps → AreLater (m, (run config es).time) ps
        more : (m : ℕ) → AreOther m ps → AreOther m s.ps
        all : (m : ℕ) → m < below → AreOther m ps → ⊥

      whole : (below : ℕ) → below ≤ length (run config es).shards → Whole below
      whole zero le = record {
        ps = s.ps;
        within = s.within;
        soon = s.soon;
        more = λ m other. other;
        all = λ m lt other. omega (arith, lt);
      }
      whole (suc n) le = by_one (whole n (omega (arith, le)))
        where
          by_one : Whole n → Whole (suc n)
          by_one rest = elim (is_one n rest.ps) [
            | inr one ↦ record {
              ps = rest.ps;
              within = rest.within;
              soon = rest.soon;
              more = rest.more;
              all = λ m lt other. elim (cases_eq n m) [
                | inl same ↦ one (subst (λ i. AreOther i rest.ps) (sym same) other)
                | inr ne ↦ rest.all m (less m n lt ne) other
              ];
            }
            | inl other ↦
                let x = shard_at (run config es).shards n (omega (arith, le)) in
                let image = image_at (run config es).shards images count n x.0 x.1 in
                record {
                  ps = (n, (run config es).time) ∷ rest.ps;
                  within = (
                    (
                      image.0,
                      image.1,
                      now_left keeps obeys file clock since failures plan counts kept config es fair lives h n x.0 x.1 (run config es).time image.0
                          (omega arith) (s.between n x.0 image.0 tt x.1 image.1 (rest.more n other)) (can n x.0 x.1),
                    ),
                    rest.soon n other,
                    rest.within,
                  );
                  soon = λ m not_these. (not_these.0, omega arith, rest.soon m not_these.1);
                  more = λ m not_these. rest.more m not_these.1;
                  all = λ m lt not_these. elim (cases_eq n m) [
                    | inl same ↦ not_these.0 (sym same)
                    | inr ne ↦ rest.all m (less m n lt ne) not_these.1
                  ];
                }
          ]
            where
              less : (a b : ℕ) → a < suc b → b ≢ a → a < b
              less a b lt ne = elim (cases_eq b a) [ inl same ↦ absurd (ne same) | inr other ↦ lower a b lt other ]
                where
                  lower : (x y : ℕ) → x < suc y → y ≢ x → x < y
                  lower x y under differs = grind (arith, nat_tests)

      go_on : (new : ℕ → Life D) → AllRestart file images lives new → IsBesideThen keeps obeys file clock since failures plan config es lives new
      go_on new restarts =
          let a : Whole (length (run config es).shards) = whole (length (run config es).shards) (omega arith) in
          let t : Told_so a.ps = told_so a.ps a.within in
          record {
            crashes = t.crashes;
            within = t.within;
            may = all_lawful config es t.crashes fair t.may;
            leads = t.leads lives new restarts.0 (λ m other. restarts.1 m
                (slice_get_past images m (past m (length images) (λ lt. a.all m (subst (λ k. m < k) count lt) other))));
          }
        where
          past : (m k : ℕ) → (m < k → ⊥) → k ≤ m
          past m k never = grind arith

  pub all_crash_at_once : AllCrashAtOnce keeps obeys file clock since failures plan
  all_crash_at_once keep config turns first lives fair fresh leads calls order images left =
      told_at_once config (events_of turns) fair lives (holds keeps obeys file clock since failures plan counts kept config turns first lives fair fresh leads)
      images left.count calls order left.each

  pub all_go_on : AllGoOn keeps obeys file clock since failures plan
  all_go_on keep config turns first lives new fair fresh leads calls order can images left restarts =
      let h = holds keeps obeys file clock since failures plan counts kept config turns first lives fair fresh leads in
      go_on config (events_of turns) fair lives h images left.count can calls
      (sorted config (events_of turns) fair lives h images left.count calls order (λ m. Unit {0})
      (all_asked config (events_of turns) fair lives h images left.count calls) (λ m image a is. left.each m image is)) new restarts
