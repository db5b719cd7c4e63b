-- The views of a shard stay what they are, and what a doing shows more is kept.
use Rattle.std.specs.List.{list_all}
use Rattle.std.proofs.Common.{◌≡◌, ◌≢◌, inl, inr, ◌≤◌, ◌+◌, ◌-◌, ℕ, zero, suc, Bool, true, false, not, cond, ◌&&◌, nat_le, nat_lt, nat_eq, List, []}
use Rattle.std.proofs.Common.{◌∷◌, ◌++◌, length, take, drop, slice_get}
use Rattle.std.proofs.Common.{Option, Some, None, Result, Ok, Err, OnOk, refl, sym, ap, ◌∙◌, subst, arith, option_to_list}
use Rattle.std.proofs.lemmas.Bool.{and_parts, false≢true}
use Rattle.std.proofs.lemmas.Bool.Decides.{nat_tests}
use Rattle.std.proofs.lemmas.List.{length-append, length-drop, take-append-le, take-append-drop, drop-append-le, take_all}
use Rattle.std.proofs.Math.Seq.{drop-append_seam}
use Rattle.units.specs.Keys.{Bytes, shard_of}
use Rattle.units.specs.Versions.{at_time}
use Rattle.units.specs.declared.fault.Fault.{Fault}
use Rattle.units.specs.declared.fault.Fault.TheVariants.{Device, Memory, NotYet, Stopped, Stranger, TooOld}
use Rattle.units.specs.declared.setup.Setup.{Setup}
use Rattle.units.specs.declared.writes.Install.{Install}
use Rattle.disk.specs.declared.plan.Fate.{Fate as Left}
use Rattle.record.specs.Facts.{facts_of}
use Rattle.record.specs.declared.record.Record.{Record}
use Rattle.message.specs.declared.message.Envelope.{Envelope}
use Rattle.protocol.specs.Rows.{Memory as Kept, safe}
use Rattle.protocol.specs.Step.{Stepped, Refuses, Does}
use Rattle.ledger.specs.Keeps.{Alike}
use Rattle.ledger.proofs.Alike.{alike-keeps}
use Rattle.shard.specs.Core.{seen}
use Rattle.shard.specs.Look.{safe_at}
use Rattle.shard.specs.On.{CoreView}
use Rattle.shard.specs.declared.shard_core.Core.{Core}
use Rattle.simdisk.specs.declared.simdisk.SimDisk.{SimDisk}
use Rattle.world.specs.World.{ShardNow, State, Runs, IsStopped, IsDown, Nothing, View, crashed_in, effect, failed_in, failed_turn, finished}
use Rattle.world.specs.World.{look_at_view, look_shard, look_view, makes_view, read_log, view_of}
use Rattle.lives.specs.Inputs.{goes_on}
use Rattle.world.specs.declared.event.Doing.{Doing}
use Rattle.world.specs.declared.event.Reply.{Reply}
use Rattle.lives.specs.Lives.{IsCoreIn, IsCoreOf, IsDiskIn, IsRunningAs, LivesAs, LivesIn, crash_by}
use Rattle.lives.specs.Carries.{Carries, Comes, IsOrderly, ShowsOn, by_call, calls_of, failed_by, left_by, left_by_refusal, stepped_shard, unopened}
use Rattle.lives.specs.Looks.{look_at, look_core}
use Rattle.lives.specs.Shows.{Acts, AreShared, AreViews, BeginsAt, HasNoted, IsKept, IsView, NotesOfLife, ShowsLife, StandsFor, done_by, is_within}
use Rattle.lives.specs.Shows.{view_now}
use Rattle.lives.specs.Spots.{AreSpots}
use Rattle.lives.specs.declared.life.Life.{Life}
use Rattle.lives.specs.declared.life.Life.TheVariants.{Up, Down}
use Rattle.lives.specs.declared.run_shard.RunShard.{RunShard}
use Rattle.lives.specs.declared.view.View.{View as CodeView}
use Rattle.lives.proofs.Crashing.{crash_is}
use Rattle.lives.proofs.Living.{turn_logs_none}

-- ---- versions that come later

counted : (is : List Install) (v : CodeView) → is_within is v ≡ true → v.from + v.count ≤ length is
counted is v h = grind (arith, nat_tests)

is_counted : (is : List Install) (v : CodeView) → v.from + v.count ≤ length is → is_within is v ≡ true
is_counted is v h = grind (arith, nat_tests)

still_within : (is more : List Install) (vs : List CodeView) → list_all (is_within is) vs ≡ true → list_all (is_within (is ++ more)) vs ≡ true
still_within is more [] h = refl
still_within is more (v ∷ vs) h =
    let p : (is_within is v ≡ true) × (list_all (is_within is) vs ≡ true) = and_parts _ _ h in
    let here : is_within (is ++ more) v ≡ true = is_counted (is ++ more) v (omega (arith, counted is v p.0, length-append is more)) in
    ap (λ b. b && list_all (is_within (is ++ more)) vs) here ∙ still_within is more vs p.1

still_view : (is more : List Install) (v : CodeView) (w : View) → is_within is v ≡ true → IsView is v w → IsView (is ++ more) v w
still_view is more v w h k = record {
  safe = k.safe;
  horizon = k.horizon;
  values = λ x at le. ap (λ l. at_time l x at) front ∙ k.values x at le;
}
  where
    front : take v.count (drop v.from (is ++ more)) ≡ take v.count (drop v.from is)
    front = ap (take v.count) (drop-append-le v.from is more (omega (arith, counted is v h)))
        ∙ take-append-le v.count (drop v.from is) more (omega (arith, counted is v h, length-drop v.from is))

still_views : (is more : List Install) (vs : List CodeView) (ws : List View) → list_all (is_within is) vs ≡ true → AreViews is vs ws
    → AreViews (is ++ more) vs ws
still_views is more [] [] h k = tt
still_views is more [] (w ∷ ws) h k = absurd k
still_views is more (v ∷ vs) [] h k = absurd k
still_views is more (v ∷ vs) (w ∷ ws) h k =
    let p : (is_within is v ≡ true) × (list_all (is_within is) vs ≡ true) = and_parts _ _ h in
    (still_view is more v w p.0 k.0, still_views is more vs ws p.1 k.1)

views_more : (is : List Install) (vs us : List CodeView) (ws xs : List View) → AreViews is vs ws → AreViews is us xs → AreViews is (vs ++ us) (ws ++ xs)
views_more is [] us [] xs h k = k
views_more is [] us (w ∷ ws) xs h k = absurd h
views_more is (v ∷ vs) us [] xs h k = absurd h
views_more is (v ∷ vs) us (w ∷ ws) xs h k = (h.0, views_more is vs us ws xs h.1 k)

within_more : (is : List Install) (vs ws : List CodeView) → list_all (is_within is) vs ≡ true → list_all (is_within is) ws ≡ true →
    list_all (is_within is) (vs ++ ws) ≡ true
within_more is [] ws h k = k
within_more is (v ∷ vs) ws h k =
    let p : (is_within is v ≡ true) × (list_all (is_within is) vs ≡ true) = and_parts _ _ h in
    ap (λ b. b && list_all (is_within is) (vs ++ ws)) p.0 ∙ within_more is vs ws p.1 k

-- ---- the list of all versions

-- those behind a place, and the place
all_behind : (is all : List Install) (n : ℕ) → n ≤ length is → drop n is ≡ all → n + length all ≡ length is
all_behind is all n le same =
    let many : length all ≡ length is - n = ap length (sym same) ∙ length-drop n is in
    omega (arith, many, le)

-- those of one that goes on are what they were, and more
more_behind : (is front more : List Install) (n : ℕ) → n ≤ length is → drop n is ≡ front → drop n (is ++ drop (length is - n) (front ++ more)) ≡ front ++ more
more_behind is front more n le same =
    let many : length front ≡ length is - n = ap length (sym same) ∙ length-drop n is in
    drop-append-le n is (drop (length is - n) (front ++ more)) le
    ∙ (λ i. same i ++ drop (sym many i) (front ++ more))
    ∙ ap (λ l. front ++ l) (drop-append_seam front more)

-- those of one that was opened begin with those behind the place
opened_behind : (is all : List Install) (n : ℕ) → AreShared is all n → drop n (is ++ drop (length is - n) all) ≡ all
opened_behind is all n h =
    subst (λ l. drop n (is ++ drop (length is - n) l) ≡ l) (take-append-drop (length is - n) all)
    (more_behind is (take (length is - n) all) (drop (length is - n) all) n h.0 (sym h.1))

-- ---- a view of now

shown_now : (is : List Install) (from : ℕ) (core : CoreView SimDisk) (log : List Record) (memory : Kept) → drop from is ≡ core.facts.installs
    → Alike core.facts (facts_of log) → core.memory ≡ memory → IsView is (view_now from core) (view_of (facts_of log) memory)
shown_now is from core log memory same facts kept = record {
  safe = ap safe kept;
  horizon = facts.horizon;
  values = λ k at le. ap (λ l. at_time l k at) all ∙ (alike-keeps core.facts (facts_of log) facts).values k at le;
}
  where
    all : take (length core.facts.installs) (drop from is) ≡ core.facts.installs
    all = ap (take (length core.facts.installs)) same ∙ take_all (length core.facts.installs) core.facts.installs (omega arith)

-- ---- what lives of a shard, with other views

lives_with : (setup : Setup) (s : ShardNow) (vs : List View) (life : Life) → LivesAs setup s life → LivesAs setup (record s { views = vs }) life
lives_with setup s vs (Up core) h = by_state s.state h
  where
    core_with : (m : Kept) → IsCoreOf setup s m (seen core) → IsCoreOf setup (record s { views = vs }) m (seen core)
    core_with m k = record {
      setup_is = k.setup_is;
      knows = k.knows;
      memory = k.memory;
      disk = record { never = k.disk.never; read = k.disk.read; left = k.disk.left };
    }

    by_state : (st : State) → IsCoreIn setup s (seen core) st → IsCoreIn setup (record s { views = vs }) (seen core) st
    by_state (Runs m) k = record {
      core_of = core_with m k.core_of;
      runs = k.runs;
      sure = k.sure;
      gate = k.gate;
      slot = k.slot;
      begins = k.begins;
    }
    by_state (IsStopped m) k = record { core_of = core_with m k.core_of; stopped = k.stopped }
    by_state IsDown k = k
lives_with setup s vs (Down disk) h = by_state s.state h
  where
    by_state : (st : State) → IsDiskIn s disk st → IsDiskIn (record s { views = vs }) disk st
    by_state (Runs m) k = k
    by_state (IsStopped m) k = k
    by_state IsDown k = record { never = k.never; read = k.read; left = k.left }

-- nothing is unsure while it runs
pub sure_of : (setup : Setup) (s : ShardNow) (life : Life) → LivesAs setup s life → (m : Kept) → s.state ≡ Runs m → s.unsure ≡ Nothing
sure_of setup s (Up core) h m is = (subst (IsCoreIn setup s (seen core)) is h).sure
sure_of setup s (Down disk) h m is = absurd (subst (IsDiskIn s disk) is h)

-- ---- a doing

same_views : (setup : Setup) (s : ShardNow) (old mid : RunShard) → mid.installs.items ≡ old.installs.items → mid.views.items ≡ old.views.items
    → StandsFor setup old s
    → AreViews mid.installs.items mid.views.items s.views × (list_all (is_within mid.installs.items) mid.views.items ≡ true)
same_views setup s old mid installs views h = (
  subst (λ is. AreViews is mid.views.items s.views) (sym installs) (subst (λ vs. AreViews old.installs.items vs s.views) (sym views) h.views),
  (λ i. list_all (is_within (installs i)) (views i)) ∙ h.within,
)

-- a shard with another life
abbrev pub with_life : RunShard → Life → RunShard
with_life s life = record s { life = life }

pub life_kept : (s : RunShard) (life : Life) → IsKept s (with_life s life)
life_kept s life = record { setup = refl; installs = refl; from = refl; views = refl; spots = refl }

same_spots : (setup : Setup) (s : ShardNow) (old mid : RunShard) → IsKept old mid → StandsFor setup old s → AreSpots mid.installs.items mid.spots.entries
same_spots setup s old mid kept h = subst (λ m. AreSpots mid.installs.items m.entries) (sym kept.spots)
    (subst (λ is. AreSpots is old.spots.entries) (sym kept.installs) h.spots)

-- there is no core of a shard that is down
down_shows : (setup : Setup) (s : ShardNow) (life : Life) (is : List Install) (from : ℕ) → LivesIn setup s life IsDown → ShowsLife is from life
down_shows setup s (Up core) is from l = absurd l
down_shows setup s (Down disk) is from l = tt

-- a core showed this first
abbrev WasShown : Life → List Install → Type 0
WasShown (Up before) all = take (length (seen before).facts.installs) all ≡ (seen before).facts.installs
WasShown (Down disk) all = ⊥

-- what stood behind the place stands there as long as the same is shown
same_behind : (doing : Doing) (old new : Life) (is : List Install) (from : ℕ) (fault : Fault) → ShowsLife is from old → ShowsOn doing old new (Err fault)
    → ShowsLife is from new
same_behind doing (Up before) (Up core) is from fault shows same = (shows.0, shows.1 ∙ sym same)
same_behind doing (Down disk) (Up core) is from fault shows same = absurd same
same_behind doing (Up before) (Down disk) is from fault shows same = tt
same_behind doing (Down back) (Down disk) is from fault shows same = tt

module _ (setup : Setup) (bag : List Envelope) (s : ShardNow) (call : Option ℕ) (doing : Doing) (old mid : RunShard) (h : StandsFor setup old s)
    (kept : IsKept old mid) where
  told : mid.setup ≡ setup
  told = kept.setup ∙ h.setup_is

  same : AreViews mid.installs.items mid.views.items s.views × (list_all (is_within mid.installs.items) mid.views.items ≡ true)
  same = same_views setup s old mid kept.installs kept.views h

  spots_as_before : AreSpots mid.installs.items mid.spots.entries
  spots_as_before = same_spots setup s old mid kept h

  -- a shard with the same views
  stands_as : (t : ShardNow) → t.views ≡ s.views → LivesAs setup t mid.life → ShowsLife mid.installs.items mid.from mid.life → StandsFor setup mid t
  stands_as t views l shows = record {
    setup_is = told;
    lives = l;
    views = subst (AreViews mid.installs.items mid.views.items) (sym views) same.0;
    within = same.1;
    spots = spots_as_before;
    shows = shows;
  }

  -- what was shown by the core before
  shown_before : ShowsLife mid.installs.items mid.from old.life
  shown_before = subst (λ n. ShowsLife mid.installs.items n old.life) (sym kept.from)
      (subst (λ is. ShowsLife is old.from old.life) (sym kept.installs) h.shows)

  refused_views : (d : Doing) → (left_by_refusal s d).views ≡ s.views
  refused_views Doing.Open = by_state s.state
    where
      by_state : (st : State) → (unopened s st).views ≡ s.views
      by_state (Runs m) = refl
      by_state (IsStopped m) = refl
      by_state IsDown = refl
  refused_views _ = refl

  failed_views : (logged : Option Record) (c : ℕ) → (failed_by s logged c).views ≡ s.views
  unfolding failed_in failed_turn
  failed_views None c = refl
  failed_views (Some r) c = refl

  -- a refusal, and a call that failed
  pub acts_not : (fault : Fault) → Carries setup bag s call doing old.life mid.life (Err fault) → Acts setup bag s call doing mid (Err fault)
  acts_not fault carried = λ order. by_step (effect setup bag s doing) (carried order)
    where
      shown : ShowsOn doing old.life mid.life (Err fault) → ShowsLife mid.installs.items mid.from mid.life
      shown same_shown = same_behind doing old.life mid.life mid.installs.items mid.from fault shown_before same_shown

      by_test : (logged : Option Record) (memory : Kept) (out : List Envelope) (c : ℕ) (b : Bool)
          → Err fault ≡ cond {A = Result (List Envelope) Fault} b (Err Device) (Ok out)
          → LivesAs setup (cond b (failed_by s logged c) (stepped_shard s doing logged memory)) mid.life → ShowsOn doing old.life mid.life (Err fault)
          → StandsFor setup mid (cond b (failed_by s logged c) (finished s doing logged memory))
      by_test logged memory out c true e l so = stands_as (failed_by s logged c) (failed_views logged c) l (shown so)
      by_test logged memory out c false e l so = absurd (cc)

      by_call_of : (calls : ℕ) (o : Option ℕ) (logged : Option Record) (memory : Kept) (out : List Envelope)
          → Err fault ≡ by_call {A = Result (List Envelope) Fault} calls o (λ c. Err Device) (Ok out)
          → LivesAs setup (by_call calls o (failed_by s logged) (stepped_shard s doing logged memory)) mid.life
          → ShowsOn doing old.life mid.life (Err fault)
          → StandsFor setup mid (by_call calls o (failed_by s logged) (finished s doing logged memory))
      by_call_of calls None logged memory out e l so = absurd (cc)
      by_call_of calls (Some c) logged memory out e l so = by_test logged memory out c (nat_lt c calls) e l so

      by_step : (st : Stepped)
          → Comes call doing st (Err fault) (LivesAs setup (left_by s call doing st) mid.life × ShowsOn doing old.life mid.life (Err fault))
          → Comes call doing st (Err fault) (StandsFor setup mid (done_by s call doing st))
      by_step st (inl memory) = inl memory
      by_step (Refuses f) (inr (e, (l, so))) = inr (e, stands_as (left_by_refusal s doing) (refused_views doing) l (shown so))
      by_step (Does logged memory out) (inr (e, (l, so))) = inr (e, by_call_of (calls_of doing logged) call logged memory out e l so)

  -- ---- it is done

  module _ (logged : Option Record) (memory : Kept) where
    abbrev log_now : List Record
    log_now = read_log s ++ option_to_list logged

    -- all that its core shows stands behind the place where its versions begin
    behind_is : (core : List Install) (n : ℕ) → BeginsAt doing mid.from mid.installs.items core n → (life : Life)
        → ShowsLife mid.installs.items mid.from life → (goes_on doing ≡ true → WasShown life core) → (g : Bool) → goes_on doing ≡ g
        → (n ≤ length mid.installs.items) × (drop n (mid.installs.items ++ drop (length mid.installs.items - n) core) ≡ core)
    behind_is all n begins life shows was false e =
        let shared : AreShared mid.installs.items all n = begins.opens e in (shared.0, opened_behind mid.installs.items all n shared)
    behind_is all n begins life shows was true e = by_life life shows (was e)
      where
        by_life : (l : Life) → ShowsLife mid.installs.items mid.from l → WasShown l all
            → (n ≤ length mid.installs.items) × (drop n (mid.installs.items ++ drop (length mid.installs.items - n) all) ≡ all)
        by_life (Down disk) k first = absurd first
        by_life (Up before) k first =
            let front : List Install = (seen before).facts.installs in
            let whole : front ++ drop (length front) all ≡ all =
            ap (λ xs. xs ++ drop (length front) all) (sym first) ∙ take-append-drop (length front) all in
            subst (λ x. (x ≤ length mid.installs.items) × (drop x (mid.installs.items ++ drop (length mid.installs.items - x) all) ≡ all))
            (sym (begins.goes e)) (
              k.0,
              subst (λ l. drop mid.from (mid.installs.items ++ drop (length mid.installs.items - mid.from) l) ≡ l) whole
                  (more_behind mid.installs.items front (drop (length front) all) mid.from k.0 k.1),
            )

    module _ (core : CoreView SimDisk) (new : RunShard) (l : LivesAs setup (stepped_shard s doing logged memory) mid.life)
        (k : IsRunningAs setup (stepped_shard s doing logged memory) memory core)
        (n : HasNoted doing core mid new) (goes : goes_on doing ≡ true → WasShown old.life core.facts.installs) where
      abbrev shown_all : List Install
      shown_all = core.facts.installs

      abbrev more : List Install
      more = drop (length mid.installs.items - new.from) shown_all

      from_is : (new.from ≤ length mid.installs.items) × (drop new.from (mid.installs.items ++ more) ≡ shown_all)
      from_is = behind_is shown_all new.from n.from old.life shown_before goes (goes_on doing) refl

      behind_now : drop new.from new.installs.items ≡ shown_all
      behind_now = ap (drop new.from) n.installs ∙ from_is.1

      from_within : new.from ≤ length new.installs.items
      from_within = omega (arith, from_is.0, ap length n.installs, length-append mid.installs.items more)

      abbrev made : List CodeView
      made = cond (makes_view doing) (view_now new.from core ∷ []) []

      made_shown : (b : Bool)
          → AreViews new.installs.items (cond b (view_now new.from core ∷ []) []) (cond b (view_of (facts_of log_now) memory ∷ []) [])
      made_shown false = tt
      made_shown true = (shown_now new.installs.items new.from core log_now memory behind_now k.core_of.knows k.core_of.memory, tt)

      made_within : (b : Bool) → list_all (is_within new.installs.items) (cond b (view_now new.from core ∷ []) []) ≡ true
      made_within false = refl
      made_within true = ap (λ b. b && true) (is_counted new.installs.items (view_now new.from core)
          (omega (arith, all_behind new.installs.items shown_all new.from from_within behind_now)))

      views_are : AreViews new.installs.items new.views.items (s.views ++ cond (makes_view doing) (view_of (facts_of log_now) memory ∷ []) [])
      views_are =
          subst (λ vs. AreViews new.installs.items vs (s.views ++ cond (makes_view doing) (view_of (facts_of log_now) memory ∷ []) [])) (sym n.views)
          (views_more new.installs.items mid.views.items made s.views (cond (makes_view doing) (view_of (facts_of log_now) memory ∷ []) [])
          (subst (λ is. AreViews is mid.views.items s.views) (sym n.installs) (still_views mid.installs.items more mid.views.items s.views same.1 same.0))
          (made_shown (makes_view doing)))

      within_is : list_all (is_within new.installs.items) new.views.items ≡ true
      within_is =
          ap (list_all (is_within new.installs.items)) n.views
          ∙ within_more new.installs.items mid.views.items made
          ((λ j. list_all (is_within (n.installs j)) mid.views.items) ∙ still_within mid.installs.items more mid.views.items same.1)
          (made_within (makes_view doing))

      done_stands : ShowsLife new.installs.items new.from mid.life → StandsFor setup new (finished s doing logged memory)
      unfolding finished
      done_stands shows = record {
        setup_is = n.setup ∙ told;
        lives = subst (λ x. LivesAs setup (finished s doing logged memory) x) (sym n.life)
            (lives_with setup (stepped_shard s doing logged memory) (s.views ++ cond (makes_view doing) (view_of (facts_of log_now) memory ∷ []) [])
            mid.life l);
        views = views_are;
        within = within_is;
        spots = n.spots spots_as_before;
        shows = subst (ShowsLife new.installs.items new.from) (sym n.life) shows;
      }

    stands_done : (new : RunShard) (out : List Envelope) → LivesAs setup (stepped_shard s doing logged memory) mid.life → NotesOfLife doing mid new mid.life
        → ShowsOn doing old.life mid.life (Ok out) → StandsFor setup new (finished s doing logged memory)
    stands_done new out l n so = by_life mid.life l refl n so
      where
        was_shown : (before : Life) (core : Core SimDisk _) → ShowsOn doing before (Up core) (Ok out) → goes_on doing ≡ true
            → WasShown before (seen core).facts.installs
        was_shown (Up was) core k goes = k goes
        was_shown (Down disk) core k goes = false≢true (sym k ∙ goes)

        by_life : (life : Life) → LivesIn setup (stepped_shard s doing logged memory) life (Runs memory) → mid.life ≡ life → NotesOfLife doing mid new life
            → ShowsOn doing old.life life (Ok out) → StandsFor setup new (finished s doing logged memory)
        by_life (Up core) k is m shown =
            done_stands (seen core) new l k m (was_shown old.life core shown)
            (subst (ShowsLife new.installs.items new.from) (sym is)
            (from_within (seen core) new l k m (was_shown old.life core shown), behind_now (seen core) new l k m (was_shown old.life core shown)))
        by_life (Down disk) k is m shown = absurd k

  -- what was done, and noted
  pub acts : (new : RunShard) (out : List Envelope) → Carries setup bag s call doing old.life mid.life (Ok out) → NotesOfLife doing mid new mid.life
      → Acts setup bag s call doing new (Ok out)
  acts new out carried noted = λ order. by_step (effect setup bag s doing) (carried order)
    where
      by_test : (logged : Option Record) (memory : Kept) (put : List Envelope) (c : ℕ) (b : Bool)
          → Ok out ≡ cond {A = Result (List Envelope) Fault} b (Err Device) (Ok put)
          → LivesAs setup (cond b (failed_by s logged c) (stepped_shard s doing logged memory)) mid.life → ShowsOn doing old.life mid.life (Ok out)
          → StandsFor setup new (cond b (failed_by s logged c) (finished s doing logged memory))
      by_test logged memory put c true e l so = absurd (cc)
      by_test logged memory put c false e l so = stands_done logged memory new out l noted so

      by_call_of : (calls : ℕ) (o : Option ℕ) (logged : Option Record) (memory : Kept) (put : List Envelope)
          → Ok out ≡ by_call {A = Result (List Envelope) Fault} calls o (λ c. Err Device) (Ok put)
          → LivesAs setup (by_call calls o (failed_by s logged) (stepped_shard s doing logged memory)) mid.life
          → ShowsOn doing old.life mid.life (Ok out)
          → StandsFor setup new (by_call calls o (failed_by s logged) (finished s doing logged memory))
      by_call_of calls None logged memory put e l so = stands_done logged memory new out l noted so
      by_call_of calls (Some c) logged memory put e l so = by_test logged memory put c (nat_lt c calls) e l so

      by_step : (st : Stepped)
          → Comes call doing st (Ok out) (LivesAs setup (left_by s call doing st) mid.life × ShowsOn doing old.life mid.life (Ok out))
          → Comes call doing st (Ok out) (StandsFor setup new (done_by s call doing st))
      by_step st (inl memory) = inl memory
      by_step (Refuses f) (inr (e, (l, so))) = absurd (cc)
      by_step (Does logged memory put) (inr (e, (l, so))) = inr (e, by_call_of (calls_of doing logged) call logged memory put e l so)

  -- ---- crashes

  -- a doing changes no view but by the one that it makes
  left_views : (st : Stepped) → (left_by s call doing st).views ≡ s.views
  left_views (Refuses f) = refused_views doing
  left_views (Does logged memory out) = by_option (calls_of doing logged) call
    where
      by_test : (c : ℕ) (b : Bool) → (cond b (failed_by s logged c) (stepped_shard s doing logged memory)).views ≡ s.views
      by_test c true = failed_views logged c
      by_test c false = refl

      by_option : (calls : ℕ) (o : Option ℕ) → (by_call calls o (failed_by s logged) (stepped_shard s doing logged memory)).views ≡ s.views
      by_option calls None = refl
      by_option calls (Some c) = by_test c (nat_lt c calls)

-- ---- so by the contracts of the code

module _ (setup : Setup) (bag : List Envelope) (s : ShardNow) (call : Option ℕ) (doing : Doing) (old mid : RunShard) (h : StandsFor setup old s)
    (kept : IsKept old mid) where
  by_setup : (r : Result (List Envelope) Fault) → ((t : ShardNow) → LivesAs old.setup t old.life → Carries old.setup bag t call doing old.life mid.life r)
      → Carries setup bag s call doing old.life mid.life r
  by_setup r carried = subst (λ x. Carries x bag s call doing old.life mid.life r) h.setup_is
      (carried s (subst (λ x. LivesAs x s old.life) (sym h.setup_is) h.lives))

  pub acts_err : (r : Result (List Envelope) Fault) (fault : Fault) → r ≡ Err fault
      → ((t : ShardNow) → LivesAs old.setup t old.life → Carries old.setup bag t call doing old.life mid.life (Err fault)) → Acts setup bag s call doing mid r
  acts_err r fault is carried =
      subst (Acts setup bag s call doing mid) (sym is) (acts_not setup bag s call doing old mid h kept fault (by_setup (Err fault) carried))

  pub acts_ok : (new : RunShard) (out : List Envelope)
      → ((t : ShardNow) → LivesAs old.setup t old.life → Carries old.setup bag t call doing old.life mid.life (Ok out))
      → NotesOfLife doing mid new mid.life → Acts setup bag s call doing new (Ok out)
  acts_ok new out carried noted = acts setup bag s call doing old mid h kept new out (by_setup (Ok out) carried) noted

-- want of memory
pub acts_memory : (setup : Setup) (bag : List Envelope) (s : ShardNow) (call : Option ℕ) (doing : Doing) (new : RunShard) (r : Result (List Envelope) Fault)
    (fault : Fault) → r ≡ Err fault → fault ≡ Memory → Acts setup bag s call doing new r
acts_memory setup bag s call doing new r fault is memory = λ orderly. inl (is ∙ ap (λ f. Err f) memory)

-- a shard that crashed, with the views that it had
pub crash_stands : (setup : Setup) (s t : ShardNow) (fate : Left) (old new : RunShard) → StandsFor setup old s → IsKept old new → t.views ≡ s.views
    → LivesAs setup (crash_by fate t) new.life → StandsFor setup new (crash_by fate t)
crash_stands setup s t fate old new h kept views l =
    let same = same_views setup s old new kept.installs kept.views h in
    record {
      setup_is = kept.setup ∙ h.setup_is;
      lives = l;
      views = subst (AreViews new.installs.items new.views.items) (sym views) same.0;
      within = same.1;
      spots = same_spots setup s old new kept h;
      shows = down_shows setup (crash_by fate t) new.life new.installs.items new.from l;
    }

pub crash_in_stands : (setup : Setup) (bag : List Envelope) (s : ShardNow) (call : ℕ) (fate : Left) (doing : Doing) (old new : RunShard)
    (h : StandsFor setup old s)
    → IsKept old new → LivesAs setup (crash_by fate (left_by s (Some call) doing (effect setup bag s doing))) new.life
    → StandsFor setup new (crashed_in s call fate doing (effect setup bag s doing))
crash_in_stands setup bag s call fate doing old new h kept l =
    let st : Stepped = effect setup bag s doing in
    subst (StandsFor setup new) (crash_is s fate (sure_of setup s old.life h.lives) call doing st (turn_logs_none setup bag s doing))
    (crash_stands setup s (left_by s (Some call) doing st) fate old new h kept (left_views setup bag s (Some call) doing old new h kept st) l)

-- so by the contracts of the code
pub crash_so : (setup : Setup) (s : ShardNow) (fate : Left) (old new : RunShard) (r : Result Reply Fault) → StandsFor setup old s → IsKept old new
    → ((t : ShardNow) → LivesAs old.setup t old.life → OnOk r (LivesAs old.setup (crash_by fate t) new.life)) → OnOk r (StandsFor setup new (crash_by fate s))
crash_so setup s fate old new (Err fault) h kept fallen = tt
crash_so setup s fate old new (Ok reply) h kept fallen =
    crash_stands setup s s fate old new h kept refl
    (subst (λ x. LivesAs x (crash_by fate s) new.life) h.setup_is (fallen s (subst (λ x. LivesAs x s old.life) (sym h.setup_is) h.lives)))

pub crash_in_so : (setup : Setup) (bag : List Envelope) (s : ShardNow) (call : ℕ) (fate : Left) (doing : Doing) (old mid new : RunShard)
    (answer : Result (List Envelope) Fault) (r : Result Reply Fault) → StandsFor setup old s → IsKept old mid
    → ((t : ShardNow) → LivesAs old.setup t old.life → Carries old.setup bag t (Some call) doing old.life mid.life answer) → answer ≢ Err Memory
    → IsKept mid new → ((t : ShardNow) → LivesAs mid.setup t mid.life → OnOk r (LivesAs mid.setup (crash_by fate t) new.life))
    → IsOrderly setup s (effect setup bag s doing) → OnOk r (StandsFor setup new (crashed_in s call fate doing (effect setup bag s doing)))
crash_in_so setup bag s call fate doing old mid new answer (Err fault) h kept carried other later fallen orderly = tt
crash_in_so setup bag s call fate doing old mid new answer (Ok reply) h kept carried other later fallen orderly =
    crash_in_stands setup bag s call fate doing old new h
    (record {
      setup = later.setup ∙ kept.setup;
      installs = later.installs ∙ kept.installs;
      from = later.from ∙ kept.from;
      views = later.views ∙ kept.views;
      spots = later.spots ∙ kept.spots;
    })
    (subst (λ x. LivesAs x (crash_by fate t) new.life) told (fallen t (subst (λ x. LivesAs x t mid.life) (sym told) lives)))
  where
    t : ShardNow
    t = left_by s (Some call) doing (effect setup bag s doing)

    told : mid.setup ≡ setup
    told = kept.setup ∙ h.setup_is

    by_answer : Comes (Some call) doing (effect setup bag s doing) answer (LivesAs setup t mid.life × ShowsOn doing old.life mid.life answer)
        → LivesAs setup t mid.life
    by_answer (inl memory) = absurd (other memory)
    by_answer (inr (e, (k, so))) = k

    lives : LivesAs setup t mid.life
    lives = by_answer (by_setup setup bag s (Some call) doing old mid h kept answer carried orderly)

-- ---- looks at views

not_less : (a b : ℕ) → nat_lt a b ≡ false → b ≤ a
not_less a b e = grind (arith, nat_tests)

-- where the key belongs here, the horizon and the served time are the same, a look is the same where the value from the horizon up is
same_look : (here there : Bool) (is js : List Install) (low lower high higher : ℕ) (k : Bytes) (at : ℕ) → here ≡ there → low ≡ lower → high ≡ higher
    → (low ≤ at → at_time is k at ≡ at_time js k at) → look_at here is low high k at ≡ look_at there js lower higher k at
same_look here there is js low lower high higher k at heres lows highs values =
    by_old (nat_lt at low) refl ∙ (λ i. look_at (heres i) js (lows i) (highs i) k at)
  where
    by_old : (b : Bool) → nat_lt at low ≡ b → look_at here is low high k at ≡ look_at here js low high k at
    by_old true e = (λ i. cond (not here) (Reply.Refused Stranger) (cond (e i) (Reply.Refused TooOld)
        (cond (nat_le at high) (Reply.Shows (at_time is k at)) (Reply.Refused NotYet))))
        ∙ sym (λ i. cond (not here) (Reply.Refused Stranger) (cond (e i) (Reply.Refused TooOld)
        (cond (nat_le at high) (Reply.Shows (at_time js k at)) (Reply.Refused NotYet))))
    by_old false e = ap (λ x. cond (not here) (Reply.Refused Stranger) (cond (nat_lt at low) (Reply.Refused TooOld)
        (cond (nat_le at high) (Reply.Shows x) (Reply.Refused NotYet)))) (values (not_less at low e))

some_same : (a b : CodeView) → Some a ≡ Some b → a ≡ b
some_same a b e = cc

-- the view of a number, on either side
view_there : (is : List Install) (vs : List CodeView) (ws : List View) (n : ℕ) (v : CodeView) → AreViews is vs ws → slice_get vs n ≡ Some v
    → (w : View) × (slice_get ws n ≡ Some w) × IsView is v w
view_there is [] ws n v h there = absurd (cc)
view_there is (x ∷ vs) [] n v h there = absurd h
view_there is (x ∷ vs) (w ∷ ws) zero v h there = (w, refl, subst (λ y. IsView is y w) (some_same x v there) h.0)
view_there is (x ∷ vs) (w ∷ ws) (suc n) v h there = view_there is vs ws n v h.1 there

none_there : (is : List Install) (vs : List CodeView) (ws : List View) (n : ℕ) → AreViews is vs ws → slice_get vs n ≡ None → slice_get ws n ≡ None
none_there is [] [] n h there = refl
none_there is [] (w ∷ ws) n h there = absurd h
none_there is (x ∷ vs) [] n h there = absurd h
none_there is (x ∷ vs) (w ∷ ws) zero h there = absurd (cc)
none_there is (x ∷ vs) (w ∷ ws) (suc n) h there = none_there is vs ws n h.1 there

-- there are as many
pub as_many : (is : List Install) (vs : List CodeView) (ws : List View) → AreViews is vs ws → length vs ≡ length ws
as_many is [] [] h = refl
as_many is [] (w ∷ ws) h = absurd h
as_many is (v ∷ vs) [] h = absurd h
as_many is (v ∷ vs) (w ∷ ws) h = ap suc (as_many is vs ws h.1)

-- a look at a view by all versions
pub looked_at : (setup : Setup) (is : List Install) (vs : List CodeView) (views : List View) (n : ℕ) (v : CodeView) (here : Bool) (k : Bytes) (at : ℕ)
    → AreViews is vs views → slice_get vs n ≡ Some v → here ≡ nat_eq (shard_of setup.splits k) setup.shard
    → look_at here (take v.count (drop v.from is)) v.horizon v.safe k at ≡ look_at_view setup (slice_get views n) k at
looked_at setup is vs views n v here k at same there is_here =
    let found = view_there is vs views n v same there in
    let w : View = found.0 in
    same_look here (nat_eq (shard_of setup.splits k) setup.shard) (take v.count (drop v.from is)) w.installs v.horizon w.horizon v.safe w.safe k at is_here
    found.2.horizon found.2.safe (found.2.values k at)
    ∙ sym (ap (λ o. look_at_view setup o k at) found.1)

-- there is none
pub looked_at_none : (setup : Setup) (is : List Install) (vs : List CodeView) (views : List View) (n : ℕ) (k : Bytes) (at : ℕ)
    → AreViews is vs views → slice_get vs n ≡ None → Reply.Refused Stranger ≡ look_at_view setup (slice_get views n) k at
looked_at_none setup is vs views n k at same there = sym (ap (λ o. look_at_view setup o k at) (none_there is vs views n same there))

-- a look at what a core shows now
pub looked : (setup : Setup) (s : ShardNow) (core : CoreView SimDisk) (k : Bytes) (at : ℕ) → IsCoreIn setup s core s.state
    → look_core core k at ≡ look_shard setup s k at
looked setup s core k at h = by_state s.state h
  where
    of_core : (m : Kept) → IsCoreOf setup s m core → look_core core k at ≡ look_view setup (view_of (facts_of s.log) m) k at
    of_core m c =
        same_look (nat_eq (shard_of core.setup.splits k) core.setup.shard) (nat_eq (shard_of setup.splits k) setup.shard) core.facts.installs
        (facts_of s.log).installs core.facts.horizon (facts_of s.log).horizon (safe_at core) (safe m) k at
        (λ i. nat_eq (shard_of (c.setup_is i).splits k) (c.setup_is i).shard) c.knows.horizon (ap safe c.memory)
        ((alike-keeps core.facts (facts_of s.log) c.knows).values k at)

    by_state : (st : State) → IsCoreIn setup s core st
        → look_core core k at
        ≡ elim st as (λ x. Reply) [
          | Runs m ↦ look_view setup (view_of (facts_of s.log) m) k at
          | IsStopped m ↦
              look_view setup (view_of (facts_of s.log) m) k at
          | IsDown ↦ Reply.Refused Stopped
        ]
    by_state (Runs m) c = of_core m c.core_of
    by_state (IsStopped m) c = of_core m c.core_of
    by_state IsDown c = absurd c

-- none of one that is down
pub looked_down : (setup : Setup) (s : ShardNow) (disk : SimDisk) (k : Bytes) (at : ℕ) → IsDiskIn s disk s.state
    → Reply.Refused Stopped ≡ look_shard setup s k at
looked_down setup s disk k at h = by_state s.state h
  where
    by_state : (st : State) → IsDiskIn s disk st
        → Reply.Refused Stopped
        ≡ elim st as (λ x. Reply) [
          | Runs m ↦ look_view setup (view_of (facts_of s.log) m) k at
          | IsStopped m ↦
              look_view setup (view_of (facts_of s.log) m) k at
          | IsDown ↦ Reply.Refused Stopped
        ]
    by_state (Runs m) c = absurd c
    by_state (IsStopped m) c = absurd c
    by_state IsDown c = refl
