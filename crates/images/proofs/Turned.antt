-- Whole runs: at every moment what there is of the shards holds their areas, so that images are read as areas that a crash may leave, beside
-- records that it may leave.
use Rattle.std.proofs.Common.{◌≡◌, ◌≢◌, ◌⊎◌, inl, inr, ℕ, zero, suc, ◌≤◌, true, false, IsTrue, List, [], ◌∷◌, ◌++◌, length, map, Option, Some, None}
use Rattle.std.proofs.Common.{slice_get, Result, Ok, Err, refl, sym, ap, ◌∙◌, subst, append_assoc, arith, option_to_list}
use Rattle.std.proofs.lemmas.Bool.{cases_eq, false≢true}
use Rattle.std.proofs.lemmas.List.{append-nil}
use Rattle.units.specs.declared.fault.Fault.{Fault}
use Rattle.units.specs.declared.setup.Setup.{Setup}
use Rattle.truetime.specs.Interval.{Interval}
use Rattle.disk.specs.declared.plan.FailurePlan.{FailurePlan}
use Rattle.disk.specs.File.{File, surface}
use Rattle.disk.specs.Image.{MayLeave}
use Rattle.message.specs.declared.message.Envelope.{Envelope}
use Rattle.message.specs.declared.message.Input.{Input}
use Rattle.protocol.specs.Rows.{Memory, rebuilt}
use Rattle.protocol.specs.Step.{Stepped, Refuses, Does}
use Rattle.record.specs.Accepted.{followed}
use Rattle.record.specs.Facts.{facts_of}
use Rattle.record.specs.declared.record.Record.{Record}
use Rattle.ledger.proofs.Alike.{alike-refl}
use Rattle.lives.specs.Logs.{records_in}
use Rattle.lives.specs.On.{record_of, step_of}
use Rattle.world.specs.Areas.{IsBeside, MayBeLeftAt, MayHaveDone, MayLeaveArea}
use Rattle.world.specs.Headline.{IsUnsure, MayBeLeft, MayHaveLogged, MayLeaveLog, MayLeaveLogs, MayLeaveWithin}
use Rattle.world.specs.Lawful.{is_up, lawful}
use Rattle.world.specs.Steady.{HasAreas, IsSteady}
use Rattle.world.specs.World.{World, Area, ShardNow, State, Runs, IsStopped, IsDown, Unsure, Nothing, Shown, Hidden, TurnShown, TurnHidden, area_behind}
use Rattle.world.specs.World.{effect, finished, fresh_shard, happens, input_of, new_area, read_area, read_log, run, setup_of, start, with_records}
use Rattle.world.specs.declared.event.Config.{Config}
use Rattle.world.specs.declared.event.Doing.{Doing}
use Rattle.world.specs.declared.event.Event.{Event}
use Rattle.world.proofs.EveryRun.{is_steady}
use Rattle.world.proofs.Places.{replicated}
use Rattle.world.proofs.Rooms.{done_wanted}
use Rattle.world.proofs.Untouched.{run_settings}
use Rattle.lives.specs.Carries.{opens_as, turns_in}
use Rattle.lives.specs.Held.{HoldsArea}
use Rattle.lives.specs.Unopened.{unopened_shard}
use Rattle.lives.proofs.Formatting.{fresh_is, none_taken, opens_first}
use Rattle.lives.proofs.Living.{asks_the_resting, not_up_opens, turns_as}
use Rattle.law.proofs.Instants.{lawful_front}
use Rattle.law.proofs.WholeLaw.{externally_consistent, run_on}
use Rattle.law.proofs.Areas.{logs_no_turn, read_may_leave}
use Rattle.law.proofs.HasAreas.{always_has_areas, areas_keep}
use Rattle.images.specs.Images.{AreFresh, AreImages, AreLeft, AreLeftWithin, Calls, CoresKnowTheRun, HaveLogs, ImagesHaveLogs, IsFresh}
use Rattle.images.specs.Images.{IsLeftAs, IsUnderWay, KnowsShard, Leads, LeavesNow, LeavesWithin, Life, Up, Down, OpensTo, RestsOn, Takes, TakesWhat}
use Rattle.images.specs.Images.{Turn, Happens, Starves, Turns, TurnsOver, disk_of, events_of}
use Rattle.images.proofs.Acted.{acts_hold, starves_hold}
use Rattle.images.proofs.Called.{Comes, IsKnown, LeavesRead, left_since, not_opened_only_before, not_opened_since, only_before, opened, opened_not_refused}
use Rattle.images.proofs.Called.{opened_since, refused_only_before, turn_only_before, turn_refused_only_before, turned_since}
use Rattle.images.proofs.Held.{HoldsLog, HoldsOr, LivesAs, LivesIn, ReadsAs, life_holds, surely_holds}
use Rattle.images.proofs.Placed.{Hold, IsInput, given, input_whole, no_input, opening_is, rests_holds}

-- ---- logs

-- the log that is left with an area
area_log : (s : ShardNow) (log : List Record) (area : Area) → MayLeaveArea s log area → MayLeaveLog s log
area_log s log area (inl same) = inl same.0
area_log s log area (inr beside) = by_unsure s.unsure refl beside
  where
    by_unsure : (u : Unsure) → s.unsure ≡ u → IsBeside s u log area → MayLeaveLog s log
    by_unsure Nothing is k = absurd k
    by_unsure (Shown r) is k = inr (r, subst (λ u. IsUnsure u r) (sym is) refl, k.0)
    by_unsure (Hidden r) is k = inr (r, subst (λ u. IsUnsure u r) (sym is) refl, k.0)
    by_unsure (TurnShown other) is k = inl k.0
    by_unsure (TurnHidden other) is k = inl k.0

-- that of a doing that may have been done: with its record, or the one that was read
done_log : (w : World) (s : ShardNow) (n : ℕ) (doing : Doing) (log : List Record) (area : Area) → MayHaveDone w s n doing log area →
    MayLeaveLog s log ⊎ MayHaveLogged w s n doing log
done_log w s n doing log area h = by_logged h.logged refl
  where
    by_logged : (o : Option Record) → h.logged ≡ o → MayLeaveLog s log ⊎ MayHaveLogged w s n doing log
    by_logged None is =
        let same : log ≡ read_log s = h.log_is ∙ ap (λ l. read_log s ++ option_to_list l) is ∙ append-nil (read_log s) in
        inl (subst (MayLeaveLog s) (sym same) (area_log s (read_log s) (read_area s) (read_may_leave s)))
    by_logged (Some r) is = inr (
      r,
      ((h.memory, h.out, h.does ∙ ap (λ l. Does l h.memory h.out) is), h.log_is ∙ ap (λ l. read_log s ++ option_to_list l) is),
    )

-- ---- the logs and areas of images

-- what may be left of a shard by its number, of its records and of its area
abbrev pub Leaving : Type 1
Leaving = ℕ → ShardNow → List Record → Area → Type 0

-- of all but the first
abbrev later : Leaving → Leaving
later P j s log area = P (suc j) s log area

-- what a crash between two calls leaves
abbrev MayLeaveEach : Leaving
MayLeaveEach i s log area = MayLeaveArea s log area

-- one by one
abbrev pub AreFit : Leaving → List ShardNow → List (List ℕ) → List (List Record) → List Area → Type 0
AreFit P [] [] [] [] = Unit {0}
AreFit P (s ∷ ss) (image ∷ images) (log ∷ logs) (area ∷ areas) =
    HoldsArea area image × P zero s log area × AreFit (later P) ss images logs areas
AreFit P _ _ _ _ = ⊥

-- images, the areas that they hold, and the records beside
pub record AreReadAs (P : Leaving) (ss : List ShardNow) (images : List (List ℕ)) : Type 0 where
  pub logs : List (List Record)
  pub areas : List Area
  pub read : map records_in images ≡ map (λ area. Ok area.records) areas
  pub fit : AreFit P ss images logs areas

gathered : (P : Leaving) (ss : List ShardNow) (images : List (List ℕ)) → length images ≡ length ss →
    ((i : ℕ) (s : ShardNow) (image : List ℕ) → slice_get ss i ≡ Some s → slice_get images i ≡ Some image → ReadsAs (P i s) image) →
    AreReadAs P ss images
gathered P [] [] count each = record { logs = []; areas = []; read = refl; fit = tt }
gathered P [] (image ∷ images) count each = absurd (cc)
gathered P (s ∷ ss) [] count each = absurd (cc)
gathered P (s ∷ ss) (image ∷ images) count each =
    let first = each zero s image refl refl in
    let rest = gathered (later P) ss images (omega (arith, count)) (λ i t other a b. each (suc i) t other a b) in
    record {
      logs = first.log ∷ rest.logs;
      areas = first.area ∷ rest.areas;
      read = λ j. first.holds.0 j ∷ rest.read j;
      fit = (first.holds, first.fits, rest.fit);
    }

-- one of them
abbrev IsFitAt : Leaving → List ShardNow → ℕ → List ℕ → List Record → Area → Type 0
IsFitAt P ss i image log area = HoldsArea area image × ((s : ShardNow) × (slice_get ss i ≡ Some s) × P i s log area)

abbrev no_images : List (List ℕ)
no_images = []

no_image : (k : ℕ) (image : List ℕ) → slice_get no_images k ≡ Some image → ⊥
no_image zero image e = cc
no_image (suc k) image e = cc

fit_at : (P : Leaving) (ss : List ShardNow) (images : List (List ℕ)) (logs : List (List Record)) (areas : List Area) → AreFit P ss images logs areas →
    (i : ℕ) (image : List ℕ) (log : List Record) (area : Area) → slice_get images i ≡ Some image → slice_get logs i ≡ Some log →
    slice_get areas i ≡ Some area → IsFitAt P ss i image log area
fit_at P [] [] [] [] fit i image log area a b c = absurd (no_image i image a)
fit_at P (s ∷ ss) (x ∷ images) (l ∷ logs) (r ∷ areas) fit zero image log area a b c =
    let same_image : x ≡ image = some_image x image a in
    let same_log : l ≡ log = some_log l log b in
    let same_area : r ≡ area = some_area r area c in
    (subst (λ y. y) (λ j. HoldsArea (same_area j) (same_image j)) fit.0, (s, refl, subst (λ y. y) (λ j. P zero s (same_log j) (same_area j)) fit.1))
  where
    some_image : (p q : List ℕ) → Some p ≡ Some q → p ≡ q
    some_image p q e = cc

    some_log : (p q : List Record) → Some p ≡ Some q → p ≡ q
    some_log p q e = cc

    some_area : (p q : Area) → Some p ≡ Some q → p ≡ q
    some_area p q e = cc
fit_at P (s ∷ ss) (x ∷ images) (l ∷ logs) (r ∷ areas) fit (suc i) image log area a b c =
    fit_at (later P) ss images logs areas fit.2 i image log area a b c
fit_at P [] [] [] (r ∷ areas) fit i image log area a b c = absurd fit
fit_at P [] [] (l ∷ logs) areas fit i image log area a b c = absurd fit
fit_at P [] (x ∷ images) logs areas fit i image log area a b c = absurd fit
fit_at P (s ∷ ss) [] logs areas fit i image log area a b c = absurd fit
fit_at P (s ∷ ss) (x ∷ images) [] areas fit i image log area a b c = absurd fit
fit_at P (s ∷ ss) (x ∷ images) (l ∷ logs) [] fit i image log area a b c = absurd fit

-- their logs are such as a crash between two calls leaves
left_logs : (P : Leaving) → ((i : ℕ) (s : ShardNow) (log : List Record) (area : Area) → P i s log area → MayLeaveLog s log) →
    (ss : List ShardNow) (images : List (List ℕ)) (logs : List (List Record)) (areas : List Area) → AreFit P ss images logs areas → MayLeaveLogs ss logs
left_logs P may [] [] [] [] fit = tt
left_logs P may (s ∷ ss) (x ∷ images) (l ∷ logs) (r ∷ areas) fit =
    (may zero s l r fit.1, left_logs (later P) (λ i t log area k. may (suc i) t log area k) ss images logs areas fit.2)
left_logs P may [] [] [] (r ∷ areas) fit = absurd fit
left_logs P may [] [] (l ∷ logs) areas fit = absurd fit
left_logs P may [] (x ∷ images) logs areas fit = absurd fit
left_logs P may (s ∷ ss) [] logs areas fit = absurd fit
left_logs P may (s ∷ ss) (x ∷ images) [] areas fit = absurd fit
left_logs P may (s ∷ ss) (x ∷ images) (l ∷ logs) [] fit = absurd fit

module _ (config : Config) (es : List Event) (fair : lawful config es ≡ true) where
  -- what is left of one shard, and keeps what it says
  left_as : (n : ℕ) (image : List ℕ) (log : List Record) (area : Area) → HoldsArea area image → MayBeLeftAt config es n log area →
      IsLeftAs config es n image log area
  left_as n image log area holds left = record { holds = holds; left = left; keeps = areas_keep config es n log area fair left }

  -- images that are read as what a crash between two events leaves
  pub have_logs : (images : List (List ℕ)) → length images ≡ length (run config es).shards →
      ((n : ℕ) (s : ShardNow) (image : List ℕ) → slice_get (run config es).shards n ≡ Some s → slice_get images n ≡ Some image →
      ReadsAs (MayLeaveArea s) image) → HaveLogs config es images
  have_logs images count reads =
      let g = gathered MayLeaveEach (run config es).shards images count (λ n s image there is. reads n s image there is) in
      let left : MayBeLeft config es g.logs =
      inl (left_logs MayLeaveEach (λ i s log area k. area_log s log area k) (run config es).shards images g.logs g.areas g.fit) in
      record {
        logs = g.logs;
        areas = g.areas;
        read = g.read;
        each = λ n image log area x y z.
            let it = fit_at MayLeaveEach (run config es).shards images g.logs g.areas g.fit n image log area x y z in
            left_as n image log area it.0 (it.1.0, it.1.1, inl it.1.2);
        left = left;
        consistent = externally_consistent config es g.logs fair left;
      }

module _ (w : World) (n : ℕ) (doing : Doing) where
  -- of the shard at which a call is under way
  abbrev pub MayLeaveHere : ShardNow → List Record → Area → Type 0
  MayLeaveHere s log area = MayLeaveArea s log area ⊎ MayHaveDone w s n doing log area

  -- of each
  abbrev pub MayLeaveThen : Leaving
  MayLeaveThen i s log area = ((i ≢ n) × MayLeaveArea s log area) ⊎ ((i ≡ n) × MayLeaveHere s log area)

  abbrev MayLeaveAll : ℕ → List ShardNow → List (List Record) → Type 0
  MayLeaveAll i ss logs = MayLeaveLogs ss logs ⊎ MayLeaveWithin w n doing i ss logs

  not_zero : (i : ℕ) → suc i ≢ zero
  not_zero i e = cc

  less : (i j : ℕ) → j ≢ i → suc j ≢ suc i
  less i j ne e = ne (omega (arith, e))

  -- the logs are such as a crash within the call leaves
  left_within : (P : Leaving) (i : ℕ) → ((j : ℕ) (s : ShardNow) (log : List Record) (area : Area) → j ≢ i → P j s log area → MayLeaveLog s log) →
      ((s : ShardNow) (log : List Record) (area : Area) → P i s log area → MayLeaveLog s log ⊎ MayHaveLogged w s n doing log) →
      (ss : List ShardNow) (images : List (List ℕ)) (logs : List (List Record)) (areas : List Area) → AreFit P ss images logs areas → MayLeaveAll i ss logs
  left_within P i others here [] [] [] [] fit = inl tt
  left_within P zero others here (s ∷ ss) (x ∷ images) (l ∷ logs) (r ∷ areas) fit = by_here (here s l r fit.1)
    where
      rest : MayLeaveLogs ss logs
      rest = left_logs (later P) (λ j t log area k. others (suc j) t log area (not_zero j) k) ss images logs areas fit.2

      by_here : MayLeaveLog s l ⊎ MayHaveLogged w s n doing l → MayLeaveAll zero (s ∷ ss) (l ∷ logs)
      by_here (inl left) = inl (left, rest)
      by_here (inr logged) = inr (logged, rest)
  left_within P (suc i) others here (s ∷ ss) (x ∷ images) (l ∷ logs) (r ∷ areas) fit =
      by_rest (left_within (later P) i (λ j t log area ne k. others (suc j) t log area (less i j ne) k) (λ t log area k. here t log area k)
      ss images logs areas fit.2)
    where
      first : MayLeaveLog s l
      first = others zero s l r (λ e. not_zero i (sym e)) fit.1

      by_rest : MayLeaveAll i ss logs → MayLeaveAll (suc i) (s ∷ ss) (l ∷ logs)
      by_rest (inl left) = inl (first, left)
      by_rest (inr within) = inr (first, within)
  left_within P i others here [] [] [] (r ∷ areas) fit = absurd fit
  left_within P i others here [] [] (l ∷ logs) areas fit = absurd fit
  left_within P i others here [] (x ∷ images) logs areas fit = absurd fit
  left_within P i others here (s ∷ ss) [] logs areas fit = absurd fit
  left_within P i others here (s ∷ ss) (x ∷ images) [] areas fit = absurd fit
  left_within P i others here (s ∷ ss) (x ∷ images) (l ∷ logs) [] fit = absurd fit

module _ {D : Type 0} (keeps obeys : Type 0) (file : D → File) (clock : D → ℕ) (since : D → ℕ → List ℕ → Type 0) (failures : D → ℕ)
    (plan : D → FailurePlan)
    (counts : (disk : D) (moment : ℕ) (image : List ℕ) → moment ≤ clock disk → MayLeave (surface (file disk)) image → since disk moment image)
    (kept : keeps) where
  -- ---- turn by turn

  -- a shard that was formatted and opened
  fresh_lives : (setup : Setup) (life : Life D) → IsFresh keeps obeys file clock since failures plan setup life → LivesAs file setup fresh_shard life
  unfolding finished
  fresh_lives setup life f = by_life life f.opened
    where
      by_life : (l : Life D) → OpensTo keeps obeys file clock since failures plan f.disk setup l (Ok []) → LivesAs file setup fresh_shard l
      by_life (Up core) k =
          let is : opens_as unopened_shard ≡ Does (Some (Record.Opened 1)) (rebuilt (facts_of [])) [] =
          sym (not_up_opens setup [] unopened_shard refl).0 ∙ opens_first setup in
          let comes = opened keeps obeys file clock since failures plan counts kept setup unopened_shard f.disk
          (surely_holds file unopened_shard f.disk refl f.empty) core k
          (record { takes = none_taken setup; takes_area = none_taken setup; alike = alike-refl (facts_of []) }) in
          subst (λ t. LivesAs file setup t (Up core)) fresh_is
          (subst (Comes keeps obeys file clock since failures plan counts kept setup unopened_shard Doing.Open (Up core)) is comes)
      by_life (Down back) k = absurd k

  abbrev pub HoldRun : Config → List Event → (ℕ → Life D) → Type 0
  HoldRun config es lives = Hold keeps obeys file clock since failures plan counts kept (run config es).config (run config es).shards lives

  fresh_hold : (config : Config) (lives : ℕ → Life D) → AreFresh keeps obeys file clock since failures plan config lives → HoldRun config [] lives
  unfolding run start
  fresh_hold config lives fresh n s there =
      subst (λ x. LivesAs file (setup_of config n) x (lives n)) (replicated (suc (length config.splits)) n s there)
      (fresh_lives (setup_of config n) (lives n) (fresh n s there))

  run_more : (config : Config) (front : List Event) (e : Event) → run config (front ++ e ∷ []) ≡ (happens (run config front) e).0
  unfolding run
  run_more config front e = run_on (start config) front (e ∷ [])

  steady_front : (config : Config) (front more : List Event) → lawful config (front ++ more) ≡ true → IsSteady (run config front)
  unfolding lawful
  steady_front config front more fair = is_steady config front (lawful_front (start config) front more fair)

  areas_front : (config : Config) (front more : List Event) → lawful config (front ++ more) ≡ true → HasAreas (run config front)
  unfolding lawful
  areas_front config front more fair = always_has_areas config front (lawful_front (start config) front more fair)

  happens_hold : (config : Config) (front : List Event) (e : Event) (old new : ℕ → Life D) → IsSteady (run config front) →
      HasAreas (run config front) → HoldRun config front old →
      Turns keeps obeys file clock since failures plan (run config front) e.act old new →
      Hold keeps obeys file clock since failures plan counts kept (happens (run config front) e).0.config (happens (run config front) e).0.shards new
  unfolding happens
  happens_hold config front e old new steady areas h turns =
      acts_hold keeps obeys file clock since failures plan counts kept (run config front) steady areas old new h e.act turns

  leads_hold : (config : Config) (ts : List Turn) (front : List Event) → lawful config (front ++ events_of ts) ≡ true → (old new : ℕ → Life D) →
      HoldRun config front old → Leads keeps obeys file clock since failures plan (run config front) ts old new → HoldRun config (front ++ events_of ts) new
  leads_hold config [] front fair old new h same = subst (λ es. HoldRun config es new) (sym (append-nil front))
      (λ n s there. subst (LivesAs file (setup_of (run config front).config n) s) (sym (same n)) (h n s there))
  leads_hold config (Happens e ∷ ts) front fair old new h (between, turns, leads) =
      let more = run_more config front e in
      let again = append_assoc front (e ∷ []) (events_of ts) in
      let held : HoldRun config (front ++ e ∷ []) between =
      subst (λ v. Hold keeps obeys file clock since failures plan counts kept v.config v.shards between) (sym more)
      (happens_hold config front e old between (steady_front config front (e ∷ events_of ts) fair)
      (areas_front config front (e ∷ events_of ts) fair) h turns) in
      subst (λ es. HoldRun config es new) again
      (leads_hold config ts (front ++ e ∷ []) (subst (λ es. lawful config es ≡ true) (sym again) fair) between new held
      (subst (λ v. Leads keeps obeys file clock since failures plan v ts between new) (sym more) leads))
  leads_hold config (Starves n doing ∷ ts) front fair old new h (between, starves, leads) =
      leads_hold config ts front fair between new
      (starves_hold keeps obeys file clock since failures plan counts kept (run config front) (steady_front config front (events_of ts) fair)
      (areas_front config front (events_of ts) fair) old between h
      n doing starves) leads

  -- ---- within a call

  module _ (w : World) (steady : IsSteady w) (areas : HasAreas w) (n : ℕ) (s : ShardNow) (there : slice_get w.shards n ≡ Some s) where
    pub follows : (doing : Doing) (r : Record) (memory : Memory) (out : List Envelope) →
        effect (setup_of w.config n) w.bag s doing ≡ Does (Some r) memory out → IsTrue (followed n (read_log s ++ r ∷ []))
    follows doing r memory out e = steady.logged n s doing r memory out there e

    pub known : IsKnown (setup_of w.config n) s
    known = record { takes = steady.takes n s there; takes_area = areas.takes n s there; alike = areas.alike n s there }

    -- the area, or this with the record of the step
    reads_as : (doing : Doing) (logged : Option Record) (memory : Memory) (out : List Envelope) →
        area_behind s doing logged ≡ with_records (read_area s) (option_to_list logged) →
        effect (setup_of w.config n) w.bag s doing ≡ Does logged memory out → (image : List ℕ) →
        HoldsOr (read_area s) logged image → ReadsAs (MayLeaveHere w n doing s) image
    reads_as doing logged memory out behind does image (inl old) =
        record { log = read_log s; area = read_area s; holds = old; fits = inl (read_may_leave s) }
    reads_as doing logged memory out behind does image (inr with) = record {
      log = read_log s ++ option_to_list logged;
      area = with_records (read_area s) (option_to_list logged);
      holds = with;
      fits = inr (record { logged = logged; memory = memory; out = out; does = does; log_is = refl; area_is = sym behind });
    }

    -- the area, or the new one
    turn_reads_as : (memory : Memory) (out : List Envelope) → effect (setup_of w.config n) w.bag s Doing.Turn ≡ Does None memory out → (image : List ℕ) →
        HoldsArea (read_area s) image ⊎ HoldsArea (new_area s) image → ReadsAs (MayLeaveHere w n Doing.Turn s) image
    turn_reads_as memory out does image (inl old) = record { log = read_log s; area = read_area s; holds = old; fits = inl (read_may_leave s) }
    turn_reads_as memory out does image (inr other) = record {
      log = read_log s ++ [];
      area = new_area s;
      holds = other;
      fits = inr (record { logged = None; memory = memory; out = out; does = does; log_is = refl; area_is = refl });
    }

    takes_reads : (doing : Doing) (p : Interval × Input) (old new : Life D) (result : Result (List Envelope) Fault) → IsInput doing →
        input_of w.bag doing ≡ Some p → (logged : Option Record) (memory : Memory) (out : List Envelope) →
        effect (setup_of w.config n) w.bag s doing ≡ Does logged memory out →
        Takes keeps obeys file clock since failures plan p.0 p.1 old new result → LivesAs file (setup_of w.config n) s old →
        (image : List ℕ) → since (disk_of new) (clock (disk_of old)) image → ReadsAs (MayLeaveHere w n doing s) image
    takes_reads doing p (Up old) (Up new) result i is logged memory out does k h image left = by_state s.state refl h
      where
        by_state : (st : State) → s.state ≡ st → LivesIn file (setup_of w.config n) s (Up old) st → ReadsAs (MayLeaveHere w n doing s) image
        by_state (Runs m) runs l =
            let step_is : step_of old p.0 p.1 ≡ Does logged memory out =
            done_wanted old.gate (step_of old p.0 p.1) logged memory out
            (sym (input_whole keeps obeys file clock since failures plan counts kept w.config w.bag n s known (areas.lasting n s there) follows
            doing p m old i.has is runs l) ∙ does) in
            reads_as doing logged memory out (i.behind s logged) does image
            (subst (λ st. HoldsOr (read_area s) (record_of st) image) step_is
            (left_since keeps obeys file clock since failures plan counts kept (setup_of w.config n) s m old new l (step_of old p.0 p.1) result k image left))
        by_state (IsStopped m) stops l = absurd (no_input (setup_of w.config n) w.bag s doing logged memory out does
            (asks_the_resting (setup_of w.config n) w.bag s doing i.goes (ap is_up stops)))
        by_state IsDown down l = absurd l
    takes_reads doing p (Up old) (Down back) result i is logged memory out does k h image left = absurd k
    takes_reads doing p (Down disk) (Up new) result i is logged memory out does k h image left = absurd k
    takes_reads doing p (Down disk) (Down back) result i is logged memory out does k h image left = absurd k

    what_reads : (doing : Doing) (o : Option (Interval × Input)) (old new : Life D) (result : Result (List Envelope) Fault) → IsInput doing →
        input_of w.bag doing ≡ o → (logged : Option Record) (memory : Memory) (out : List Envelope) →
        effect (setup_of w.config n) w.bag s doing ≡ Does logged memory out →
        TakesWhat keeps obeys file clock since failures plan o old new result → LivesAs file (setup_of w.config n) s old →
        (image : List ℕ) → since (disk_of new) (clock (disk_of old)) image → ReadsAs (MayLeaveHere w n doing s) image
    what_reads doing None old new result i is logged memory out does k h image left = absurd k
    what_reads doing (Some p) old new result i is logged memory out does k h image left =
        takes_reads doing p old new result i is logged memory out does k h image left

    -- of a turnover
    turns_read : (old new : Life D) (result : Result (List Envelope) Fault) (logged : Option Record) (memory : Memory) (out : List Envelope) →
        effect (setup_of w.config n) w.bag s Doing.Turn ≡ Does logged memory out → TurnsOver keeps obeys file clock since failures plan old new result →
        LivesAs file (setup_of w.config n) s old → (image : List ℕ) → since (disk_of new) (clock (disk_of old)) image →
        ReadsAs (MayLeaveHere w n Doing.Turn s) image
    turns_read old new result (Some r) memory out does k h image left =
        absurd (false≢true (sym (logs_no_turn (setup_of w.config n) w.bag s Doing.Turn r memory out does)))
    turns_read (Up old) (Up new) result None memory out does k h image left = by_state s.state refl h
      where
        by_state : (st : State) → s.state ≡ st → LivesIn file (setup_of w.config n) s (Up old) st → ReadsAs (MayLeaveHere w n Doing.Turn s) image
        by_state (Runs m) runs l = turn_reads_as memory out does image
            (turned_since keeps obeys file clock since failures plan counts kept (setup_of w.config n) s m old new l (areas.lasting n s there) result k.0
            image left)
        by_state (IsStopped m) stops l = absurd (no_input (setup_of w.config n) w.bag s Doing.Turn None memory out does
            (asks_the_resting (setup_of w.config n) w.bag s Doing.Turn refl (ap is_up stops)))
        by_state IsDown down l = absurd l
    turns_read (Up old) (Down back) result None memory out does k h image left = absurd k
    turns_read (Down disk) (Up new) result None memory out does k h image left = absurd k
    turns_read (Down disk) (Down back) result None memory out does k h image left = absurd k

    -- of an opening
    read_reads : (disk : D) (h : HoldsLog file s disk) → is_up s.state ≡ false → (logged : Option Record) (memory : Memory) (out : List Envelope) →
        effect (setup_of w.config n) w.bag s Doing.Open ≡ Does logged memory out → (image : List ℕ) →
        LeavesRead keeps obeys file clock since failures plan counts kept (setup_of w.config n) s disk h image → ReadsAs (MayLeaveHere w n Doing.Open s) image
    read_reads disk h down logged memory out does image (inl reads) =
        record { log = reads.log; area = reads.area; holds = reads.holds; fits = inl reads.fits }
    read_reads disk h down logged memory out does image (inr read) = reads_as Doing.Open logged memory out refl does image
        (subst (λ o. HoldsOr (read_area s) o image)
        (opening_is s known.alike logged memory out (sym (not_up_opens (setup_of w.config n) w.bag s down).0 ∙ does)) read)

    opens_reads : (new : Life D) (result : Result (List Envelope) Fault) (disk : D) →
        OpensTo keeps obeys file clock since failures plan disk (setup_of w.config n) new result → is_up s.state ≡ false → (h : HoldsLog file s disk) →
        (image : List ℕ) → since (disk_of new) (clock disk) image →
        LeavesRead keeps obeys file clock since failures plan counts kept (setup_of w.config n) s disk h image
    opens_reads (Up core) (Ok out) disk k down h image left =
        opened_since keeps obeys file clock since failures plan counts kept (setup_of w.config n) s disk h core k image left
    opens_reads (Down back) (Err fault) disk k down h image left =
        not_opened_since keeps obeys file clock since failures plan counts kept (setup_of w.config n) s disk h fault back k image left
    opens_reads (Up core) (Err fault) disk k down h image left = absurd k
    opens_reads (Down back) (Ok out) disk k down h image left = absurd k

    pub same_disk : (old : Life D) (disk : D) → RestsOn old disk → disk_of old ≡ disk
    same_disk (Up core) disk rests = rests.1
    same_disk (Down d) disk rests = rests

    does_read : (doing : Doing) (old new : Life D) (result : Result (List Envelope) Fault) (logged : Option Record) (memory : Memory)
        (out : List Envelope) → effect (setup_of w.config n) w.bag s doing ≡ Does logged memory out →
        Calls keeps obeys file clock since failures plan (setup_of w.config n) w.bag doing old new result → LivesAs file (setup_of w.config n) s old →
        (image : List ℕ) → since (disk_of new) (clock (disk_of old)) image → ReadsAs (MayLeaveHere w n doing s) image
    does_read Doing.Open old new result logged memory out does k h image left =
        let rests = rests_holds keeps obeys file clock since failures plan counts kept (setup_of w.config n) s old k.disk k.rests s.state h in
        let since_then = subst (λ d. since (disk_of new) (clock d) image) (same_disk old k.disk k.rests) left in
        read_reads k.disk rests.1 rests.0 logged memory out does image
        (opens_reads new result k.disk k.opened rests.0 rests.1 image since_then)
    does_read Doing.Turn old new result logged memory out does k h image left = turns_read old new result logged memory out does k h image left
    does_read (Doing.Take m now) old new result logged memory out does k h image left =
        what_reads (Doing.Take m now) (input_of w.bag (Doing.Take m now)) old new result (given (Doing.Take m now) refl) refl
        logged memory out does k h image left
    does_read (Doing.Resume now) old new result logged memory out does k h image left =
        what_reads (Doing.Resume now) (input_of w.bag (Doing.Resume now)) old new result (given (Doing.Resume now) refl) refl
        logged memory out does k h image left
    does_read (Doing.Settle t now) old new result logged memory out does k h image left =
        what_reads (Doing.Settle t now) (input_of w.bag (Doing.Settle t now)) old new result (given (Doing.Settle t now) refl) refl
        logged memory out does k h image left
    does_read (Doing.Advance at now) old new result logged memory out does k h image left =
        what_reads (Doing.Advance at now) (input_of w.bag (Doing.Advance at now)) old new result (given (Doing.Advance at now) refl) refl
        logged memory out does k h image left
    does_read (Doing.Forget at now) old new result logged memory out does k h image left =
        what_reads (Doing.Forget at now) (input_of w.bag (Doing.Forget at now)) old new result (given (Doing.Forget at now) refl) refl
        logged memory out does k h image left
    does_read (Doing.Retire below now) old new result logged memory out does k h image left =
        what_reads (Doing.Retire below now) (input_of w.bag (Doing.Retire below now)) old new result (given (Doing.Retire below now) refl) refl
        logged memory out does k h image left
    does_read (Doing.Nudge t now) old new result logged memory out does k h image left =
        what_reads (Doing.Nudge t now) (input_of w.bag (Doing.Nudge t now)) old new result (given (Doing.Nudge t now) refl) refl
        logged memory out does k h image left

    -- ---- a call that the definitions refuse

    reads_before : (old : Life D) → LivesAs file (setup_of w.config n) s old → (image : List ℕ) → MayLeave (surface (file (disk_of old))) image →
        ReadsAs (MayLeaveArea s) image
    reads_before old h image may = (life_holds file (setup_of w.config n) s old s.state h).left image may

    takes_before : (doing : Doing) (p : Interval × Input) (old new : Life D) (result : Result (List Envelope) Fault) → IsInput doing →
        input_of w.bag doing ≡ Some p → (why : Fault) → effect (setup_of w.config n) w.bag s doing ≡ Refuses why →
        Takes keeps obeys file clock since failures plan p.0 p.1 old new result → LivesAs file (setup_of w.config n) s old →
        (image : List ℕ) → since (disk_of new) (clock (disk_of old)) image → MayLeave (surface (file (disk_of old))) image
    takes_before doing p (Up old) (Up new) result i is why refuses k h image left = by_state s.state refl h
      where
        by_state : (st : State) → s.state ≡ st → LivesIn file (setup_of w.config n) s (Up old) st → MayLeave (surface (file old.disk)) image
        by_state (Runs m) runs l =
            only_before keeps obeys file clock since failures plan counts kept (setup_of w.config n) s m old new l (step_of old p.0 p.1) result k why
            (sym (input_whole keeps obeys file clock since failures plan counts kept w.config w.bag n s known (areas.lasting n s there) follows
            doing p m old i.has is runs l) ∙ refuses) image left
        by_state (IsStopped m) stops l =
            refused_only_before keeps obeys file clock since failures plan counts kept (setup_of w.config n) s old new l.0 l.1 (step_of old p.0 p.1)
            result k image left
        by_state IsDown down l = absurd l
    takes_before doing p (Up old) (Down back) result i is why refuses k h image left = absurd k
    takes_before doing p (Down disk) (Up new) result i is why refuses k h image left = absurd k
    takes_before doing p (Down disk) (Down back) result i is why refuses k h image left = absurd k

    what_before : (doing : Doing) (o : Option (Interval × Input)) (old new : Life D) (result : Result (List Envelope) Fault) → IsInput doing →
        input_of w.bag doing ≡ o → (why : Fault) → effect (setup_of w.config n) w.bag s doing ≡ Refuses why →
        TakesWhat keeps obeys file clock since failures plan o old new result → LivesAs file (setup_of w.config n) s old →
        (image : List ℕ) → since (disk_of new) (clock (disk_of old)) image → MayLeave (surface (file (disk_of old))) image
    what_before doing None old new result i is why refuses k h image left = absurd k
    what_before doing (Some p) old new result i is why refuses k h image left = takes_before doing p old new result i is why refuses k h image left

    turns_before : (old new : Life D) (result : Result (List Envelope) Fault) (why : Fault) → effect (setup_of w.config n) w.bag s Doing.Turn ≡ Refuses why →
        TurnsOver keeps obeys file clock since failures plan old new result → LivesAs file (setup_of w.config n) s old →
        (image : List ℕ) → since (disk_of new) (clock (disk_of old)) image → MayLeave (surface (file (disk_of old))) image
    turns_before (Up old) (Up new) result why refuses k h image left = by_state s.state refl h
      where
        by_state : (st : State) → s.state ≡ st → LivesIn file (setup_of w.config n) s (Up old) st → MayLeave (surface (file old.disk)) image
        by_state (Runs m) runs l =
            turn_only_before keeps obeys file clock since failures plan counts kept (setup_of w.config n) s m old new l (areas.lasting n s there) result k.0 why
            (sym (turns_as (setup_of w.config n) w.bag s ∙ ap (turns_in s) runs) ∙ refuses) image left
        by_state (IsStopped m) stops l =
            turn_refused_only_before keeps obeys file clock since failures plan counts kept (setup_of w.config n) s old new l.0 l.1 result k.0 image left
        by_state IsDown down l = absurd l
    turns_before (Up old) (Down back) result why refuses k h image left = absurd k
    turns_before (Down disk) (Up new) result why refuses k h image left = absurd k
    turns_before (Down disk) (Down back) result why refuses k h image left = absurd k

    opens_before : (new : Life D) (result : Result (List Envelope) Fault) (disk : D) →
        OpensTo keeps obeys file clock since failures plan disk (setup_of w.config n) new result → HoldsLog file s disk → (why : Fault) →
        opens_as s ≡ Refuses why → (image : List ℕ) → since (disk_of new) (clock disk) image → MayLeave (surface (file disk)) image
    opens_before (Up core) (Ok out) disk k h why refuses image left =
        absurd (opened_not_refused keeps obeys file clock since failures plan counts kept (setup_of w.config n) s disk h core k known why refuses)
    opens_before (Down back) (Err fault) disk k h why refuses image left =
        not_opened_only_before keeps obeys file clock since failures plan counts kept (setup_of w.config n) s disk h fault back k known why refuses image left
    opens_before (Up core) (Err fault) disk k h why refuses image left = absurd k
    opens_before (Down back) (Ok out) disk k h why refuses image left = absurd k

    calls_before : (doing : Doing) (old new : Life D) (result : Result (List Envelope) Fault) (why : Fault) →
        effect (setup_of w.config n) w.bag s doing ≡ Refuses why →
        Calls keeps obeys file clock since failures plan (setup_of w.config n) w.bag doing old new result → LivesAs file (setup_of w.config n) s old →
        (image : List ℕ) → since (disk_of new) (clock (disk_of old)) image → MayLeave (surface (file (disk_of old))) image
    calls_before Doing.Open old new result why refuses k h image left =
        let rests = rests_holds keeps obeys file clock since failures plan counts kept (setup_of w.config n) s old k.disk k.rests s.state h in
        let same = same_disk old k.disk k.rests in
        subst (λ d. MayLeave (surface (file d)) image) (sym same)
        (opens_before new result k.disk k.opened rests.1 why (sym (not_up_opens (setup_of w.config n) w.bag s rests.0).0 ∙ refuses) image
        (subst (λ d. since (disk_of new) (clock d) image) same left))
    calls_before Doing.Turn old new result why refuses k h image left = turns_before old new result why refuses k h image left
    calls_before (Doing.Take m now) old new result why refuses k h image left =
        what_before (Doing.Take m now) (input_of w.bag (Doing.Take m now)) old new result (given (Doing.Take m now) refl) refl why refuses k h image left
    calls_before (Doing.Resume now) old new result why refuses k h image left =
        what_before (Doing.Resume now) (input_of w.bag (Doing.Resume now)) old new result (given (Doing.Resume now) refl) refl why refuses k h image left
    calls_before (Doing.Settle t now) old new result why refuses k h image left =
        what_before (Doing.Settle t now) (input_of w.bag (Doing.Settle t now)) old new result (given (Doing.Settle t now) refl) refl why refuses k h image left
    calls_before (Doing.Advance at now) old new result why refuses k h image left =
        what_before (Doing.Advance at now) (input_of w.bag (Doing.Advance at now)) old new result (given (Doing.Advance at now) refl) refl
        why refuses k h image left
    calls_before (Doing.Forget at now) old new result why refuses k h image left =
        what_before (Doing.Forget at now) (input_of w.bag (Doing.Forget at now)) old new result (given (Doing.Forget at now) refl) refl
        why refuses k h image left
    calls_before (Doing.Retire below now) old new result why refuses k h image left =
        what_before (Doing.Retire below now) (input_of w.bag (Doing.Retire below now)) old new result (given (Doing.Retire below now) refl) refl
        why refuses k h image left
    calls_before (Doing.Nudge t now) old new result why refuses k h image left =
        what_before (Doing.Nudge t now) (input_of w.bag (Doing.Nudge t now)) old new result (given (Doing.Nudge t now) refl) refl why refuses k h image left

    -- ---- any call

    calls_read : (doing : Doing) (old new : Life D) (result : Result (List Envelope) Fault) →
        Calls keeps obeys file clock since failures plan (setup_of w.config n) w.bag doing old new result → LivesAs file (setup_of w.config n) s old →
        (image : List ℕ) → since (disk_of new) (clock (disk_of old)) image → ReadsAs (MayLeaveHere w n doing s) image
    calls_read doing old new result k h image left = by_effect (effect (setup_of w.config n) w.bag s doing) refl
      where
        by_effect : (st : Stepped) → effect (setup_of w.config n) w.bag s doing ≡ st → ReadsAs (MayLeaveHere w n doing s) image
        by_effect (Does logged memory out) is = does_read doing old new result logged memory out is k h image left
        by_effect (Refuses why) is =
            let r = reads_before old h image (calls_before doing old new result why is k h image left) in
            record { log = r.log; area = r.area; holds = r.holds; fits = inl r.fits }

  -- ---- all shards

  module _ (config : Config) (es : List Event) (fair : lawful config es ≡ true) (lives : ℕ → Life D) (h : HoldRun config es lives) where
    config_is : (run config es).config ≡ config
    config_is = run_settings config es

    pub now_reads : (n : ℕ) (s : ShardNow) (image : List ℕ) → slice_get (run config es).shards n ≡ Some s → LeavesNow file (lives n) image →
        ReadsAs (MayLeaveArea s) image
    now_reads n s image there may =
        (life_holds file (setup_of (run config es).config n) s (lives n) s.state (h n s there)).left image may

    -- between two calls
    between : (images : List (List ℕ)) → AreImages (run config es) (λ n image. LeavesNow file (lives n) image) images → HaveLogs config es images
    between images a = have_logs config es fair images a.count (λ n s image there is. now_reads n s image there (a.each n image is))

    -- what is left of a shard that is in a call
    pub under_way_reads : (n : ℕ) (after : Life D) (u : IsUnderWay keeps obeys file clock since failures plan config es lives n after) (s : ShardNow)
        (image : List ℕ) → slice_get (run config es).shards n ≡ Some s → since (disk_of after) (clock (disk_of (lives n))) image →
        ReadsAs (MayLeaveHere (run config es) n u.doing s) image
    under_way_reads n after u s image there left =
        let called : Calls keeps obeys file clock since failures plan (setup_of (run config es).config n) (run config es).bag u.doing
        (lives n) after u.result =
        subst (λ c. Calls keeps obeys file clock since failures plan (setup_of c n) (run config es).bag u.doing (lives n) after u.result)
        (sym config_is) u.called in
        calls_read (run config es) (is_steady config es fair) (always_has_areas config es fair) n s there u.doing (lives n) after u.result
        called (h n s there) image left

    -- within one
    module _ (images : List (List ℕ)) (a : AreLeftWithin keeps obeys file clock since failures plan config es lives images) where
      abbrev u : IsUnderWay keeps obeys file clock since failures plan config es lives a.n a.after
      u = a.under_way

      abbrev Then : Leaving
      Then = MayLeaveThen (run config es) a.n a.under_way.doing

      here : (s : ShardNow) (image : List ℕ) → slice_get (run config es).shards a.n ≡ Some s →
          LeavesWithin keeps obeys file clock since failures plan lives a.n a.after a.n image →
          ReadsAs (MayLeaveHere (run config es) a.n a.under_way.doing s) image
      here s image there (inr may) = absurd (may.0 refl)
      here s image there (inl it) = under_way_reads a.n a.after u s image there it.1

      elsewhere : (i : ℕ) (s : ShardNow) (image : List ℕ) → i ≢ a.n → slice_get (run config es).shards i ≡ Some s →
          LeavesWithin keeps obeys file clock since failures plan lives a.n a.after i image → ReadsAs (MayLeaveArea s) image
      elsewhere i s image other there (inl it) = absurd (other (sym it.0))
      elsewhere i s image other there (inr may) = now_reads i s image there may.1

      then_reads : (i : ℕ) (s : ShardNow) (image : List ℕ) → slice_get (run config es).shards i ≡ Some s →
          LeavesWithin keeps obeys file clock since failures plan lives a.n a.after i image → ReadsAs (Then i s) image
      then_reads i s image there leaves = elim (cases_eq i a.n) [
        | inl same ↦
            let r = here s image (subst (λ k. slice_get (run config es).shards k ≡ Some s) same there)
            (subst (λ k. LeavesWithin keeps obeys file clock since failures plan lives a.n a.after k image) same leaves) in
            record { log = r.log; area = r.area; holds = r.holds; fits = inr (same, r.fits) }
        | inr other ↦
            let r = elsewhere i s image other there leaves in
            record { log = r.log; area = r.area; holds = r.holds; fits = inl (other, r.fits) }
      ]

      others_left : (j : ℕ) (s : ShardNow) (log : List Record) (area : Area) → j ≢ a.n → Then j s log area → MayLeaveLog s log
      others_left j s log area ne (inl k) = area_log s log area k.1
      others_left j s log area ne (inr k) = absurd (ne k.0)

      here_left : (s : ShardNow) (log : List Record) (area : Area) → Then a.n s log area → MayLeaveLog s log ⊎ MayHaveLogged (run config es) s a.n u.doing log
      here_left s log area (inl k) = absurd (k.0 refl)
      here_left s log area (inr (same, inl k)) = inl (area_log s log area k)
      here_left s log area (inr (same, inr k)) = done_log (run config es) s a.n u.doing log area k

      left_at : (i : ℕ) (s : ShardNow) (log : List Record) (area : Area) → slice_get (run config es).shards i ≡ Some s → Then i s log area →
          MayBeLeftAt config es i log area
      left_at i s log area there (inl k) = (s, there, inl k.1)
      left_at i s log area there (inr (same, inl k)) = (s, there, inl k)
      left_at i s log area there (inr (same, inr k)) =
          subst (λ m. MayBeLeftAt config es m log area) (sym same)
          (s, subst (λ m. slice_get (run config es).shards m ≡ Some s) same there, inr (u.event, u.doing, u.may, u.of, k))

      may_be_left : (logs : List (List Record)) →
          MayLeaveLogs (run config es).shards logs ⊎ MayLeaveWithin (run config es) a.n u.doing a.n (run config es).shards logs → MayBeLeft config es logs
      may_be_left logs (inl between_calls) = inl between_calls
      may_be_left logs (inr within_call) = inr (u.event, a.n, u.doing, u.may, u.of, within_call)

      within : HaveLogs config es images
      within =
          let g = gathered Then (run config es).shards images a.leaves.count (λ i s image there is. then_reads i s image there (a.leaves.each i image is)) in
          let left : MayBeLeft config es g.logs = may_be_left g.logs
          (left_within (run config es) a.n u.doing Then a.n others_left here_left (run config es).shards images g.logs g.areas g.fit) in
          record {
            logs = g.logs;
            areas = g.areas;
            read = g.read;
            each = λ n image log area x y z.
                let it = fit_at Then (run config es).shards images g.logs g.areas g.fit n image log area x y z in
                left_as config es fair n image log area it.0 (left_at n it.1.0 log area it.1.1 it.1.2);
            left = left;
            consistent = externally_consistent config es g.logs fair left;
          }

  started : (config : Config) (turns : List Turn) (first lives : ℕ → Life D) →
      Leads keeps obeys file clock since failures plan (start config) turns first lives →
      Leads keeps obeys file clock since failures plan (run config []) turns first lives
  unfolding run
  started config turns first lives leads = leads

  pub holds : (config : Config) (turns : List Turn) (first lives : ℕ → Life D) → lawful config (events_of turns) ≡ true →
      AreFresh keeps obeys file clock since failures plan config first → Leads keeps obeys file clock since failures plan (start config) turns first lives →
      HoldRun config (events_of turns) lives
  holds config turns first lives fair fresh leads =
      leads_hold config turns [] fair first lives (fresh_hold config first fresh) (started config turns first lives leads)

  -- a shard that runs has a core that runs
  knows : (setup : Setup) (s : ShardNow) (m : Memory) (life : Life D) → LivesIn file setup s life (Runs m) →
      KnowsShard s m life
  knows setup s m (Up core) h = record { core = core; is = refl; runs = h.runs; facts = h.knows; memory = h.memory }
  knows setup s m (Down disk) h = absurd h

  pub cores_know_the_run : CoresKnowTheRun keeps obeys file clock since failures plan
  cores_know_the_run keep config turns first lives fair fresh leads n s m there runs =
      let h : HoldRun config (events_of turns) lives = holds config turns first lives fair fresh leads in
      knows (setup_of (run config (events_of turns)).config n) s m (lives n)
      (subst (LivesIn file (setup_of (run config (events_of turns)).config n) s (lives n)) runs (h n s there))

  pub images_have_logs : ImagesHaveLogs keeps obeys file clock since failures plan
  images_have_logs keep config turns first lives fair fresh leads images left = by_left (holds config turns first lives fair fresh leads) left
    where
      by_left : HoldRun config (events_of turns) lives → AreLeft keeps obeys file clock since failures plan config (events_of turns) lives images →
          HaveLogs config (events_of turns) images
      by_left h (inl now) = between config (events_of turns) fair lives h images now
      by_left h (inr call) = within config (events_of turns) fair lives h images call
