-- What was served stays below all that is logged later.
use Rattle.std.proofs.Common.{◌≡◌, inl, inr, ℕ, ◌+◌, ◌≤◌, true, not, List, [], ◌∷◌, ◌++◌, Some, slice_get, refl, sym, ap, subst}
use Rattle.std.proofs.Common.{◌∙◌, arith, append_assoc}
use Rattle.std.specs.Prelude.{Ok}
use Rattle.std.proofs.lemmas.Bool.{and_parts}
use Rattle.std.proofs.lemmas.List.{append-nil}
use Rattle.units.specs.Limits.{most_rows}
use Rattle.units.specs.Lists.{when}
use Rattle.units.specs.declared.setup.Setup.{Setup}
use Rattle.truetime.specs.Interval.{Interval}
use Rattle.record.specs.Accepted.{follows, followed, outcome_fits}
use Rattle.record.specs.Facts.{Facts, facts_of, learn}
use Rattle.record.specs.Records.{committed_of, prepared_of, ended_of}
use Rattle.record.specs.declared.record.Record.{Record}
use Rattle.record.specs.declared.record.Record.TheVariants.{Prepare, Commit, Outcome, Base, Version, Settled, Closed}
use Rattle.record.proofs.LearnAgrees.{learn_agrees, followed_more}
use Rattle.message.specs.declared.message.Input.{Input}
use Rattle.protocol.specs.Plan.{Plan, start_of_step}
use Rattle.protocol.specs.Rows.{Memory, safe}
use Rattle.protocol.specs.Step.{plan_input, facts_after, IsInLimit}
use Rattle.world.specs.Headline.{MayLeaveLog, IsUnsure}
use Rattle.world.specs.Lawful.{lawful, may_happen}
use Rattle.world.specs.World.{World, ShardNow, State, Area, Unsure, View, Runs, IsStopped, IsDown, setup_of, start, run, run_from, happens}
use Rattle.world.specs.declared.event.Config.{Config}
use Rattle.world.specs.declared.event.Event.{Event}
use Rattle.world.proofs.Along.{along}
use Rattle.world.proofs.EveryRun.{InLimit, WellWorld, in_limit, shard_with}
use Rattle.world.proofs.Openings.{opening_follows}
use Rattle.world.proofs.Sounds.{SoundShard, SoundWorld, acts_sound}
use Rattle.law.specs.Among.{IsAmong}
use Rattle.law.specs.Passes.{ComesAbove, IsAboveServed, IsOfItsLog, ServedIsBelow}
use Rattle.law.proofs.Changed.{Offers}
use Rattle.law.proofs.Instants.{lawful_front}
use Rattle.law.proofs.Kept.{IsPresent, KeptShard, KeptView, Serves, Shows, present_is_kept, rises, safe_low, serves_keeps, serves_opens, shows_follows}
use Rattle.law.proofs.Kept.{shows_logs, shows_opens}
use Rattle.law.proofs.LeftGood.{left_is_good}
use Rattle.law.proofs.LooksHold.{IsKept, always_kept, changes, event_keeps, start_kept, start_present}
use Rattle.law.proofs.Members.{among_cases, among_right}
use Rattle.law.proofs.OfLogs.{of_its_log}
use Rattle.law.proofs.Logged.{AreLogged, each_logged}
use Rattle.law.proofs.Picked.{some_same}
use Rattle.law.proofs.Quiet.{IsAbove, IsQuiet, outcome_above}
use Rattle.law.proofs.Rising.{LoggedAbove}
use Rattle.law.proofs.WholeLaw.{lawful_on, run_on}

-- a record that follows comes above a time up to which the log is quiet
comes_above : (shard : ℕ) (log : List Record) (r : Record) (at : ℕ) → AreLogged log → followed shard (log ++ r ∷ []) ≡ true → IsQuiet log at
    → IsAbove at r → ComesAbove at r
unfolding follows
comes_above shard log r at logged h q above = by_kind r (and_parts _ _ (and_parts _ _ (sym (followed_more shard log r) ∙ h)).1).1 above
  where
    by_kind : (x : Record) → follows shard log x ≡ true → IsAbove at x → ComesAbove at x
    by_kind (Prepare p) e high = high
    by_kind (Commit c) e high = high
    by_kind (Base _ _ _) e high = absurd high
    by_kind (Version _) e high = absurd high
    by_kind (Settled _ _ _) e high = absurd high
    by_kind (Closed _ _ _) e high = absurd high
    by_kind (Outcome t (Some s)) e high =
        let p = and_parts (not (when (λ x. true) (ended_of log t))) (outcome_fits (prepared_of log t) (committed_of log t) (Some s))
        (and_parts _ _ e).0 in
        outcome_above log logged at t s q p.0 (prepared_of log t) refl (committed_of log t) refl p.1
    by_kind _ e high = tt

grown_more : (base log : List Record) (r : Record) (at : ℕ) → IsAboveServed base log at → ComesAbove at r → at ≤ (facts_of (log ++ r ∷ [])).floor →
    IsAboveServed base (log ++ r ∷ []) at
grown_more base log r at g high floor = record {
  more = g.more ++ r ∷ [];
  grown = ap (λ l. l ++ r ∷ []) g.grown ∙ append_assoc base g.more (r ∷ []);
  above = λ q h. elim (among_cases g.more (r ∷ []) q h) [
    | inl old ↦ g.above q old
    | inr new ↦ elim new [ inl same ↦ subst (ComesAbove at) same high | inr none ↦ absurd none ]
  ];
  floor = floor;
}

module _ (n : ℕ) (v : View) (base : List Record) where
  -- the log shows the view, and has grown above it
  pub record Stays (setup : Setup) (log : List Record) : Type 0 where
    pub shows : Shows n v setup log
    pub grown : setup.shard ≡ n → IsAboveServed base log v.safe

  pub stays_follows : (setup : Setup) (log : List Record) → Stays setup log → followed setup.shard log ≡ true
  stays_follows setup log s = shows_follows n v setup log s.shows

  pub stays_logs : (setup : Setup) (log : List Record) (m : Memory) (now : Interval) (i : Input) (p : Plan) (r : Record) → IsInLimit i →
      Stays setup log → Serves n v setup (facts_of log) m →
      plan_input setup (start_of_step most_rows setup (facts_of log) m) now i ≡ Ok p → p.logged ≡ Some r → Stays setup (log ++ r ∷ [])
  stays_logs setup log m now i p r limit stays serves e logged =
      let shows = shows_logs n v setup log m now i p r limit stays.shows serves e logged in
      let follows_it = shows_follows n v setup (log ++ r ∷ []) shows in
      record {
        shows = shows;
        grown = λ here. grown_more base log r v.safe (stays.grown here)
            (comes_above setup.shard log r v.safe (each_logged log stays.shows.accepted.1) follows_it (stays.shows.shown here).quiet
            (subst (LoggedAbove v.safe) logged (rises n v setup (facts_of log) m now i p serves.well e (serves.served here)).1))
            (floor here follows_it);
      }
    where
      floor : setup.shard ≡ n → followed setup.shard (log ++ r ∷ []) ≡ true → v.safe ≤ (facts_of (log ++ r ∷ [])).floor
      floor here follows_it =
          let after = serves_keeps n v setup (facts_of log) m now i p limit serves e in
          let low = after.served here in
          let under = after.well.sound.under in
          subst (λ (f : Facts). v.safe ≤ f.floor) (ap (facts_after (facts_of log)) logged ∙ sym (learn_agrees setup.shard log r follows_it))
          (omega (arith, low, under))

  pub stays_opens : (setup : Setup) (log : List Record) → Stays setup log → Stays setup (log ++ Record.Opened ((facts_of log).epoch + 1) ∷ [])
  unfolding learn
  stays_opens setup log s = record {
    shows = shows_opens n v setup log s.shows;
    grown = λ here. grown_more base log (Record.Opened ((facts_of log).epoch + 1)) v.safe (s.grown here) tt
        (subst (λ (f : Facts). v.safe ≤ f.floor)
        (sym (learn_agrees setup.shard log (Record.Opened ((facts_of log).epoch + 1)) (opening_follows setup.shard log (stays_follows setup log s))))
        ((s.grown here).floor));
  }

-- a view of a shard stays: over whatever log a crash may leave
abbrev pub StaysView : ℕ → View → List Record → World → Type 0
StaysView n v base w = SoundWorld InLimit (Serves n v) (Stays n v base) (serves_keeps n v) (serves_opens n v) (stays_follows n v base)
    (stays_logs n v base) (stays_opens n v base) w

abbrev StaysShard : ℕ → View → List Record → Setup → ShardNow → Type 0
StaysShard n v base setup s = SoundShard InLimit (Serves n v) (Stays n v base) (serves_keeps n v) (serves_opens n v) (stays_follows n v base)
    (stays_logs n v base) (stays_opens n v base) setup s

-- a view is kept, and each log that a crash may leave has grown
with_grown : (n : ℕ) (v : View) (base : List Record) (setup : Setup) (log : List Record) (area : Area) (unsure : Unsure) (st : State) (views : List View) →
    KeptShard n v setup (shard_with log area unsure st views) →
    ((l : List Record) → MayLeaveLog (shard_with log area unsure st views) l → setup.shard ≡ n → IsAboveServed base l v.safe) →
    StaysShard n v base setup (shard_with log area unsure st views)
with_grown n v base setup log area unsure (Runs m) views kept grown = record {
  left = λ l may. let x = kept.left l may in record {
    memory = x.memory;
    sound = x.sound;
    good = record { shows = x.good; grown = grown l may };
  };
  state = kept.state;
}
with_grown n v base setup log area unsure (IsStopped m) views kept grown = record {
  left = λ l may. let x = kept.left l may in record {
    memory = x.memory;
    sound = x.sound;
    good = record { shows = x.good; grown = grown l may };
  };
  state = tt;
}
with_grown n v base setup log area unsure IsDown views kept grown = record {
  left = λ l may. let x = kept.left l may in record {
    memory = x.memory;
    sound = x.sound;
    good = record { shows = x.good; grown = grown l may };
  };
  state = tt;
}

-- ---- what a running shard shows now stays

module _ (w : World) (n : ℕ) (v : View) (well : WellWorld w) (p : IsPresent w n v) where
  grown_now : (k : ℕ) (s : ShardNow) → slice_get w.shards k ≡ Some s → (l : List Record) → MayLeaveLog s l → k ≡ n → IsAboveServed p.shard.log l v.safe
  grown_now k s there l may here = elim may [
    | inl same ↦ record {
      more = [];
      grown = same ∙ ap (λ (z : ShardNow). z.log) mine
          ∙ sym (append-nil p.shard.log);
      above = λ r h. absurd h;
      floor = floor same;
    }
    | inr more ↦ absurd (subst (λ u. IsUnsure u more.0) own.surely more.1)
  ]
    where
      mine : s ≡ p.shard
      mine = some_same s p.shard (sym there ∙ subst (λ z. slice_get w.shards z ≡ Some p.shard) (sym here) p.there)

      own : IsOfItsLog k s p.memory
      own = of_its_log w well k s p.memory there (ap (λ (z : ShardNow). z.state) mine ∙ p.runs)

      floor : l ≡ s.log → v.safe ≤ (facts_of l).floor
      floor same =
          let low = safe_low p.memory in
          let under = own.sound.under in
          let shown : safe p.memory ≡ v.safe = ap (λ (z : View). z.safe) p.is in
          subst (λ z. v.safe ≤ (facts_of z).floor) (sym same) (omega (arith, low, under, shown))

  present_stays : StaysView n v p.shard.log w
  present_stays k s there =
      with_grown n v p.shard.log (setup_of w.config k) s.log s.area s.unsure s.state s.views (present_is_kept w n v well p k s there) (grown_now k s there)

-- ---- in a run

-- each view that a shard shows stays, from some log on
abbrev AllStay : World → Type 0
AllStay w = (n : ℕ) (v : View) → Offers w n v → (base : List Record) × StaysView n v base w

stays_on : (n : ℕ) (v : View) (base : List Record) (w : World) (e : Event) → may_happen w e ≡ true → StaysView n v base w →
    StaysView n v base (happens w e).0
unfolding happens
stays_on n v base w e may stays = acts_sound InLimit (Serves n v) (Stays n v base) (serves_keeps n v) (serves_opens n v) (stays_follows n v base)
    (stays_logs n v base) (stays_opens n v base) w stays e.act (in_limit w e may)

all_stay_on : (config : Config) (w : World) (e : Event) → may_happen w e ≡ true → IsKept config w × AllStay w →
    IsKept config (happens w e).0 × AllStay (happens w e).0
all_stay_on config w e may is =
    let next = event_keeps config w e may is.0 in (
      next,
      λ n v o. elim ((changes w e is.0.well may).offered n v o) [
        | inl old ↦ (let b = is.1 n v old in (b.0, stays_on n v b.0 w e may b.1))
        | inr present ↦ (present.shard.log, present_stays ((happens w e).0) n v next.well present)
      ],
    )

always_all_stay : (config : Config) (es : List Event) → lawful config es ≡ true → AllStay (run config es)
unfolding run lawful
always_all_stay config es fair =
    (along (λ w. IsKept config w × AllStay w) (all_stay_on config) (start config) es fair (
      start_kept config,
      λ n v o. let p = start_present config n v o in (p.shard.log, present_stays (start config) n v (start_kept config).well p),
    )).1

-- ---- from the log of any moment on

cut_same : (xs ys zs : List Record) → xs ++ ys ≡ xs ++ zs → ys ≡ zs
cut_same [] ys zs e = e
cut_same (x ∷ xs) ys zs e = cut_same xs ys zs (rest_is x (xs ++ ys) (xs ++ zs) e)
  where
    rest_is : (y : Record) (vs ws : List Record) → ◌≡◌ {A = List Record} (y ∷ vs) (y ∷ ws) → vs ≡ ws
    rest_is y vs ws k = cc

-- more that has grown on a beginning has grown on what is longer
rebased : (base log : List Record) (r : Record) (at : ℕ) → IsAboveServed base log at → IsAboveServed base (log ++ r ∷ []) at →
    IsAboveServed log (log ++ r ∷ []) at
rebased base log r at shorter longer = record {
  more = r ∷ [];
  grown = refl;
  above = λ q h. longer.above q (subst (λ l. IsAmong l q) (sym more_is) (among_right shorter.more (r ∷ []) q h));
  floor = longer.floor;
}
  where
    more_is : longer.more ≡ shorter.more ++ r ∷ []
    more_is = cut_same base longer.more (shorter.more ++ r ∷ [])
        (sym longer.grown ∙ ap (λ l. l ++ r ∷ []) shorter.grown ∙ append_assoc base shorter.more (r ∷ []))

itself : (base log : List Record) (at : ℕ) → IsAboveServed base log at → IsAboveServed log log at
itself base log at g = record { more = []; grown = sym (append-nil log); above = λ r h. absurd h; floor = g.floor }

module _ (w : World) (n : ℕ) (v : View) (base : List Record) (kept : KeptView n v w) (stays : StaysView n v base w) (s : ShardNow)
    (there : slice_get w.shards n ≡ Some s) where
  grown_on : (k : ℕ) (x : ShardNow) → slice_get w.shards k ≡ Some x → (l : List Record) → MayLeaveLog x l → k ≡ n → IsAboveServed s.log l v.safe
  grown_on k x at l may here =
      subst (λ (z : ShardNow). IsAboveServed z.log l v.safe) (some_same x s (sym at ∙ subst (λ z. slice_get w.shards z ≡ Some s) (sym here) there))
      (elim may [
        | inl same ↦ subst (λ z. IsAboveServed x.log z v.safe) (sym same) (itself base x.log v.safe (((stays k x at).left x.log (inl refl)).good.grown here))
        | inr more ↦ subst (λ z. IsAboveServed x.log z v.safe) (sym more.2) (rebased base x.log more.0 v.safe
            (((stays k x at).left x.log (inl refl)).good.grown here)
            (subst (λ z. IsAboveServed base z v.safe) more.2 (((stays k x at).left l (inr more)).good.grown here)))
      ])

  stays_from : StaysView n v s.log w
  stays_from k x at = with_grown n v s.log (setup_of w.config k) x.log x.area x.unsure x.state x.views (kept k x at) (grown_on k x at)

pub served_is_below : ServedIsBelow
unfolding run lawful
served_is_below config es later logs fair may n s v there shows log is =
    (left_is_good InLimit (Serves n v) (Stays n v s.log) (serves_keeps n v) (serves_opens n v) (stays_follows n v s.log)
    (stays_logs n v s.log) (stays_opens n v s.log) config (es ++ later) logs may
    (subst (StaysView n v s.log) (sym (run_on (start config) es later)) at_end) (in_limit (run config (es ++ later))) n log is).grown refl
  where
    front : lawful config es ≡ true
    front = lawful_front (start config) es later fair

    offered : Offers (run config es) n v
    offered = record { shard = s; there = there; shows = shows }

    b : (base : List Record) × StaysView n v base (run config es)
    b = always_all_stay config es front n v offered

    at_end : StaysView n v s.log (run_from (run config es) later)
    at_end = along (StaysView n v s.log) (stays_on n v s.log) (run config es) later (lawful_on (start config) es later fair)
        (stays_from (run config es) n v b.0 ((always_kept config es front).views n v offered) b.1 s there)
