-- Each promise and each decision is above the versions and the ends before it.
use Rattle.std.proofs.Common.{◌≡◌, ◌⊎◌, inl, inr, ℕ, ◌+◌, ◌<◌, ◌≤◌, max, min, Bool, true, false, cond, nat_le, nat_lt, List, [], ◌∷◌, ◌++◌, Option}
use Rattle.std.proofs.Common.{Some, None, refl, sym, ap, subst, ◌∙◌, arith, slice_get}
use Rattle.std.specs.Prelude.{Ok}
use Rattle.std.proofs.lemmas.Bool.{leb-true}
use Rattle.units.specs.Limits.{most_rows}
use Rattle.protocol.specs.Cells.{raised}
use Rattle.units.specs.Ids.{Id}
use Rattle.units.specs.Keys.{Bytes}
use Rattle.units.specs.declared.setup.Setup.{Setup}
use Rattle.units.specs.declared.writes.Install.{Install}
use Rattle.units.specs.declared.writes.Write.{Write}
use Rattle.truetime.specs.Interval.{Interval}
use Rattle.record.specs.Facts.{facts_of, learn}
use Rattle.record.specs.Installs.{installs_of}
use Rattle.record.specs.declared.record.Record.{Record}
use Rattle.record.specs.declared.record.Record.TheVariants.{Prepare, Commit, Outcome}
use Rattle.record.proofs.LearnAgrees.{accepted_follows, learn_agrees}
use Rattle.message.specs.declared.message.Input.{Input}
use Rattle.protocol.specs.Plan.{time_limit, Plan, Before, start_of_step, carried}
use Rattle.protocol.specs.Rows.{Memory, rebuilt}
use Rattle.protocol.specs.Step.{plan_input, facts_after, IsInLimit}
use Rattle.protocol.proofs.Agreement.{Sound, decision_of}
use Rattle.protocol.proofs.PlanShapes.{shape_of}
use Rattle.protocol.proofs.RowChanges.{by_id-claims}
use Rattle.protocol.proofs.Shapes.{Shape, Answers, IsEnd, IsAbort, IsClose, IsSettle, IsLock, IsWait, IsPromise, IsDecision, ShapeOf, Acts, IsAdvance}
use Rattle.protocol.proofs.Shapes.{IsForget, IsRetire}
use Rattle.law.proofs.Quiet.{IsAbove}
use Rattle.law.proofs.Rising.{LoggedAbove, rising}
use Rattle.law.proofs.Accepts.{each_at}
use Rattle.law.proofs.ReadBefore.{Claims, IsAboveAll, IsStamped}
use Rattle.world.proofs.EveryRun.{InLimit, IsTaken, IsWell, keeps, opening_keeps, opens, fresh, fresh_taken, in_limit, limits, logs}
use Rattle.world.proofs.LogSounds.{SoundWorld, always_sound, left_good, logged_good}
use Rattle.world.proofs.Places.{with_record}
use Rattle.world.specs.World.{fresh_log, run}
use Rattle.world.specs.declared.event.Config.{Config}
use Rattle.world.specs.declared.event.Event.{Event}
use Rattle.world.specs.Headline.{MayBeLeft}
use Rattle.world.specs.Lawful.{lawful}
use Rattle.law.specs.Among.{IsAmong}
use Rattle.law.proofs.LeftGood.{left_are_good}
use Rattle.law.proofs.Members.{among_cases}

-- a record at the end of a list, or before it
pub last_split : (log : List Record) (r : Record) (front : List Record) (q : Record) (back : List Record) → log ++ r ∷ [] ≡ front ++ q ∷ back →
    ((r ≡ q) × (log ≡ front)) ⊎ ((mid : List Record) × (log ≡ front ++ q ∷ mid))
last_split [] r [] q back e = inl ((first_is r q [] back e).0, refl)
  where
    first_is : (x y : Record) (xs ys : List Record) → ◌≡◌ {A = List Record} (x ∷ xs) (y ∷ ys) → (x ≡ y) × (xs ≡ ys)
    first_is x y xs ys k = (cc, cc)
last_split (y ∷ log) r [] q back e = inr (log, ap (λ z. z ∷ log) (first_is y q (log ++ r ∷ []) back e).0)
  where
    first_is : (x z : Record) (xs zs : List Record) → ◌≡◌ {A = List Record} (x ∷ xs) (z ∷ zs) → (x ≡ z) × (xs ≡ zs)
    first_is x z xs zs k = (cc, cc)
last_split [] r (z ∷ []) q back e = cc
last_split [] r (z ∷ y ∷ front) q back e = cc
last_split (y ∷ log) r (z ∷ front) q back e =
    elim (last_split log r front q back (first_is y z (log ++ r ∷ []) (front ++ q ∷ back) e).1) [
      | inl end ↦ inl (end.0, ap (λ x. x ∷ log) (first_is y z (log ++ r ∷ []) (front ++ q ∷ back) e).0 ∙ ap (λ l. z ∷ l) end.1)
      | inr more ↦ inr (more.0, ap (λ x. x ∷ log) (first_is y z (log ++ r ∷ []) (front ++ q ∷ back) e).0 ∙ ap (λ l. z ∷ l) more.1)
    ]
  where
    first_is : (x w : Record) (xs ws : List Record) → ◌≡◌ {A = List Record} (x ∷ xs) (w ∷ ws) → (x ≡ w) × (xs ≡ ws)
    first_is x w xs ws k = (cc, cc)

-- ---- the outcomes of a shard's log are not above its greatest timestamp

abbrev pub EndsBelow : List Record → ℕ → Type 0
EndsBelow log last = (u : Id) (s : ℕ) → IsAmong log (Outcome u (Some s)) → s ≤ last

-- an outcome that is logged is not above a timestamp
abbrev OutcomeBelow : Option Record → ℕ → Type 0
OutcomeBelow (Some (Outcome u (Some s))) last = s ≤ last
OutcomeBelow _ last = Unit {0}

-- the greatest timestamp does not fall, and an outcome that is logged is not above it
unfoldable EndsNext : Before → Plan → Type 0
EndsNext b p = (b.memory.last ≤ p.last) × OutcomeBelow p.logged p.last

next : (b : Before) (p : Plan) → Sound b → Shape b p → EndsNext b p
unfolding EndsNext
next b p sound (Answers out is) = subst (EndsNext b) (sym is) (omega arith, tt)
next b p sound (IsEnd u out fresh is) = subst (EndsNext b) (sym is) (omega arith, tt)
next b p sound (IsAbort u out fresh is) = subst (EndsNext b) (sym is) (omega arith, tt)
next b p sound (IsClose u n c at held outcome out found allowed is) = subst (EndsNext b) (sym is) (by_outcome outcome)
  where
    by_outcome : (o : Option ℕ) → (b.memory.last ≤ raised b.memory.last o) × OutcomeBelow (Some (Outcome u o)) (raised b.memory.last o)
    by_outcome None = (omega arith, tt)
    by_outcome (Some s) = (omega arith, omega arith)
next b p sound (IsSettle u at ps held out found is) = subst (EndsNext b) (sym is) (omega arith, below)
  where
    below : at ≤ b.memory.last
    below =
        let made = decision_of b u held at ps sound found in
        let stamp = made.stamp in
        let low = made.stands_by.assigned in
        omega (arith, stamp, low)
next b p sound (IsLock u ended needs phase out l is) = subst (EndsNext b) (sym is) (omega arith, tt)
next b p sound (IsWait u needs phase out w is) = subst (EndsNext b) (sym is) (omega arith, tt)
next b p sound (IsPromise u ended c at rs ws out l is) = subst (EndsNext b) (sym is) (omega arith, tt)
next b p sound (IsDecision u ended needs at ps rs ws out l is) = subst (EndsNext b) (sym is) (omega arith, tt)

next_of : (b : Before) (i : Input) (p : Plan) → Sound b → ShapeOf b i p → EndsNext b p
unfolding EndsNext
next_of b i p sound (Acts shape) = next b p sound shape
next_of b i p sound (IsForget at k served higher is) = subst (EndsNext b) (sym is) (omega arith, tt)
next_of b i p sound (IsRetire below k none up is) = subst (EndsNext b) (sym is) (omega arith, tt)
next_of b i p sound (IsAdvance stride at k is) =
    subst (EndsNext b) (sym is) (omega arith, by_test (nat_lt b.facts.floor at) (min (at + stride) time_limit))
  where
    by_test : (c : Bool) (n : ℕ) → OutcomeBelow (cond c (Some (Record.Ceiling n)) None) (max b.memory.last at)
    by_test true n = tt
    by_test false n = tt

-- ---- as what a step keeps

pub record Stamps (setup : Setup) (log : List Record) (m : Memory) : Type 0 where
  pub well : IsWell setup (facts_of log) m
  pub ends : EndsBelow log m.last

pub record Stamped (setup : Setup) (log : List Record) : Type 0 where
  pub accepted : IsTaken setup log
  pub stamped : IsStamped log

-- all is well with one more record
well_more : (setup : Setup) (log : List Record) (r : Record) (m : Memory) → IsTaken setup (log ++ r ∷ []) → IsWell setup (learn (facts_of log) r) m →
    IsWell setup (facts_of (log ++ r ∷ [])) m
well_more setup log r m next well =
    subst (λ f. IsWell setup f m) (sym (learn_agrees setup.shard log r (accepted_follows setup (log ++ r ∷ []) next.0))) well

pub stamps_keeps : (setup : Setup) (log : List Record) (m : Memory) (now : Interval) (i : Input) (p : Plan) → IsInLimit i → Stamped setup log →
    Stamps setup log m → plan_input setup (start_of_step most_rows setup (facts_of log) m) now i ≡ Ok p →
    Stamps setup (with_record log p.logged) (carried p m)
unfolding EndsNext carried
stamps_keeps setup log m now i p limit good s e = record {
  well = by_record p.logged refl (keeps setup (facts_of log) m now i p limit s.well e);
  ends = λ u x h. ends_more p.logged after u x h;
}
  where
    after : EndsNext (start_of_step most_rows setup (facts_of log) m) p
    after = next_of (start_of_step most_rows setup (facts_of log) m) i p s.well.sound
        (shape_of most_rows setup (facts_of log) m now i p (by_id-claims m.rows s.well.sound.table.order) e)

    by_record : (o : Option Record) → p.logged ≡ o → IsWell setup (facts_after (facts_of log) o) (carried p m) →
        IsWell setup (facts_of (with_record log o)) (carried p m)
    by_record None is well = well
    by_record (Some r) is well = well_more setup log r (carried p m) (logs setup log m now i p r limit good.accepted s.well e is) well

    ends_more : (o : Option Record) → (m.last ≤ p.last) × OutcomeBelow o p.last → EndsBelow (with_record log o) p.last
    ends_more None low u x h = let below = s.ends u x h in let up = low.0 in omega (arith, below, up)
    ends_more (Some r) low u x h = elim (among_cases log (r ∷ []) (Outcome u (Some x)) h) [
      | inl old ↦ (let below = s.ends u x old in let up = low.0 in omega (arith, below, up))
      | inr new ↦ elim new [ inl same ↦ subst (λ q. OutcomeBelow (Some q) p.last) same low.1 | inr none ↦ absurd none ]
    ]

pub stamps_opens : (setup : Setup) (log : List Record) (m : Memory) → Stamped setup log → Stamps setup log m →
    Stamps setup (log ++ Record.Opened ((facts_of log).epoch + 1) ∷ []) (rebuilt (facts_of log))
unfolding rebuilt
stamps_opens setup log m good s = record {
  well = well_more setup log (Record.Opened ((facts_of log).epoch + 1)) (rebuilt (facts_of log)) (opening_keeps setup log good.accepted)
      (opens setup (facts_of log) m s.well);
  ends = λ u x h. elim (among_cases log (Record.Opened ((facts_of log).epoch + 1) ∷ []) (Outcome u (Some x)) h) [
    | inl old ↦ served u x (s.ends u x old)
    | inr new ↦ absurd (not_opened u x new)
  ];
}
  where
    served : (u : Id) (x : ℕ) → x ≤ m.last → x ≤ (rebuilt (facts_of log)).last
    served u x low = let under = s.well.sound.under in omega (arith, low, under)

    not_opened : (u : Id) (x : ℕ) → (Record.Opened ((facts_of log).epoch + 1) ≡ Outcome u (Some x)) ⊎ ⊥ → ⊥
    not_opened u x (inl same) = cc
    not_opened u x (inr none) = none

claim_above : (r : Record) (t : Id) (at : ℕ) (ks : List Bytes) (ws : List Write) (low : ℕ) → Claims r t at ks ws → IsAbove low r → low < at
claim_above (Prepare p) t at ks ws low c h = let e = c.1 in omega (arith, e, h)
claim_above (Commit p) t at ks ws low c h = let e = c.1 in omega (arith, e, h)
claim_above _ t at ks ws low c h = absurd c

pub stamped_logs : (setup : Setup) (log : List Record) (m : Memory) (now : Interval) (i : Input) (p : Plan) (r : Record) → IsInLimit i →
    Stamped setup log → Stamps setup log m →
    plan_input setup (start_of_step most_rows setup (facts_of log) m) now i ≡ Ok p → p.logged ≡ Some r → Stamped setup (log ++ r ∷ [])
unfolding facts_of
stamped_logs setup log m now i p r limit good s e logged = record {
  accepted = logs setup log m now i p r limit good.accepted s.well e logged;
  stamped = λ front q back t at ks ws is claims. elim (last_split log r front q back is) [
    | inl end ↦ subst (λ l. IsAboveAll l at) end.1 (here q t at ks ws (subst (λ z. IsAbove m.last z) end.0 above) claims)
    | inr more ↦ good.stamped front q more.0 t at ks ws more.1 claims
  ];
}
  where
    above : IsAbove m.last r
    above = subst (LoggedAbove m.last) logged
        (rising most_rows m.last setup (facts_of log) m now i p (by_id-claims m.rows s.well.sound.table.order) e (omega arith)).1

    here : (q : Record) (t : Id) (at : ℕ) (ks : List Bytes) (ws : List Write) → IsAbove m.last q → Claims q t at ks ws → IsAboveAll log at
    here q t at ks ws high claims =
        let up_from = claim_above q t at ks ws m.last claims high in
        record {
          versions = λ i2 j. let low = leb-true i2.at m.last (each_at (λ (x : Install). nat_le x.at m.last)
              (installs_of log) i2 s.well.sound.installed j) in omega (arith, low, up_from);
          ends = λ u x k. let low = s.ends u x k in omega (arith, low, up_from);
        }

pub stamped_opens : (setup : Setup) (log : List Record) → Stamped setup log → Stamped setup (log ++ Record.Opened ((facts_of log).epoch + 1) ∷ [])
stamped_opens setup log good = record {
  accepted = opening_keeps setup log good.accepted;
  stamped = λ front q back t at ks ws is claims. elim (last_split log (Record.Opened ((facts_of log).epoch + 1)) front q back is) [
    | inl end ↦ absurd (subst (λ z. Claims z t at ks ws) (sym end.0) claims)
    | inr more ↦ good.stamped front q more.0 t at ks ws more.1 claims
  ];
}

-- ---- at the beginning, and so in each log that a crash may leave

fresh_stamps : (setup : Setup) → Stamps setup fresh_log (rebuilt (facts_of fresh_log))
fresh_stamps setup = record { well = fresh setup; ends = λ u s h. absurd (none u s h) }
  where
    none : (u : Id) (s : ℕ) → (Record.Opened 1 ≡ Outcome u (Some s)) ⊎ ⊥ → ⊥
    none u s (inl same) = cc
    none u s (inr nothing) = nothing

fresh_stamped : (setup : Setup) → Stamped setup fresh_log
fresh_stamped setup = record { accepted = fresh_taken setup; stamped = λ front r back t at ks ws is claims. absurd (none front r back t at ks ws is claims) }
  where
    first_is : (y z : Record) (ys zs : List Record) → ◌≡◌ {A = List Record} (y ∷ ys) (z ∷ zs) → (y ≡ z) × (ys ≡ zs)
    first_is y z ys zs k = (cc, cc)

    not_none : (front : List Record) (r : Record) (back : List Record) → [] ≡ front ++ r ∷ back → ⊥
    not_none [] r back e = cc
    not_none (y ∷ front) r back e = cc

    none : (front : List Record) (r : Record) (back : List Record) (t : Id) (at : ℕ) (ks : List Bytes) (ws : List Write) →
        Record.Opened 1 ∷ [] ≡ front ++ r ∷ back → Claims r t at ks ws → ⊥
    none [] r back t at ks ws e claims = subst (λ z. Claims z t at ks ws) (sym (first_is (Record.Opened 1) r [] back e).0) claims
    none (y ∷ front) r back t at ks ws e claims = not_none front r back (first_is (Record.Opened 1) y [] (front ++ r ∷ back) e).1

pub left_stamped : (config : Config) (es : List Event) (ls : List (List Record)) → lawful config es ≡ true → MayBeLeft config es ls →
    (k : ℕ) (log : List Record) → slice_get ls k ≡ Some log → IsStamped log
left_stamped config es ls fair may k log e =
    (left_are_good InLimit Stamped config es ls may
    (left_good InLimit Stamps Stamped stamps_keeps stamps_opens stamped_logs stamped_opens (run config es) always)
    (logged_good InLimit Stamps Stamped stamps_keeps stamps_opens stamped_logs stamped_opens (run config es) always)
    (in_limit (run config es)) k log e).stamped
  where
    always : SoundWorld InLimit Stamps Stamped stamps_keeps stamps_opens stamped_logs stamped_opens (run config es)
    always = always_sound InLimit Stamps Stamped stamps_keeps stamps_opens stamped_logs stamped_opens limits fresh_stamps fresh_stamped config es fair
