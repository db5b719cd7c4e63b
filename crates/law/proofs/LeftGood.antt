-- What is kept of every shard holds of each log that a crash may leave, between events and within one.
use Rattle.std.proofs.Common.{◌≡◌, ◌⊎◌, inl, inr, ℕ, ◌+◌, true, List, [], ◌∷◌, ◌++◌, Option, Some, None, slice_get, refl, sym, subst}
use Rattle.std.specs.Prelude.{Ok}
use Rattle.units.specs.Limits.{most_rows}
use Rattle.units.specs.declared.setup.Setup.{Setup}
use Rattle.truetime.specs.Interval.{Interval}
use Rattle.record.specs.Accepted.{followed}
use Rattle.record.specs.Facts.{Facts, facts_of, learn}
use Rattle.record.specs.declared.record.Record.{Record}
use Rattle.message.specs.declared.message.Address.{Address}
use Rattle.message.specs.declared.message.Address.TheVariants.{Shard, Session}
use Rattle.message.specs.declared.message.Envelope.{Envelope}
use Rattle.message.specs.declared.message.Input.{Input}
use Rattle.protocol.specs.Rows.{Memory, rebuilt}
use Rattle.protocol.specs.Plan.{Plan, start_of_step, carried}
use Rattle.protocol.specs.Step.{Does, facts_after, plan_input}
use Rattle.world.specs.World.{World, ShardNow, effect, read_log, setup_of, start, run}
use Rattle.world.specs.Headline.{AllAccepted, MayBeLeft, MayLeaveLog, MayHaveLogged, doing_of}
use Rattle.world.specs.Lawful.{lawful, may_happen}
use Rattle.world.specs.declared.event.Act.{Act}
use Rattle.world.specs.declared.event.Config.{Config}
use Rattle.world.specs.declared.event.Doing.{Doing}
use Rattle.world.specs.declared.event.Event.{Event}
use Rattle.world.proofs.EveryRun.{InLimit, IsWell, IsTaken, keeps, opening_keeps, opens, logs, always_well, in_limit, taken_follows}
use Rattle.law.proofs.Logged.{AreLogged, each_logged}
use Rattle.world.proofs.Sounds.{ActAllowed, DoingAllowed, SoundWorld, left_good, logged_good}
use Rattle.world.proofs.Untouched.{run_settings}
use Rattle.law.proofs.Instants.{last_may}
use Rattle.law.proofs.Lefts.{ShardOf, left_get, within_get}

-- what an act gives, so its doing gives
some_pair : (p q : ℕ × Doing) → ◌≡◌ {A = Option (ℕ × Doing)} (Some p) (Some q) → p ≡ q
some_pair p q e = cc

allowed_of : (Allowed : Setup → Input → Type 0) (w : World) (act : Act) (n : ℕ) (doing : Doing) → ActAllowed Allowed w act →
    doing_of w act ≡ Some (n, doing) → DoingAllowed Allowed (setup_of w.config n) w.bag doing
allowed_of Allowed w (Act.At m d) n doing h e = subst (λ (p : ℕ × Doing). DoingAllowed Allowed (setup_of w.config p.0) w.bag p.1)
    (some_pair (m, d) (n, doing) e) h
allowed_of Allowed w (Act.CrashIn m call fate named d) n doing h e = subst (λ (p : ℕ × Doing). DoingAllowed Allowed (setup_of w.config p.0) w.bag p.1)
    (some_pair (m, d) (n, doing) e) h
allowed_of Allowed w (Act.FailIn m call named d) n doing h e = subst (λ (p : ℕ × Doing). DoingAllowed Allowed (setup_of w.config p.0) w.bag p.1)
    (some_pair (m, d) (n, doing) e) h
allowed_of Allowed w (Act.Deliver m now) n doing h e = by_message (slice_get w.bag m) refl e
  where
    by_address : (z : Envelope) → slice_get w.bag m ≡ Some z → (y : Address) → z.to ≡ y →
        (elim y as (λ v. Option (ℕ × Doing)) [ Shard k ↦ Some (k, Doing.Take m now) | Session t ↦ None ]) ≡ Some (n, doing) →
        DoingAllowed Allowed (setup_of w.config n) w.bag doing
    by_address z is (Shard k) goes same = subst (λ (p : ℕ × Doing). DoingAllowed Allowed (setup_of w.config p.0) w.bag p.1)
        (some_pair (k, Doing.Take m now) (n, doing) same) (h z k is goes)
    by_address z is (Session t) goes same = cc

    by_message : (o : Option Envelope) → slice_get w.bag m ≡ o →
        (elim o as (λ v. Option (ℕ × Doing)) [
          | None ↦ None
          | Some z ↦ elim z.to as (λ v. Option (ℕ × Doing)) [
            | Shard k ↦
                Some (k, Doing.Take m now)
            | Session t ↦ None
          ]
        ]) ≡ Some (n, doing) → DoingAllowed Allowed (setup_of w.config n) w.bag doing
    by_message None is same = cc
    by_message (Some z) is same = by_address z is z.to refl same
allowed_of Allowed w _ n doing h e = cc

module _ (Allowed : Setup → Input → Type 0) (Good : Setup → List Record → Type 0) (config : Config) (es : List Event) (ls : List (List Record))
    (may : MayBeLeft config es ls)
    (left : (n : ℕ) (s : ShardNow) (log : List Record) → slice_get (run config es).shards n ≡ Some s → MayLeaveLog s log →
    Good (setup_of (run config es).config n) log)
    (logged : (n : ℕ) (s : ShardNow) (doing : Doing) (r : Record) (memory : Memory) (out : List Envelope) → slice_get (run config es).shards n ≡ Some s →
    DoingAllowed Allowed (setup_of (run config es).config n) (run config es).bag doing →
    effect (setup_of (run config es).config n) (run config es).bag s doing ≡ Does (Some r) memory out →
    Good (setup_of (run config es).config n) (read_log s ++ r ∷ []))
    (allowed : (e : Event) → may_happen (run config es) e ≡ true → ActAllowed Allowed (run config es) e.act) where
  pub left_are_good : (k : ℕ) (log : List Record) → slice_get ls k ≡ Some log → Good (setup_of (run config es).config k) log
  unfolding run lawful
  left_are_good k log is = elim may [
    | inl plain ↦ (let s = left_get (run config es).shards ls k log plain is in left k s.shard log s.there s.fits)
    | inr within ↦ by_place within.1 within.2 (allowed_of Allowed (run config es) within.0.act within.1 within.2
        (allowed within.0 (last_may (start config) es within.0 within.3)) within.4)
        (within_get (run config es) within.1 within.2 within.1 (run config es).shards ls k log within.5 is)
  ]
    where
      by_place : (i : ℕ) (doing : Doing) → DoingAllowed Allowed (setup_of (run config es).config i) (run config es).bag doing →
          ShardOf (run config es).shards k (λ s. MayLeaveLog s log ⊎ ((k ≡ i) × MayHaveLogged (run config es) s i doing log)) →
          Good (setup_of (run config es).config k) log
      by_place i doing ok p = elim p.fits [
        | inl plain ↦ left k p.shard log p.there plain
        | inr here ↦ subst (Good (setup_of (run config es).config k)) (sym here.1.1.1)
            (subst (λ z. Good (setup_of (run config es).config z) (read_log p.shard ++ here.1.0 ∷ [])) (sym here.0)
            (logged i p.shard doing here.1.0 here.1.1.0.0 here.1.1.0.1
            (subst (λ z. slice_get (run config es).shards z ≡ Some p.shard) here.0 p.there) ok here.1.1.0.2))
      ]

module _ (Allowed : Setup → Input → Type 0) (Sound : Setup → Facts → Memory → Type 0) (Good : Setup → List Record → Type 0)
    (keeps : (setup : Setup) (f : Facts) (m : Memory) (now : Interval) (i : Input) (p : Plan) → Allowed setup i → Sound setup f m →
    plan_input setup (start_of_step most_rows setup f m) now i ≡ Ok p → Sound setup (facts_after f p.logged) (carried p m))
    (opens : (setup : Setup) (f : Facts) (m : Memory) → Sound setup f m → Sound setup (learn f (Record.Opened (f.epoch + 1))) (rebuilt f))
    (follows : (setup : Setup) (log : List Record) → Good setup log → followed setup.shard log ≡ true)
    (logs : (setup : Setup) (log : List Record) (m : Memory) (now : Interval) (i : Input) (p : Plan) (r : Record) → Allowed setup i → Good setup log →
    Sound setup (facts_of log) m → plan_input setup (start_of_step most_rows setup (facts_of log) m) now i ≡ Ok p → p.logged ≡ Some r
    → Good setup (log ++ r ∷ []))
    (good_opens : (setup : Setup) (log : List Record) → Good setup log → Good setup (log ++ Record.Opened ((facts_of log).epoch + 1) ∷ []))
    (config : Config) (es : List Event) (ls : List (List Record)) (may : MayBeLeft config es ls)
    (sound : SoundWorld Allowed Sound Good keeps opens follows logs good_opens (run config es))
    (allowed : (e : Event) → may_happen (run config es) e ≡ true → ActAllowed Allowed (run config es) e.act) where
  pub left_is_good : (k : ℕ) (log : List Record) → slice_get ls k ≡ Some log → Good (setup_of (run config es).config k) log
  left_is_good = left_are_good Allowed Good config es ls may
      (left_good Allowed Sound Good keeps opens follows logs good_opens (run config es) sound)
      (logged_good Allowed Sound Good keeps opens follows logs good_opens (run config es) sound) allowed

-- each log is taken by an opening of its shard, and of the kinds that steps log
left_taken : (config : Config) (es : List Event) (ls : List (List Record)) → lawful config es ≡ true → MayBeLeft config es ls →
    (n : ℕ) (log : List Record) → slice_get ls n ≡ Some log → IsTaken (setup_of (run config es).config n) log
left_taken config es ls fair may =
    left_is_good InLimit IsWell IsTaken keeps opens taken_follows logs opening_keeps config es ls may (always_well config es fair)
    (in_limit (run config es))

-- an opening of each shard takes its log
pub recovered : (config : Config) (es : List Event) (ls : List (List Record)) → lawful config es ≡ true → MayBeLeft config es ls → AllAccepted config ls
recovered config es ls fair may =
    subst (λ c. AllAccepted c ls) (run_settings config es) (λ n log there. (left_taken config es ls fair may n log there).0)

pub all_logged : (config : Config) (es : List Event) (ls : List (List Record)) → lawful config es ≡ true → MayBeLeft config es ls →
    (n : ℕ) (log : List Record) → slice_get ls n ≡ Some log → AreLogged log
all_logged config es ls fair may n log there = each_logged log (left_taken config es ls fair may n log there).1
