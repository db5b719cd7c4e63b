-- What each step of a shard keeps of its facts and its memory, and each opening brings back, holds at every moment of a run. A step may rest
-- on what is given to its shard.
use Rattle.std.proofs.Common.{◌≡◌, true, ◌+◌, ℕ, List, [], ◌∷◌, ◌++◌, Option, Some, None, slice_get, sym, subst, refl}
use Rattle.std.specs.Prelude.{Ok}
use Rattle.units.specs.Limits.{most_rows}
use Rattle.units.specs.declared.setup.Setup.{Setup}
use Rattle.truetime.specs.Interval.{Interval}
use Rattle.record.specs.Accepted.{followed}
use Rattle.record.specs.Facts.{Facts, facts_of, learn}
use Rattle.record.proofs.LearnAgrees.{learn_agrees}
use Rattle.record.specs.declared.record.Record.{Record}
use Rattle.message.specs.declared.message.Envelope.{Envelope}
use Rattle.message.specs.declared.message.Input.{Input}
use Rattle.protocol.specs.Rows.{Memory, rebuilt}
use Rattle.protocol.specs.Plan.{Plan, start_of_step, carried}
use Rattle.protocol.specs.Step.{Does, facts_after, plan_input}
use Rattle.world.specs.Lawful.{lawful, may_act}
use Rattle.world.specs.World.{World, ShardNow, read_log, setup_of, effect, fresh_log, acts, run}
use Rattle.world.specs.Headline.{MayLeaveLog}
use Rattle.world.specs.declared.event.Act.{Act}
use Rattle.world.specs.declared.event.Config.{Config}
use Rattle.world.specs.declared.event.Doing.{Doing}
use Rattle.world.specs.declared.event.Event.{Event}
use Rattle.world.proofs.LogSounds.{ActAllowed as act_allowed_by, DoingAllowed as doing_allowed_by, SoundLog as sound_log, SoundShard as sound_shard}
use Rattle.world.proofs.LogSounds.{read_left as read_is_left, acts_sound as acts_are_sound, left_good as left_is_good, logged_good as logged_is_good}
use Rattle.world.proofs.LogSounds.{always_sound as always_are_sound}
use Rattle.world.proofs.Places.{with_record}

-- what a doing gives to a shard is allowed
abbrev pub DoingAllowed : (Setup → Input → Type 0) → Setup → List Envelope → Doing → Type 0
DoingAllowed = doing_allowed_by

-- so what an act gives
abbrev pub ActAllowed : (Setup → Input → Type 0) → World → Act → Type 0
ActAllowed = act_allowed_by

module _ (Allowed : Setup → Input → Type 0) (Sound : Setup → Facts → Memory → Type 0) (Good : Setup → List Record → Type 0)
    (keeps : (setup : Setup) (f : Facts) (m : Memory) (now : Interval) (i : Input) (p : Plan) → Allowed setup i → Sound setup f m →
    plan_input setup (start_of_step most_rows setup f m) now i ≡ Ok p → Sound setup (facts_after f p.logged) (carried p m))
    (opens : (setup : Setup) (f : Facts) (m : Memory) → Sound setup f m → Sound setup (learn f (Record.Opened (f.epoch + 1))) (rebuilt f))
    (follows : (setup : Setup) (log : List Record) → Good setup log → followed setup.shard log ≡ true)
    (logs : (setup : Setup) (log : List Record) (m : Memory) (now : Interval) (i : Input) (p : Plan) (r : Record) → Allowed setup i → Good setup log →
    Sound setup (facts_of log) m → plan_input setup (start_of_step most_rows setup (facts_of log) m) now i ≡ Ok p → p.logged ≡ Some r
    → Good setup (log ++ r ∷ []))
    (good_opens : (setup : Setup) (log : List Record) → Good setup log → Good setup (log ++ Record.Opened ((facts_of log).epoch + 1) ∷ [])) where
  -- the facts of a log and the memory are sound
  abbrev OfLog : Setup → List Record → Memory → Type 0
  OfLog setup log m = Sound setup (facts_of log) m

  -- one more record
  more : (setup : Setup) (log : List Record) (r : Record) (m : Memory) → Good setup (log ++ r ∷ []) → Sound setup (learn (facts_of log) r) m →
      OfLog setup (log ++ r ∷ []) m
  more setup log r m good sound = subst (λ f. Sound setup f m) (sym (learn_agrees setup.shard log r (follows setup (log ++ r ∷ []) good))) sound

  pub keeps_log : (setup : Setup) (log : List Record) (m : Memory) (now : Interval) (i : Input) (p : Plan) → Allowed setup i → Good setup log →
      OfLog setup log m → plan_input setup (start_of_step most_rows setup (facts_of log) m) now i ≡ Ok p →
      OfLog setup (with_record log p.logged) (carried p m)
  keeps_log setup log m now i p allowed good sound e = by_record p.logged refl (keeps setup (facts_of log) m now i p allowed sound e)
    where
      by_record : (o : Option Record) → p.logged ≡ o → Sound setup (facts_after (facts_of log) o) (carried p m) →
          OfLog setup (with_record log o) (carried p m)
      by_record None is kept = kept
      by_record (Some r) is kept = more setup log r (carried p m) (logs setup log m now i p r allowed good sound e is) kept

  pub opens_log : (setup : Setup) (log : List Record) (m : Memory) → Good setup log → OfLog setup log m →
      OfLog setup (log ++ Record.Opened ((facts_of log).epoch + 1) ∷ []) (rebuilt (facts_of log))
  opens_log setup log m good sound = more setup log (Record.Opened ((facts_of log).epoch + 1)) (rebuilt (facts_of log)) (good_opens setup log good)
      (opens setup (facts_of log) m sound)

  -- a log with which some memory is sound
  abbrev pub SoundLog : Setup → List Record → Type 0
  SoundLog setup log = sound_log Allowed OfLog Good keeps_log opens_log logs good_opens setup log

  -- each log that a crash may leave of it is sound, and so is its memory
  abbrev pub SoundShard : Setup → ShardNow → Type 0
  SoundShard setup s = sound_shard Allowed OfLog Good keeps_log opens_log logs good_opens setup s

  -- a read of the disk
  pub read_left : (config : Config) (bag : List Envelope) (n : ℕ) (s : ShardNow) → SoundShard (setup_of config n) s → MayLeaveLog s (read_log s)
  read_left config bag n s sound = read_is_left Allowed OfLog Good keeps_log opens_log logs good_opens config bag n s sound

  -- each shard is sound
  abbrev pub SoundWorld : World → Type 0
  SoundWorld w = (n : ℕ) (s : ShardNow) → slice_get w.shards n ≡ Some s → SoundShard (setup_of w.config n) s

  module _ (w : World) (sound : SoundWorld w) where
    pub acts_sound : (a : Act) → ActAllowed Allowed w a → SoundWorld ((acts w a).0)
    acts_sound a allowed = acts_are_sound Allowed OfLog Good keeps_log opens_log logs good_opens w sound a allowed

    -- each log that a crash may leave is good, between steps and within one
    pub left_good : (n : ℕ) (s : ShardNow) (log : List Record) → slice_get w.shards n ≡ Some s → MayLeaveLog s log → Good (setup_of w.config n) log
    left_good n s log there may = left_is_good Allowed OfLog Good keeps_log opens_log logs good_opens w sound n s log there may

    pub logged_good : (n : ℕ) (s : ShardNow) (doing : Doing) (r : Record) (memory : Memory) (out : List Envelope) → slice_get w.shards n ≡ Some s →
        DoingAllowed Allowed (setup_of w.config n) w.bag doing →
        effect (setup_of w.config n) w.bag s doing ≡ Does (Some r) memory out → Good (setup_of w.config n) (read_log s ++ r ∷ [])
    logged_good n s doing r memory out there allowed e =
        logged_is_good Allowed OfLog Good keeps_log opens_log logs good_opens w sound n s doing r memory out there allowed e

  module _ (limits : (w : World) (time : ℕ) (a : Act) → may_act w time a ≡ true → ActAllowed Allowed w a)
      (fresh : (setup : Setup) → Sound setup (facts_of fresh_log) (rebuilt (facts_of fresh_log))) (good_fresh : (setup : Setup) → Good setup fresh_log) where
    -- each shard is sound at every moment
    pub always_sound : (config : Config) (es : List Event) → lawful config es ≡ true → SoundWorld (run config es)
    always_sound config es fair =
        always_are_sound Allowed OfLog Good keeps_log opens_log logs good_opens limits fresh good_fresh config es fair
