-- What holds of a single running shard is kept by its steps and its openings, so it holds at every moment of a run.
use Rattle.std.proofs.Common.{◌≡◌, ◌≤◌, inl, ℕ, ◌+◌, Bool, true, false, cond, ◌&&◌, ◌||◌, nat_eq, nat_le, nat_lt, List, [], ◌∷◌, ◌++◌, length, Option}
use Rattle.std.proofs.Common.{Some, None}
use Rattle.std.proofs.Common.{slice_get, refl, sym, ap, subst, ◌∙◌, arith}
use Rattle.std.specs.Prelude.{Ok, Err, option_map}
use Rattle.std.proofs.lemmas.Bool.{leb-true, and_from, and_parts}
use Rattle.std.proofs.lemmas.List.{append-nil}
use Rattle.units.specs.Limits.{most_rows}
use Rattle.units.specs.ById.{IsById}
use Rattle.units.specs.declared.fault.Fault.TheVariants.{Stopped, TimeSpent}
use Rattle.units.specs.declared.setup.Setup.{Setup}
use Rattle.truetime.specs.Interval.{Interval}
use Rattle.truetime.specs.Reading.{is_honest}
use Rattle.record.specs.Accepted.{Accepted, taken, followed, begins, follows, belongs, fits_beside}
use Rattle.record.specs.Facts.{Facts, facts_of, learn}
use Rattle.record.specs.declared.record.Record.{Record}
use Rattle.record.proofs.LearnAgrees.{accepted_follows, followed_more}
use Rattle.facts.specs.Rules.{follows_facts}
use Rattle.facts.specs.Stages.{follows_head, follows_next, stage_of}
use Rattle.facts.specs.declared.stage.Stage.{Stage}
use Rattle.facts.proofs.Known.{follows_as_known}
use Rattle.message.specs.declared.message.Envelope.{Envelope}
use Rattle.message.specs.declared.message.Input.{Input}
use Rattle.protocol.specs.Rows.{Memory, rebuilt}
use Rattle.protocol.specs.Plan.{time_limit, Plan, Planned, start_of_step, carried}
use Rattle.protocol.specs.Step.{Stepped, Refuses, Does, plan_input, stepped, step_within, facts_after, IsInLimit}
use Rattle.protocol.specs.OwnKeys.{all_own}
use Rattle.protocol.specs.Sound.{IsSound}
use Rattle.protocol.proofs.FitsBeside.{few_opened, logged_fits_beside}
use Rattle.protocol.proofs.Follows.{logged_follows}
use Rattle.protocol.proofs.OpeningSound.{opening_keeps_sound}
use Rattle.protocol.proofs.OwnKeys.{logged_belongs, own-rebuilt, step_keeps_own}
use Rattle.protocol.proofs.RowChanges.{by_id-claims}
use Rattle.protocol.proofs.StepSound.{fresh_is_sound, step_keeps_sound}
use Rattle.protocol.proofs.WithinLimit.{stays_within}
use Rattle.world.specs.Lawful.{lawful, may_act, may_crash, may_do, may_happen}
use Rattle.world.specs.Steady.{AlwaysSteady}
use Rattle.world.specs.World.{World, ShardNow, State, Runs, IsStopped, IsDown, Area, Unsure, View, shown_records, read_area, read_log, setup_of, gate_of}
use Rattle.world.specs.World.{has_place, new_area, step_of_opening, step_of_turnover}
use Rattle.world.specs.World.{input_of, step_with, effect, wanted, fresh_log, run}
use Rattle.world.specs.declared.event.Act.{Act}
use Rattle.world.specs.declared.event.Config.{Config}
use Rattle.world.specs.declared.event.Doing.{Doing}
use Rattle.world.specs.declared.event.Event.{Event}
use Rattle.world.proofs.Openings.{opening_taken, taken_more}
use Rattle.world.proofs.Rooms.{done_wanted}
use Rattle.world.proofs.StepKinds.{are_logged, follows_logged, logged_more}
use Rattle.world.proofs.Sounds.{ActAllowed, DoingAllowed, SoundShard, SoundWorld, always_sound, read_left}

-- ---- one shard

-- its lock table, its facts and its rows agree, its rows speak of its own keys alone, and they are not too many
pub record IsWell (setup : Setup) (f : Facts) (m : Memory) : Type 0 where
  pub sound : IsSound setup.shard f m
  pub own : all_own setup m.rows ≡ true
  pub few : length m.rows ≤ most_rows

pub up : (setup : Setup) (f : Facts) (m : Memory) → IsWell setup f m → IsById (λ r. r.txn) m.rows
up setup f m well = by_id-claims m.rows well.sound.table.order

pub keeps : (setup : Setup) (f : Facts) (m : Memory) (now : Interval) (i : Input) (p : Plan) → IsInLimit i → IsWell setup f m →
    plan_input setup (start_of_step most_rows setup f m) now i ≡ Ok p → IsWell setup (facts_after f p.logged) (carried p m)
keeps setup f m now i p limit well e = record {
  sound = step_keeps_sound most_rows setup f m now i p limit well.sound e;
  own = step_keeps_own most_rows setup f m now i p well.own e;
  few = stays_within most_rows setup f m now i p (up setup f m well) well.few e;
}

pub opens : (setup : Setup) (f : Facts) (m : Memory) → IsWell setup f m → IsWell setup (learn f (Record.Opened (f.epoch + 1))) (rebuilt f)
unfolding learn rebuilt
opens setup f m well = record {
  sound = opening_keeps_sound setup.shard f m well.sound;
  own = own-rebuilt setup f;
  few = let less = few_opened setup.shard f m well.sound in let few = well.few in omega (arith, less, few);
}

pub fresh : (setup : Setup) → IsWell setup (facts_of fresh_log) (rebuilt (facts_of fresh_log))
unfolding rebuilt facts_of
fresh setup = record { sound = fresh_is_sound setup.shard; own = refl; few = omega arith }

-- the log is taken by an opening, and of the kinds that steps log
abbrev pub IsTaken : Setup → List Record → Type 0
IsTaken setup log = (taken setup log ≡ Accepted) × (are_logged log ≡ true)

pub taken_follows : (setup : Setup) (log : List Record) → IsTaken setup log → followed setup.shard log ≡ true
taken_follows setup log h = accepted_follows setup log h.0

pub opening_keeps : (setup : Setup) (log : List Record) → IsTaken setup log → IsTaken setup (log ++ Record.Opened ((facts_of log).epoch + 1) ∷ [])
opening_keeps setup log h = (opening_taken setup log h.0, logged_more log (Record.Opened ((facts_of log).epoch + 1)) h.1 refl)

-- what follows as a step's record may come next
step_next : (shard : ℕ) (stage : Stage) (f : Facts) (r : Record) → follows_facts shard f r ≡ true → follows_next shard stage f r ≡ true
unfolding follows_next
step_next shard stage f r h = ap (λ b. b || follows_head shard stage f r) h

-- what a step logs is taken
takes : (setup : Setup) (log : List Record) (m : Memory) (now : Interval) (i : Input) (p : Plan) (r : Record) → IsTaken setup log →
    IsWell setup (facts_of log) m → plan_input setup (start_of_step most_rows setup (facts_of log) m) now i ≡ Ok p → p.logged ≡ Some r →
    IsTaken setup (log ++ r ∷ [])
takes setup log m now i p r h well e logged =
    let step_follows : follows_facts setup.shard (facts_of log) r ≡ true = logged_follows most_rows setup (facts_of log) m now i p r well.sound e logged in
    let with_it : followed setup.shard (log ++ r ∷ []) ≡ true =
    follows_as_known setup.shard log r (accepted_follows setup log h.0) ∙ step_next setup.shard (stage_of log) (facts_of log) r step_follows in
    let next = and_parts (followed setup.shard log) (begins log r && follows setup.shard log r) (sym (followed_more setup.shard log r) ∙ with_it) in (
      taken_more setup log r h.0 (record {
        own = logged_belongs most_rows setup (facts_of log) m now i p r well.own e logged;
        fits = and_from (begins log r && follows setup.shard log r) (fits_beside log r) next.1
            (logged_fits_beside setup log m now i p r well.sound well.few e logged);
      }),
      logged_more log r h.1 (follows_logged setup.shard (facts_of log) r step_follows),
    )

pub logs : (setup : Setup) (log : List Record) (m : Memory) (now : Interval) (i : Input) (p : Plan) (r : Record) → IsInLimit i → IsTaken setup log →
    IsWell setup (facts_of log) m → plan_input setup (start_of_step most_rows setup (facts_of log) m) now i ≡ Ok p → p.logged ≡ Some r →
    IsTaken setup (log ++ r ∷ [])
logs setup log m now i p r limit h well e logged = takes setup log m now i p r h well e logged

-- the first opening is taken
pub fresh_taken : (setup : Setup) → IsTaken setup fresh_log
unfolding taken follows belongs fits_beside
fresh_taken setup = (refl, refl)

-- ---- the events

-- what a shard is given names no timestamp above the limit
abbrev pub InLimit : Setup → Input → Type 0
InLimit setup i = IsInLimit i

given : (now : Interval) (i : Input) (p : Interval × Input) → IsInLimit i → ◌≡◌ {A = Option (Interval × Input)} (Some (now, i)) (Some p) → IsInLimit p.1
given now i p h e = subst (λ (q : Interval × Input). IsInLimit q.1) (some_input (now, i) p e) h
  where
    some_input : (a b : Interval × Input) → ◌≡◌ {A = Option (Interval × Input)} (Some a) (Some b) → a ≡ b
    some_input a b k = cc

message_limit : (setup : Setup) (bag : List Envelope) (m : ℕ) (now : Interval) → DoingAllowed InLimit setup bag (Doing.Take m now)
message_limit setup bag m now p same = by_value (slice_get bag m) same
  where
    by_value : (o : Option Envelope) → option_map (λ (e : Envelope). (now, Input.Deliver e.message)) o ≡ Some p → IsInLimit p.1
    by_value None k = cc
    by_value (Some e) k = given now (Input.Deliver e.message) p tt k

pub doing_limit : (setup : Setup) (w : World) (time n : ℕ) (doing : Doing) → may_do w time n doing ≡ true → DoingAllowed InLimit setup w.bag doing
doing_limit setup w time n (Doing.Take m now) may p same = message_limit setup w.bag m now p same
doing_limit setup w time n (Doing.Resume now) may p same = given now Input.Resume p tt same
doing_limit setup w time n (Doing.Settle t now) may p same = given now (Input.Settle t) p tt same
doing_limit setup w time n (Doing.Advance at now) may p same =
    given now (Input.Advance at) p (leb-true at time_limit (and_parts (is_honest time now) (nat_le at time_limit) may).1) same
doing_limit setup w time n (Doing.Forget at now) may p same =
    given now (Input.Forget at) p (leb-true at time_limit (and_parts (is_honest time now) (nat_le at time_limit) may).1) same
doing_limit setup w time n (Doing.Retire below now) may p same = given now (Input.Retire below) p tt same
doing_limit setup w time n (Doing.Nudge t now) may p same = given now (Input.Nudge t) p tt same
doing_limit setup w time n Doing.Turn may p same = cc
doing_limit setup w time n Doing.Open may p same = cc

pub limits : (w : World) (time : ℕ) (a : Act) → may_act w time a ≡ true → ActAllowed InLimit w a
unfolding may_act
limits w time (Act.At n doing) may = doing_limit (setup_of w.config n) w time n doing (and_parts (nat_lt n (length w.shards)) (may_do w time n doing) may).1
limits w time (Act.CrashIn n call fate named doing) may =
    let p = and_parts (nat_lt n (length w.shards) && nat_eq n named && may_do w time n doing) (may_crash w n doing) may in
    doing_limit (setup_of w.config n) w time n doing (and_parts (nat_lt n (length w.shards) && nat_eq n named) (may_do w time n doing) p.0).1
limits w time (Act.FailIn n call named doing) may = doing_limit (setup_of w.config n) w time n doing
    (and_parts (nat_lt n (length w.shards) && nat_eq n named) (may_do w time n doing) may).1
limits w time (Act.Deliver m now) may = λ e n is goes. message_limit (setup_of w.config n) w.bag m now
limits w time _ may = tt

-- so is what each event gives
pub in_limit : (w : World) (e : Event) → may_happen w e ≡ true → ActAllowed InLimit w e.act
in_limit w e may = limits w e.time e.act (and_parts (nat_le w.time e.time) (may_act w e.time e.act) may).1

-- ---- whole runs

-- all is well with a shard, and its log is taken
abbrev pub WellShard : Setup → ShardNow → Type 0
WellShard setup s = SoundShard InLimit IsWell IsTaken keeps opens taken_follows logs opening_keeps setup s

-- so with each shard of a world
abbrev pub WellWorld : World → Type 0
WellWorld w = SoundWorld InLimit IsWell IsTaken keeps opens taken_follows logs opening_keeps w

pub always_well : (config : Config) (es : List Event) → lawful config es ≡ true → WellWorld (run config es)
always_well = always_sound InLimit IsWell IsTaken keeps opens taken_follows logs opening_keeps limits fresh fresh_taken

-- ---- what is logged follows, whatever timestamp an input names

-- a shard by its fields
abbrev pub shard_with : List Record → Area → Unsure → State → List View → ShardNow
shard_with log area unsure state views = record { log = log; area = area; unsure = unsure; state = state; views = views }

logged_is : (a b : Option Record) (m q : Memory) (out more : List Envelope) → Does a m out ≡ Does b q more → a ≡ b
logged_is a b m q out more e = cc

some_record : (a b : Record) → Some a ≡ Some b → a ≡ b
some_record a b e = cc

step_logs : (setup : Setup) (log : List Record) (area : Area) (unsure : Unsure) (st : State) (views : List View) (o : Option (Interval × Input)) (r : Record)
    (memory : Memory) (out : List Envelope) →
    WellShard setup (shard_with log area unsure st views) →
    (elim st as (λ x. Stepped) [ Runs m ↦ step_with setup (facts_of log) m o | _ ↦ Refuses Stopped ]) ≡ Does (Some r) memory out →
    IsTaken setup ((log ++ shown_records unsure) ++ r ∷ [])
unfolding step_within
step_logs setup log area unsure (IsStopped m) views o r memory out well e = cc
step_logs setup log area unsure IsDown views o r memory out well e = cc
step_logs setup log area unsure (Runs m) views None r memory out well e = cc
step_logs setup log area unsure (Runs m) views (Some q) r memory out well e =
    by_plan (plan_input setup (start_of_step most_rows setup (facts_of log) m) q.0 q.1) refl e
  where
    log_is : log ++ shown_records unsure ≡ log
    log_is = ap (λ u. log ++ shown_records u) well.state.1 ∙ append-nil log

    by_plan : (p : Planned) → plan_input setup (start_of_step most_rows setup (facts_of log) m) q.0 q.1 ≡ p → stepped m p ≡ Does (Some r) memory out →
        IsTaken setup ((log ++ shown_records unsure) ++ r ∷ [])
    by_plan (Err f) is k = cc
    by_plan (Ok p) is k =
        subst (λ l. IsTaken setup (l ++ r ∷ [])) (sym log_is)
        (takes setup log m q.0 q.1 p r (well.left log (inl refl)).good well.state.0 is (logged_is p.logged (Some r) (carried p m) memory p.outbox out k))

module _ (config : Config) (bag : List Envelope) (n : ℕ) (s : ShardNow) (well : WellShard (setup_of config n) s) where
  -- a read of the disk gives a log that is taken
  pub good : IsTaken (setup_of config n) (read_log s)
  good = (well.left (read_log s) (read_left InLimit IsWell IsTaken keeps opens taken_follows logs opening_keeps config bag n s well)).good

  opening_logs : (r : Record) (memory : Memory) (out : List Envelope) → step_of_opening (facts_of (read_log s)) ≡ Does (Some r) memory out →
      IsTaken (setup_of config n) (read_log s ++ r ∷ [])
  unfolding step_of_opening
  opening_logs r memory out e = by_test (nat_lt (facts_of (read_log s)).epoch time_limit) e
    where
      by_test : (b : Bool) → cond b (Does (Some (Record.Opened ((facts_of (read_log s)).epoch + 1))) (rebuilt (facts_of (read_log s))) [])
          (Refuses TimeSpent) ≡ Does (Some r) memory out →
          IsTaken (setup_of config n) (read_log s ++ r ∷ [])
      by_test false k = cc
      by_test true k =
          subst (λ q. IsTaken (setup_of config n) (read_log s ++ q ∷ []))
          (some_record (Record.Opened ((facts_of (read_log s)).epoch + 1)) r
          (logged_is (Some (Record.Opened ((facts_of (read_log s)).epoch + 1))) (Some r) (rebuilt (facts_of (read_log s))) memory [] out k))
          (opening_keeps (setup_of config n) (read_log s) good)

  wanted_logs : (doing : Doing) (r : Record) (memory : Memory) (out : List Envelope) → wanted (setup_of config n) bag s doing ≡ Does (Some r) memory out →
      IsTaken (setup_of config n) (read_log s ++ r ∷ [])
  unfolding wanted
  wanted_logs Doing.Open r memory out e = by_state s.state e
    where
      by_state : (st : State) → (elim st as (λ x. Stepped) [ Runs m ↦ Refuses Stopped | _ ↦ step_of_opening (facts_of (read_log s)) ]) ≡
          Does (Some r) memory out →
          IsTaken (setup_of config n) (read_log s ++ r ∷ [])
      by_state (Runs m) k = cc
      by_state (IsStopped m) k = opening_logs r memory out k
      by_state IsDown k = opening_logs r memory out k
  wanted_logs (Doing.Take m now) r memory out e = step_logs (setup_of config n) s.log s.area s.unsure s.state s.views
      (input_of bag (Doing.Take m now)) r memory out well e
  wanted_logs (Doing.Resume now) r memory out e = step_logs (setup_of config n) s.log s.area s.unsure s.state s.views
      (input_of bag (Doing.Resume now)) r memory out well e
  wanted_logs (Doing.Settle t now) r memory out e = step_logs (setup_of config n) s.log s.area s.unsure s.state s.views
      (input_of bag (Doing.Settle t now)) r memory out well e
  wanted_logs (Doing.Advance at now) r memory out e = step_logs (setup_of config n) s.log s.area s.unsure s.state s.views
      (input_of bag (Doing.Advance at now)) r memory out well e
  wanted_logs (Doing.Forget at now) r memory out e = step_logs (setup_of config n) s.log s.area s.unsure s.state s.views
      (input_of bag (Doing.Forget at now)) r memory out well e
  wanted_logs (Doing.Retire below now) r memory out e = step_logs (setup_of config n) s.log s.area s.unsure s.state s.views
      (input_of bag (Doing.Retire below now)) r memory out well e
  wanted_logs (Doing.Nudge t now) r memory out e = step_logs (setup_of config n) s.log s.area s.unsure s.state s.views
      (input_of bag (Doing.Nudge t now)) r memory out well e
  wanted_logs Doing.Turn r memory out e = absurd (by_state s.state e)
    where
      by_place : (m : Memory) (b : Bool) → cond b (Does None m []) (Refuses TimeSpent) ≡ Does (Some r) memory out → ⊥
      by_place m true k = cc
      by_place m false k = cc

      by_state : (st : State) → (elim st as (λ x. Stepped) [ Runs m ↦ step_of_turnover s m | _ ↦ Refuses Stopped ]) ≡ Does (Some r) memory out → ⊥
      by_state (Runs m) k = by_place m (has_place (read_area s).slot (new_area s)) k
      by_state (IsStopped m) k = cc
      by_state IsDown k = cc

  pub doing_logs : (doing : Doing) (r : Record) (memory : Memory) (out : List Envelope) → effect (setup_of config n) bag s doing ≡ Does (Some r) memory out →
      IsTaken (setup_of config n) (read_log s ++ r ∷ [])
  unfolding effect
  doing_logs doing r memory out e =
      wanted_logs doing r memory out (done_wanted (gate_of (read_area s)) (wanted (setup_of config n) bag s doing) (Some r) memory out e)

-- every lawful run is steady
pub is_steady : AlwaysSteady
is_steady config es fair =
    let well = always_well config es fair in
    let v : World = run config es in
    record {
      follows = λ n s log there may. taken_follows (setup_of v.config n) log ((well n s there).left log may).good;
      logged = λ n s doing r memory out there e.
          taken_follows (setup_of v.config n) (read_log s ++ r ∷ []) (doing_logs v.config v.bag n s (well n s there) doing r memory out e);
      takes = λ n s there. (good v.config v.bag n s (well n s there)).0;
    }
