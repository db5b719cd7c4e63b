-- What each step of a shard keeps of its log and its memory, and each opening brings back, holds at every moment of a run. A
-- step may rest on what is given to its shard: `Allowed` says what that is.
use Rattle.std.proofs.Common.{◌≡◌, nat_le, inl, inr, ℕ, suc, ◌+◌, Bool, true, false, cond, ◌&&◌, nat_lt, List, [], ◌∷◌, ◌++◌, length, Option, Some}
use Rattle.std.proofs.Common.{None, slice_get, refl, sym, ap, subst, ◌∙◌}
use Rattle.std.specs.Prelude.{Ok, Err, option_to_list}
use Rattle.std.proofs.lemmas.Bool.{cases_eq, and_parts}
use Rattle.std.proofs.lemmas.List.{append-nil}
use Rattle.units.specs.Limits.{most_rows}
use Rattle.units.specs.Lists.{replaced}
use Rattle.units.specs.declared.fault.Fault.{Fault}
use Rattle.units.specs.declared.fault.Fault.TheVariants.{Stopped, Stranger, Device, TimeSpent}
use Rattle.units.specs.declared.setup.Setup.{Setup}
use Rattle.truetime.specs.Interval.{Interval}
use Rattle.disk.specs.declared.plan.Fate.{Fate}
use Rattle.record.specs.Facts.{facts_of}
use Rattle.record.specs.declared.record.Record.{Record}
use Rattle.message.specs.declared.message.Address.{Address}
use Rattle.message.specs.declared.message.Address.TheVariants.{Shard, Session}
use Rattle.message.specs.declared.message.Envelope.{Envelope}
use Rattle.message.specs.declared.message.Input.{Input}
use Rattle.protocol.specs.Rows.{Memory, rebuilt}
use Rattle.protocol.specs.Plan.{time_limit, Plan, Planned, start_of_step, carried}
use Rattle.protocol.specs.Step.{step_within, Stepped, Refuses, Does, plan_input, stepped}
use Rattle.world.specs.Lawful.{lawful, may_happen, may_act}
use Rattle.session.specs.Sessions.{reads, buffers, closes, gives_up}
use Rattle.gatelog.specs.Gates.{is_left, is_read, opens_gate}
use Rattle.world.specs.World.{is_left_turn, is_read_turn}
use Rattle.world.specs.World.{World, ShardNow, State, Runs, IsStopped, IsDown, Area, Unsure, Nothing, Shown, Hidden, TurnShown, TurnHidden, shown_records}
use Rattle.world.specs.World.{read_area, read_log, setup_of, gate_of, has_place, new_area, failed_turn, turns, area_left_in}
use Rattle.world.specs.World.{step_of_opening, input_of, step_with, effect, wanted, where_room, has_room, finished, crashed, crashed_in, failed_in}
use Rattle.world.specs.World.{left_of, left_by_refused, step_of_turnover, with_records}
use Rattle.world.specs.World.{stopped, set_shard, fresh_log, fresh_shard, After, client_of, put_out, refused, if_open}
use Rattle.world.specs.World.{if_not_over, to_session, refused_doing, did, did_with_failure, at_shard, do_at, deliver_to, look_noted, look_shard}
use Rattle.world.specs.World.{look_at_view, acts, happens, start, run}
use Rattle.world.specs.Headline.{IsUnsure, MayLeaveLog}
use Rattle.world.specs.declared.event.Act.{Act}
use Rattle.world.specs.declared.event.Config.{Config}
use Rattle.world.specs.declared.event.Doing.{Doing}
use Rattle.world.specs.declared.event.Event.{Event}
use Rattle.world.specs.declared.event.Reply.{Reply}
use Rattle.world.proofs.Along.{along}
use Rattle.world.proofs.Untouched.{Kept, if_open_keeps, if_not_over_keeps, to_session_keeps, noted_keeps}
use Rattle.world.proofs.Places.{get-replaced_same, get-replaced_other, replicated, with_record}

-- what a doing gives to a shard is allowed
abbrev pub DoingAllowed : (Setup → Input → Type 0) → Setup → List Envelope → Doing → Type 0
DoingAllowed Allowed setup bag doing = (p : Interval × Input) → input_of bag doing ≡ Some p → Allowed setup p.1

-- so what an act gives
abbrev pub ActAllowed : (Setup → Input → Type 0) → World → Act → Type 0
ActAllowed Allowed w (Act.At n doing) = DoingAllowed Allowed (setup_of w.config n) w.bag doing
ActAllowed Allowed w (Act.CrashIn n call fate named doing) = DoingAllowed Allowed (setup_of w.config n) w.bag doing
ActAllowed Allowed w (Act.FailIn n call named doing) = DoingAllowed Allowed (setup_of w.config n) w.bag doing
ActAllowed Allowed w (Act.Deliver m now) = (e : Envelope) (n : ℕ) → slice_get w.bag m ≡ Some e → e.to ≡ Shard n →
    DoingAllowed Allowed (setup_of w.config n) w.bag (Doing.Take m now)
ActAllowed Allowed w _ = Unit {0}

module _ (Allowed : Setup → Input → Type 0) (Sound : Setup → List Record → Memory → Type 0) (Good : Setup → List Record → Type 0)
    (keeps : (setup : Setup) (log : List Record) (m : Memory) (now : Interval) (i : Input) (p : Plan) → Allowed setup i → Good setup log →
    Sound setup log m → plan_input setup (start_of_step most_rows setup (facts_of log) m) now i ≡ Ok p
    → Sound setup (with_record log p.logged) (carried p m))
    (opens : (setup : Setup) (log : List Record) (m : Memory) → Good setup log → Sound setup log m →
    Sound setup (log ++ Record.Opened ((facts_of log).epoch + 1) ∷ []) (rebuilt (facts_of log)))
    (logs : (setup : Setup) (log : List Record) (m : Memory) (now : Interval) (i : Input) (p : Plan) (r : Record) → Allowed setup i → Good setup log →
    Sound setup log m → plan_input setup (start_of_step most_rows setup (facts_of log) m) now i ≡ Ok p → p.logged ≡ Some r
    → Good setup (log ++ r ∷ []))
    (good_opens : (setup : Setup) (log : List Record) → Good setup log → Good setup (log ++ Record.Opened ((facts_of log).epoch + 1) ∷ [])) where
  -- ---- one shard

  -- a log with which some memory is sound
  pub record SoundLog (setup : Setup) (log : List Record) : Type 0 where
    pub memory : Memory
    pub sound : Sound setup log memory
    pub good : Good setup log

  abbrev SoundState : Setup → ShardNow → State → Type 0
  SoundState setup s (Runs m) = Sound setup s.log m × (s.unsure ≡ Nothing)
  SoundState setup s _ = Unit {0}

  -- each log that a crash may leave of it is sound, and so is its memory
  pub record SoundShard (setup : Setup) (s : ShardNow) : Type 0 where
    pub left : (log : List Record) → MayLeaveLog s log → SoundLog setup log
    pub state : SoundState setup s s.state

  -- a step that is done leaves a good log and a sound memory, where its input was allowed
  pub record SoundStep (L : Type 0) (setup : Setup) (log : List Record) (memory : Memory) : Type 0 where
    pub sound : L → Sound setup log memory
    pub good : L → Good setup log

  abbrev SteppedSound : Type 0 → Setup → List Record → Stepped → Type 0
  SteppedSound L setup log (Refuses f) = Unit {0}
  SteppedSound L setup log (Does logged memory out) = SoundStep L setup (with_record log logged) memory

  -- a step of a running shard
  of_plan : (L : Type 0) (setup : Setup) (log : List Record) (m : Memory) (now : Interval) (i : Input) → (L → Allowed setup i) → Good setup log →
      Sound setup log m →
      (p : Planned) → plan_input setup (start_of_step most_rows setup (facts_of log) m) now i ≡ p → SteppedSound L setup log (stepped m p)
  of_plan L setup log m now i allowed good sound (Err f) e = tt
  of_plan L setup log m now i allowed good sound (Ok p) e = record {
    sound = λ l. keeps setup log m now i p (allowed l) good sound e;
    good = λ l. by_record l p.logged refl;
  }
    where
      by_record : L → (o : Option Record) → p.logged ≡ o → Good setup (with_record log o)
      by_record l None is = good
      by_record l (Some r) is = logs setup log m now i p r (allowed l) good sound e is

  module _ (config : Config) (bag : List Envelope) (n : ℕ) (s : ShardNow) (sound : SoundShard (setup_of config n) s) where
    plain : SoundLog (setup_of config n) s.log
    plain = sound.left s.log (inl refl)

    -- a read of the disk
    pub read_left : MayLeaveLog s (read_log s)
    read_left = by_unsure s.unsure refl
      where
        by_unsure : (u : Unsure) → s.unsure ≡ u → MayLeaveLog s (s.log ++ shown_records u)
        by_unsure (Shown r) is = inr (r, subst (λ u. IsUnsure u r) (sym is) refl, refl)
        by_unsure _ is = inl (append-nil s.log)

    running : (L : Type 0) (o : Option (Interval × Input)) → ((p : Interval × Input) → o ≡ Some p → L → Allowed (setup_of config n) p.1) →
        (st : State) → s.state ≡ st →
        SteppedSound L (setup_of config n) (read_log s) (elim st as (λ x. Stepped) [
          | Runs m ↦
              step_with (setup_of config n) (facts_of s.log) m o
          | _ ↦ Refuses Stopped
        ])
    unfolding step_within
    running L o allowed (IsStopped m) is = tt
    running L o allowed IsDown is = tt
    running L None allowed (Runs m) is = tt
    running L (Some p) allowed (Runs m) is =
        let state : SoundState (setup_of config n) s (Runs m) = subst (SoundState (setup_of config n) s) is sound.state in
        let read_is : read_log s ≡ s.log = ap (λ u. s.log ++ shown_records u) state.1 ∙ append-nil s.log in
        subst (λ l. SteppedSound L (setup_of config n) l (step_with (setup_of config n) (facts_of s.log) m (Some p))) (sym read_is)
        (of_plan L (setup_of config n) s.log m p.0 p.1 (allowed p refl) plain.good state.0
        (plan_input (setup_of config n) (start_of_step most_rows (setup_of config n) (facts_of s.log) m) p.0 p.1) refl)

    -- a turnover of its log
    turned_over : (L : Type 0) (st : State) → s.state ≡ st →
        SteppedSound L (setup_of config n) (read_log s) (elim st as (λ x. Stepped) [ Runs m ↦ step_of_turnover s m | _ ↦ Refuses Stopped ])
    turned_over L (IsStopped m) is = tt
    turned_over L IsDown is = tt
    turned_over L (Runs m) is = by_test (has_place (read_area s).slot (new_area s))
      where
        by_test : (b : Bool) → SteppedSound L (setup_of config n) (read_log s) (cond b (Does None m []) (Refuses TimeSpent))
        by_test false = tt
        by_test true =
            let state : SoundState (setup_of config n) s (Runs m) = subst (SoundState (setup_of config n) s) is sound.state in
            let read_is : read_log s ≡ s.log = ap (λ u. s.log ++ shown_records u) state.1 ∙ append-nil s.log in
            subst (λ l. SoundStep L (setup_of config n) l m) (sym read_is) (record { sound = λ l. state.0; good = λ l. plain.good })

    opened : SteppedSound (Unit {0}) (setup_of config n) (read_log s) (step_of_opening (facts_of (read_log s)))
    unfolding step_of_opening
    opened = by_test (nat_lt (facts_of (read_log s)).epoch time_limit)
      where
        by_test : (b : Bool) → SteppedSound (Unit {0}) (setup_of config n) (read_log s) (cond b
            (Does (Some (Record.Opened ((facts_of (read_log s)).epoch + 1))) (rebuilt (facts_of (read_log s))) []) (Refuses TimeSpent))
        by_test false = tt
        by_test true =
            let l = sound.left (read_log s) read_left in record {
              sound = λ u. opens (setup_of config n) (read_log s) l.memory l.good l.sound;
              good = λ u. good_opens (setup_of config n) (read_log s) l.good;
            }

    wanted_sound : (doing : Doing) → SteppedSound (DoingAllowed Allowed (setup_of config n) bag doing) (setup_of config n) (read_log s)
        (wanted (setup_of config n) bag s doing)
    unfolding wanted
    wanted_sound Doing.Open = by_state s.state
      where
        opened_so : (st : Stepped) → SteppedSound (Unit {0}) (setup_of config n) (read_log s) st →
            SteppedSound (DoingAllowed Allowed (setup_of config n) bag Doing.Open) (setup_of config n) (read_log s) st
        opened_so (Refuses f) e = tt
        opened_so (Does logged memory out) e = record { sound = λ l. e.sound tt; good = λ l. e.good tt }

        by_state : (st : State) → SteppedSound (DoingAllowed Allowed (setup_of config n) bag Doing.Open) (setup_of config n) (read_log s)
            (elim st as (λ x. Stepped) [ Runs m ↦ Refuses Stopped | _ ↦ step_of_opening (facts_of (read_log s)) ])
        by_state (Runs m) = tt
        by_state (IsStopped m) = opened_so (step_of_opening (facts_of (read_log s))) opened
        by_state IsDown = opened_so (step_of_opening (facts_of (read_log s))) opened
    wanted_sound (Doing.Take m now) = running (DoingAllowed Allowed (setup_of config n) bag (Doing.Take m now)) (input_of bag (Doing.Take m now))
        (λ p e l. l p e) s.state refl
    wanted_sound (Doing.Resume now) = running (DoingAllowed Allowed (setup_of config n) bag (Doing.Resume now)) (input_of bag (Doing.Resume now))
        (λ p e l. l p e) s.state refl
    wanted_sound (Doing.Settle t now) = running (DoingAllowed Allowed (setup_of config n) bag (Doing.Settle t now))
        (input_of bag (Doing.Settle t now)) (λ p e l. l p e) s.state refl
    wanted_sound (Doing.Advance at now) = running (DoingAllowed Allowed (setup_of config n) bag (Doing.Advance at now))
        (input_of bag (Doing.Advance at now)) (λ p e l. l p e) s.state refl
    wanted_sound (Doing.Forget at now) = running (DoingAllowed Allowed (setup_of config n) bag (Doing.Forget at now))
        (input_of bag (Doing.Forget at now)) (λ p e l. l p e) s.state refl
    wanted_sound (Doing.Retire below now) = running (DoingAllowed Allowed (setup_of config n) bag (Doing.Retire below now))
        (input_of bag (Doing.Retire below now)) (λ p e l. l p e) s.state refl
    wanted_sound (Doing.Nudge t now) = running (DoingAllowed Allowed (setup_of config n) bag (Doing.Nudge t now)) (input_of bag (Doing.Nudge t now))
        (λ p e l. l p e) s.state refl
    wanted_sound Doing.Turn = turned_over (DoingAllowed Allowed (setup_of config n) bag Doing.Turn) s.state refl

    by_room : (L : Type 0) (gate : ℕ) (st : Stepped) → SteppedSound L (setup_of config n) (read_log s) st →
        SteppedSound L (setup_of config n) (read_log s) (where_room gate st)
    by_room L gate (Refuses f) k = tt
    by_room L gate (Does None memory out) k = k
    by_room L gate (Does (Some r) memory out) k = by_test (has_room gate r)
      where
        by_test : (b : Bool) → SteppedSound L (setup_of config n) (read_log s) (cond b (Does (Some r) memory out) (Refuses TimeSpent))
        by_test true = k
        by_test false = tt

    pub effect_sound : (doing : Doing) → SteppedSound (DoingAllowed Allowed (setup_of config n) bag doing) (setup_of config n) (read_log s)
        (effect (setup_of config n) bag s doing)
    unfolding effect
    effect_sound doing = by_room (DoingAllowed Allowed (setup_of config n) bag doing) (gate_of (read_area s)) (wanted (setup_of config n) bag s doing)
        (wanted_sound doing)

    -- ---- the shard after it

    -- a shard without an unsure record
    sure : (new : ShardNow) → new.unsure ≡ Nothing → SoundLog (setup_of config n) new.log → SoundState (setup_of config n) new new.state →
        SoundShard (setup_of config n) new
    sure new none l state = record { left = by_left; state = state }
      where
        by_left : (log : List Record) → MayLeaveLog new log → SoundLog (setup_of config n) log
        by_left log (inl same) = subst (SoundLog (setup_of config n)) (sym same) l
        by_left log (inr unsure) = absurd (subst (λ u. IsUnsure u unsure.0) none unsure.1)

    pub crashed_sound : (log : List Record) (area : Area) → SoundLog (setup_of config n) log → SoundShard (setup_of config n) (crashed s log area)
    crashed_sound log area l = sure (crashed s log area) refl l tt

    left_sound : (fate : Fate) → SoundLog (setup_of config n) (s.log ++ left_of fate s.unsure)
    left_sound fate = sound.left (s.log ++ left_of fate s.unsure) (by_unsure s.unsure refl)
      where
        by_gate : (r : Record) → IsUnsure s.unsure r → (b : Bool) → MayLeaveLog s (s.log ++ cond b (r ∷ []) [])
        by_gate r is true = inr (r, is, refl)
        by_gate r is false = inl (append-nil s.log)

        by_unsure : (u : Unsure) → s.unsure ≡ u → MayLeaveLog s (s.log ++ left_of fate u)
        by_unsure (Shown r) is = by_gate r (subst (λ u. IsUnsure u r) (sym is) refl) (opens_gate fate)
        by_unsure (Hidden r) is = by_gate r (subst (λ u. IsUnsure u r) (sym is) refl) (opens_gate fate)
        by_unsure _ is = inl (append-nil s.log)

    with_listed : (o : Option Record) → with_record (read_log s) o ≡ read_log s ++ option_to_list o
    with_listed None = sym (append-nil (read_log s))
    with_listed (Some r) = refl

    pub finished_sound : (L : Type 0) → L → (doing : Doing) (logged : Option Record) (memory : Memory) →
        SoundStep L (setup_of config n) (with_record (read_log s) logged) memory → SoundShard (setup_of config n) (finished s doing logged memory)
    unfolding finished
    finished_sound L allowed doing logged memory e =
        let k = subst (λ l. SoundStep L (setup_of config n) l memory) (with_listed logged) e in
        sure (finished s doing logged memory) refl (record { memory = memory; sound = k.sound allowed; good = k.good allowed }) (k.sound allowed, refl)

    pub refused_left_sound : (fate : Fate) (doing : Doing) → SoundShard (setup_of config n) (left_by_refused s fate doing)
    refused_left_sound fate Doing.Open = crashed_sound (read_log s) (read_area s) (sound.left (read_log s) read_left)
    refused_left_sound fate _ = crashed_sound _ _ (left_sound fate)

    pub crashed_in_sound : (L : Type 0) → L → (call : ℕ) (fate : Fate) (doing : Doing) (st : Stepped) →
        SteppedSound L (setup_of config n) (read_log s) st → SoundShard (setup_of config n) (crashed_in s call fate doing st)
    unfolding crashed_in
    crashed_in_sound L allowed call fate doing (Refuses f) e = refused_left_sound fate doing
    crashed_in_sound L allowed call fate doing (Does None memory out) e =
        crashed_sound (read_log s) (area_left_in call fate doing s) (sound.left (read_log s) read_left)
    crashed_in_sound L allowed call fate doing (Does (Some r) memory out) e = by_test (is_left call fate)
      where
        by_test : (b : Bool) → SoundShard (setup_of config n)
            (crashed s (read_log s ++ cond b (r ∷ []) []) (with_records (read_area s) (cond b (r ∷ []) [])))
        by_test true = crashed_sound (read_log s ++ r ∷ []) (with_records (read_area s) (r ∷ []))
            (record { memory = memory; sound = e.sound allowed; good = e.good allowed })
        by_test false = crashed_sound (read_log s ++ []) (with_records (read_area s) []) (subst (SoundLog (setup_of config n)) (sym (append-nil (read_log s)))
            (sound.left (read_log s) read_left))

    pub failed_sound : (L : Type 0) → L → (call : ℕ) (r : Record) (memory : Memory) → SoundStep L (setup_of config n) (read_log s ++ r ∷ []) memory →
        SoundShard (setup_of config n) (failed_in s call r)
    unfolding failed_in
    failed_sound L allowed call r memory e = record { left = by_left; state = by_state s.state }
      where
        by_state : (st : State) → SoundState (setup_of config n) (failed_in s call r) (stopped st)
        by_state (Runs m) = tt
        by_state _ = tt

        unsure_is : (a b : Bool) (q : Record) → IsUnsure (cond a (Shown r) (cond b (Hidden r) Nothing)) q → r ≡ q
        unsure_is true b q k = k
        unsure_is false true q k = k
        unsure_is false false q k = absurd k

        by_left : (log : List Record) → MayLeaveLog (failed_in s call r) log → SoundLog (setup_of config n) log
        by_left log (inl same) = subst (SoundLog (setup_of config n)) (sym same) (sound.left (read_log s) read_left)
        by_left log (inr x) =
            let is : r ≡ x.0 = unsure_is (is_read call) (is_left call Fate.New) x.0 x.1 in
            subst (SoundLog (setup_of config n)) (sym x.2) (subst (λ q. SoundLog (setup_of config n) (read_log s ++ q ∷ [])) is
            (record { memory = memory; sound = e.sound allowed; good = e.good allowed }))

    pub turn_failed_sound : (call : ℕ) → SoundShard (setup_of config n) (failed_turn s call)
    unfolding failed_turn
    turn_failed_sound call = record { left = by_left; state = by_state s.state }
      where
        by_state : (st : State) → SoundState (setup_of config n) (failed_turn s call) (stopped st)
        by_state (Runs m) = tt
        by_state _ = tt

        no_record : (a b : Bool) (q : Record) → IsUnsure (cond a (TurnShown (new_area s)) (cond b (TurnHidden (new_area s)) Nothing)) q → ⊥
        no_record true b q k = k
        no_record false true q k = k
        no_record false false q k = k

        by_left : (log : List Record) → MayLeaveLog (failed_turn s call) log → SoundLog (setup_of config n) log
        by_left log (inl same) = subst (SoundLog (setup_of config n)) (sym same) (sound.left (read_log s) read_left)
        by_left log (inr x) = absurd (no_record (is_read_turn call) (is_left_turn call Fate.New) x.0 x.1)

  -- ---- a world

  -- each shard is sound
  abbrev pub SoundWorld : World → Type 0
  SoundWorld w = (n : ℕ) (s : ShardNow) → slice_get w.shards n ≡ Some s → SoundShard (setup_of w.config n) s

  module _ (w : World) (sound : SoundWorld w) where
    set_sound : (n : ℕ) (old new : ShardNow) → slice_get w.shards n ≡ Some old → SoundShard (setup_of w.config n) new → SoundWorld (set_shard n new w)
    set_sound n old new there new_sound m s e = elim (cases_eq n m) [
      | inl same ↦ by_place same
      | inr ne ↦ sound m s (sym (get-replaced_other w.shards n m new ne) ∙ e)
    ]
      where
        some_same : (a b : ShardNow) → Some a ≡ Some b → a ≡ b
        some_same a b k = cc

        by_place : n ≡ m → SoundShard (setup_of w.config m) s
        by_place same =
            let is : new ≡ s = some_same new s (sym (get-replaced_same w.shards n old new there)
            ∙ subst (λ k. slice_get (replaced w.shards n new) k ≡ Some s) (sym same) e) in
            subst (λ k. SoundShard (setup_of w.config k) s) same (subst (SoundShard (setup_of w.config n)) is new_sound)

    -- a change that touches no shard
    untouched : (v : World) → Kept w v → SoundWorld v
    untouched v same n s e =
        subst (λ (c : Config). SoundShard (setup_of c n) s) (sym same.1) (sound n s (subst (λ (l : List ShardNow). slice_get l n ≡ Some s) same.0 e))

    module _ (n : ℕ) (s : ShardNow) (there : slice_get w.shards n ≡ Some s) where
      refused_sound : (doing : Doing) (f : Fault) → SoundWorld ((refused_doing w n s doing f).0)
      refused_sound Doing.Open f = by_state s.state
        where
          down : SoundWorld (set_shard n (crashed s (read_log s) (read_area s)) w)
          down = set_sound n s (crashed s (read_log s) (read_area s)) there (crashed_sound w.config w.bag n s (sound n s there) (read_log s) (read_area s)
              ((sound n s there).left (read_log s) (read_left w.config w.bag n s (sound n s there))))

          by_state : (st : State) → SoundWorld ((elim st as (λ x. After) [
            | Runs m ↦ refused w f
            | _ ↦
                (set_shard n (crashed s (read_log s) (read_area s)) w, Reply.Refused f)
          ]).0)
          by_state (Runs m) = sound
          by_state (IsStopped m) = down
          by_state IsDown = down
      refused_sound (Doing.Take m now) f = sound
      refused_sound (Doing.Resume now) f = sound
      refused_sound (Doing.Settle t now) f = sound
      refused_sound (Doing.Advance at now) f = sound
      refused_sound (Doing.Forget at now) f = sound
      refused_sound (Doing.Retire below now) f = sound
      refused_sound (Doing.Nudge t now) f = sound
      refused_sound Doing.Turn f = sound

      did_sound : (doing : Doing) → DoingAllowed Allowed (setup_of w.config n) w.bag doing → (st : Stepped) →
          SteppedSound (DoingAllowed Allowed (setup_of w.config n) w.bag doing) (setup_of w.config n) (read_log s) st → SoundWorld ((did w n s doing st).0)
      unfolding did put_out
      did_sound doing allowed (Refuses f) e = refused_sound doing f
      did_sound doing allowed (Does logged memory out) e = set_sound n s (finished s doing logged memory) there
          (finished_sound w.config w.bag n s (sound n s there) (DoingAllowed Allowed (setup_of w.config n) w.bag doing) allowed doing logged memory e)

      failing_sound : (call : ℕ) (doing : Doing) → DoingAllowed Allowed (setup_of w.config n) w.bag doing → (st : Stepped) →
          SteppedSound (DoingAllowed Allowed (setup_of w.config n) w.bag doing) (setup_of w.config n) (read_log s) st →
          SoundWorld ((did_with_failure w n s call doing st).0)
      unfolding did_with_failure
      failing_sound call doing allowed (Refuses f) e = did_sound doing allowed (Refuses f) e
      failing_sound call doing allowed (Does None memory out) e = by_test (turns doing && nat_lt call 5)
        where
          by_test : (b : Bool) → SoundWorld ((cond {A = After} b (set_shard n (failed_turn s call) w, Reply.Refused Device)
              (did w n s doing (Does None memory out))).0)
          by_test true = set_sound n s (failed_turn s call) there (turn_failed_sound w.config w.bag n s (sound n s there) call)
          by_test false = did_sound doing allowed (Does None memory out) e
      failing_sound call doing allowed (Does (Some r) memory out) e = by_test (nat_lt call 4)
        where
          by_test : (b : Bool) → SoundWorld ((cond {A = After} b (set_shard n (failed_in s call r) w, Reply.Refused Device)
              (did w n s doing (Does (Some r) memory out))).0)
          by_test true = set_sound n s (failed_in s call r) there (failed_sound w.config w.bag n s (sound n s there)
              (DoingAllowed Allowed (setup_of w.config n) w.bag doing) allowed call r memory e)
          by_test false = did_sound doing allowed (Does (Some r) memory out) e

      effect_is_sound : (doing : Doing) → SteppedSound (DoingAllowed Allowed (setup_of w.config n) w.bag doing) (setup_of w.config n) (read_log s)
          (effect (setup_of w.config n) w.bag s doing)
      effect_is_sound doing = effect_sound w.config w.bag n s (sound n s there) doing

    at_shard_sound : (n : ℕ) (f : Setup → ShardNow → After) → ((s : ShardNow) → slice_get w.shards n ≡ Some s →
        SoundWorld ((f (setup_of w.config n) s).0)) → SoundWorld ((at_shard w n f).0)
    at_shard_sound n f each = by_value (slice_get w.shards n) refl
      where
        by_value : (o : Option ShardNow) → slice_get w.shards n ≡ o →
            SoundWorld ((elim o as (λ x. After) [ None ↦ refused w Stranger | Some s ↦ f (setup_of w.config n) s ]).0)
        by_value None e = sound
        by_value (Some s) e = each s e

    do_at_sound : (n : ℕ) (doing : Doing) → DoingAllowed Allowed (setup_of w.config n) w.bag doing → SoundWorld ((do_at w n doing).0)
    do_at_sound n doing allowed = at_shard_sound n (λ setup s. did w n s doing (effect setup w.bag s doing))
        (λ s there. did_sound n s there doing allowed _ (effect_is_sound n s there doing))

    deliver_sound : (m : ℕ) (now : Interval) (o : Option Envelope) → ((e : Envelope) (n : ℕ) → o ≡ Some e → e.to ≡ Shard n →
        DoingAllowed Allowed (setup_of w.config n) w.bag (Doing.Take m now)) → SoundWorld ((deliver_to w m now o).0)
    unfolding deliver_to
    deliver_sound m now None allowed = sound
    deliver_sound m now (Some e) allowed = by_address e.to refl
      where
        by_address : (a : Address) → e.to ≡ a → SoundWorld ((elim a as (λ x. After) [
          | Shard n ↦ do_at w n (Doing.Take m now)
          | Session t ↦
              to_session w e.message
        ]).0)
        by_address (Shard n) goes = do_at_sound n (Doing.Take m now) (allowed e n refl goes)
        by_address (Session t) goes = untouched ((to_session w e.message).0) (to_session_keeps w e.message)

    pub acts_sound : (a : Act) → ActAllowed Allowed w a → SoundWorld ((acts w a).0)
    unfolding acts
    acts_sound (Act.Begin t) allowed = sound
    acts_sound (Act.Read t k) allowed = untouched ((if_open w (client_of w t) (reads w.config.splits k)).0)
        (if_open_keeps w (client_of w t) (reads w.config.splits k))
    acts_sound (Act.Write t k x) allowed = untouched ((if_open w (client_of w t) (buffers (record { key = k; value = x }))).0)
        (if_open_keeps w (client_of w t) (buffers (record { key = k; value = x })))
    acts_sound (Act.Close t) allowed = untouched ((if_open w (client_of w t) (closes w.config.splits)).0)
        (if_open_keeps w (client_of w t) (closes w.config.splits))
    acts_sound (Act.Quit t) allowed = untouched ((if_not_over w (client_of w t) (gives_up w.config.splits)).0)
        (if_not_over_keeps w (client_of w t) (gives_up w.config.splits))
    acts_sound (Act.Deliver m now) allowed = deliver_sound m now (slice_get w.bag m) allowed
    acts_sound (Act.At n doing) allowed = do_at_sound n doing allowed
    acts_sound (Act.Look n k at) allowed = at_shard_sound n (λ setup s. look_noted w k at (look_shard setup s k at))
        (λ s there. untouched ((look_noted w k at (look_shard (setup_of w.config n) s k at)).0) (noted_keeps w k at (look_shard (setup_of w.config n) s k at)))
    acts_sound (Act.View n v k at) allowed =
        at_shard_sound n (λ setup s. look_noted w k at (look_at_view setup (slice_get s.views v) k at))
        (λ s there. untouched ((look_noted w k at (look_at_view (setup_of w.config n) (slice_get s.views v) k at)).0)
        (noted_keeps w k at (look_at_view (setup_of w.config n) (slice_get s.views v) k at)))
    acts_sound (Act.Crash n) allowed = at_shard_sound n (λ setup s. (set_shard n (crashed s s.log s.area) w, Reply.Crashed))
        (λ s there. set_sound n s (crashed s s.log s.area) there
        (crashed_sound w.config w.bag n s (sound n s there) s.log s.area ((sound n s there).left s.log (inl refl))))
    acts_sound (Act.CrashIn n call fate named doing) allowed =
        at_shard_sound n (λ setup s. (set_shard n (crashed_in s call fate doing (effect setup w.bag s doing)) w, Reply.Crashed))
        (λ s there. set_sound n s (crashed_in s call fate doing (effect (setup_of w.config n) w.bag s doing)) there
        (crashed_in_sound w.config w.bag n s (sound n s there) (DoingAllowed Allowed (setup_of w.config n) w.bag doing) allowed call fate doing
        (effect (setup_of w.config n) w.bag s doing) (effect_is_sound n s there doing)))
    acts_sound (Act.FailIn n call named doing) allowed = at_shard_sound n (λ setup s. did_with_failure w n s call doing (effect setup w.bag s doing))
        (λ s there. failing_sound n s there call doing allowed _ (effect_is_sound n s there doing))

    -- each log that a crash may leave is good, between steps and within one
    pub left_good : (n : ℕ) (s : ShardNow) (log : List Record) → slice_get w.shards n ≡ Some s → MayLeaveLog s log → Good (setup_of w.config n) log
    left_good n s log there may = ((sound n s there).left log may).good

    pub logged_good : (n : ℕ) (s : ShardNow) (doing : Doing) (r : Record) (memory : Memory) (out : List Envelope) → slice_get w.shards n ≡ Some s →
        DoingAllowed Allowed (setup_of w.config n) w.bag doing →
        effect (setup_of w.config n) w.bag s doing ≡ Does (Some r) memory out → Good (setup_of w.config n) (read_log s ++ r ∷ [])
    logged_good n s doing r memory out there allowed e = (subst (SteppedSound (DoingAllowed Allowed (setup_of w.config n) w.bag doing)
        (setup_of w.config n) (read_log s)) e (effect_is_sound n s there doing)).good allowed

  module _ (limits : (w : World) (time : ℕ) (a : Act) → may_act w time a ≡ true → ActAllowed Allowed w a)
      (fresh : (setup : Setup) → Sound setup fresh_log (rebuilt (facts_of fresh_log))) (good_fresh : (setup : Setup) → Good setup fresh_log) where
    event_sound : (w : World) (e : Event) → may_happen w e ≡ true → SoundWorld w → SoundWorld (happens w e).0
    unfolding happens
    event_sound w e may sound = acts_sound w sound e.act (limits w e.time e.act (and_parts (nat_le w.time e.time) (may_act w e.time e.act) may).1)

    fresh_sound : (setup : Setup) → SoundShard setup fresh_shard
    fresh_sound setup = record {
      left = λ log may. elim may [
        | inl same ↦ subst (SoundLog setup) (sym same) (record { memory = rebuilt (facts_of fresh_log); sound = fresh setup; good = good_fresh setup })
        | inr unsure ↦ absurd unsure.1
      ];
      state = (fresh setup, refl);
    }

    start_sound : (config : Config) → SoundWorld (start config)
    unfolding start
    start_sound config n s e = subst (SoundShard (setup_of config n)) (replicated (suc (length config.splits)) n s e) (fresh_sound (setup_of config n))

    -- each shard is sound at every moment
    pub always_sound : (config : Config) (es : List Event) → lawful config es ≡ true → SoundWorld (run config es)
    unfolding run lawful
    always_sound config es fair = along SoundWorld event_sound (start config) es fair (start_sound config)
