-- Every answered read of a committed transaction equals the serial run before it, in each log that a crash may leave.
use Rattle.std.proofs.Common.{◌≡◌, inl, inr, ℕ, Bool, true, false, ◌&&◌, nat_eq, nat_le, nat_lt, List, [], ◌∷◌, length, Option, Some, None, slice_get}
use Rattle.std.proofs.Common.{refl, sym, ap, subst, ◌∙◌, option_map}
use Rattle.std.proofs.lemmas.Bool.{leb-true, eqb-true, and_parts}
use Rattle.units.specs.Ids.{Id}
use Rattle.protocol.specs.Plan.{time_limit}
use Rattle.world.proofs.Along.{along}
use Rattle.world.proofs.EveryRun.{WellShard, WellWorld, shard_with}
use Rattle.units.specs.Keys.{Bytes}
use Rattle.units.specs.Lists.{when}
use Rattle.units.specs.declared.line.Line.{Line}
use Rattle.units.specs.declared.setup.Setup.{Setup}
use Rattle.truetime.specs.Interval.{Interval}
use Rattle.truetime.specs.Reading.{is_honest}
use Rattle.record.specs.Facts.{facts_of, recorded}
use Rattle.record.specs.Records.{Unrecorded}
use Rattle.record.specs.declared.record.Record.{Record}
use Rattle.message.specs.declared.message.Address.{Address}
use Rattle.message.specs.declared.message.Address.TheVariants.{Shard, Session}
use Rattle.message.specs.declared.message.Answer.TheVariants.{Holds}
use Rattle.message.specs.declared.message.Envelope.{Envelope}
use Rattle.message.specs.declared.message.Input.{Input}
use Rattle.message.specs.declared.message.Message.{Message}
use Rattle.message.specs.declared.message.ReadAnswer.{ReadAnswer}
use Rattle.protocol.specs.Rows.{Memory, find_row}
use Rattle.law.specs.Among.{IsAmong}
use Rattle.world.specs.Lawful.{lawful, lawful_from, may_act, may_do, may_happen, may_crash, goes_to}
use Rattle.world.specs.World.{World, State, Area, Unsure, View, Runs, IsStopped, IsDown, setup_of, start, run, run_from, happens}
use Rattle.world.specs.declared.event.Act.{Act}
use Rattle.world.specs.declared.event.Config.{Config}
use Rattle.world.specs.declared.event.Doing.{Doing}
use Rattle.world.specs.declared.event.Event.{Event}
use Rattle.law.proofs.OfLogs.{memory_is}
use Rattle.law.proofs.Doings.{get_among}
use Rattle.law.proofs.Answering.{held_is_kept, open_unrecorded}
use Rattle.law.proofs.Fair.{IsFairInput}
use Rattle.world.proofs.Sounds.{DoingAllowed, ActAllowed, acts_sound}
use Rattle.law.proofs.KeptRead.{IsAllowed, KeptRead, Tells, Told, tells_keeps, tells_opens, told_follows, told_logs, told_opens}
use Rattle.law.proofs.LooksHold.{IsKept, event_keeps, start_kept}
use Rattle.law.proofs.Said.{AllOneEpoch, HoldsNow, OwnIds, ReadOf, Says, acts_say, answer_env}

-- ---- what is said in a run

-- sessions have their own ids, took answers of one epoch of each shard, and each line of a read is of an answer that was taken
pub record IsSpoken (w : World) : Type 0 where
  pub epochs : AllOneEpoch w
  pub own : OwnIds w
  pub reads : (t : Id) (k : Bytes) (x : Option Bytes) → IsAmong w.lines (Line.Read t k x) → ReadOf w t k x

-- the clock changes none of it
says : (w : World) (e : Event) → WellWorld w → may_happen w e ≡ true → Says w (happens w e).0
unfolding happens
says w e well may =
    let s = acts_say w well e.time e.act (and_parts (nat_le w.time e.time) (may_act w e.time e.act) may).1 in
    record {
      bag = λ z h. s.bag z h;
      told = λ to a x is h. elim (s.told to a x is h) [
        | inl old ↦ inl old
        | inr now ↦ inr
            (record { shard = now.shard; there = now.there; holds = now.holds })
      ];
      took = λ own a x h. let z = s.took own a x h in record { client = z.client; there = z.there; txn = z.txn; taken = z.taken };
      read = λ t k x h. elim (s.read t k x h) [
        | inl old ↦ inl old
        | inr r ↦ inr (record {
          answer = r.answer;
          to = r.to;
          told = r.told;
          holds = r.holds;
          txn = r.txn;
          key = r.key;
          took = record { client = r.took.client; there = r.took.there; txn = r.took.txn; taken = r.took.taken };
        })
      ];
      epochs = λ h. s.epochs h;
      own = λ h. s.own h;
    }

spoken_on : (w v : World) → Says w v → IsSpoken w → IsSpoken v
spoken_on w v s k = record {
  epochs = s.epochs k.epochs;
  own = s.own k.own;
  reads = λ t key x h. elim (s.read t key x h) [
    | inl old ↦ (let r = k.reads t key x old in record {
      answer = r.answer;
      to = r.to;
      told = s.bag (answer_env r.to r.answer) r.told;
      holds = r.holds;
      txn = r.txn;
      key = r.key;
      took = s.took k.own r.answer x r.took;
    })
    | inr new ↦ new
  ];
}

start_spoken : (config : Config) → IsSpoken (start config)
unfolding start
start_spoken config = record { epochs = λ c none. absurd none; own = λ y z none. absurd none; reads = λ t k x none. absurd none }

pub always_spoken : (config : Config) (es : List Event) → lawful config es ≡ true → IsSpoken (run config es)
unfolding run lawful
always_spoken config es fair =
    (along (λ w. IsKept config w × IsSpoken w)
    (λ w e may is. (event_keeps config w e may is.0, spoken_on w ((happens w e).0) (says w e is.0.well may) is.1)) (start config) es fair
    (start_kept config, start_spoken config)).1

-- messages stay
bag_stays : (config : Config) (w : World) (es : List Event) → lawful_from w es ≡ true → IsKept config w → (z : Envelope) → IsAmong w.bag z →
    IsAmong (run_from w es).bag z
bag_stays config w es fair k z h =
    (along (λ v. IsKept config v × IsAmong v.bag z) (λ v e may is. (event_keeps config v e may is.0, (says v e is.0.well may).bag z is.1)) w es fair
    (k, h)).1

-- ---- an answer is kept from its moment on

module _ (to : Address) (a : ReadAnswer) (x : Option Bytes) (holds : a.answer ≡ Holds x) (all : List Envelope)
    (fair : (m : Message) → IsAmong all (record { to = Shard a.from; message = m }) → IsFairInput a.txn a.key a.epoch (Input.Deliver m)) where
  some_input : (p q : Interval × Input) → ◌≡◌ {A = Option (Interval × Input)} (Some p) (Some q) → p ≡ q
  some_input p q e = cc

  given : (setup : Setup) (now : Interval) (i : Input) (p : Interval × Input) → IsAllowed a.from a.txn a.key a.epoch x setup i →
      ◌≡◌ {A = Option (Interval × Input)} (Some (now, i)) (Some p) → IsAllowed a.from a.txn a.key a.epoch x setup p.1
  given setup now i p h e = subst (λ (q : Interval × Input). IsAllowed a.from a.txn a.key a.epoch x setup q.1) (some_input (now, i) p e) h

  took_message : (w : World) (n m : ℕ) (now : Interval) → ((z : Envelope) → IsAmong w.bag z → IsAmong all z) → (e : Envelope) →
      slice_get w.bag m ≡ Some e → e.to ≡ Shard n → DoingAllowed (IsAllowed a.from a.txn a.key a.epoch x) (setup_of w.config n) w.bag (Doing.Take m now)
  took_message w n m now within e is goes p same =
      given (setup_of w.config n) now (Input.Deliver e.message) p (record {
        limit = tt;
        fair = λ here. fair e.message (within (record { to = Shard a.from; message = e.message })
            (subst (λ (z : Address). IsAmong w.bag (record { to = z; message = e.message })) (goes ∙ ap Shard here) (get_among w.bag m e is)));
      }) (sym (ap (λ o. option_map (λ (z : Envelope). (now, Input.Deliver z.message)) o) is) ∙ same)

  doing_allowed : (w : World) (time n : ℕ) (doing : Doing) → ((z : Envelope) → IsAmong w.bag z → IsAmong all z) → may_do w time n doing ≡ true →
      DoingAllowed (IsAllowed a.from a.txn a.key a.epoch x) (setup_of w.config n) w.bag doing
  doing_allowed w time n (Doing.Take m now) within may p same = by_value (slice_get w.bag m) refl
      (and_parts (is_honest time now) (when (goes_to n) (slice_get w.bag m)) may).1 same
    where
      by_value : (o : Option Envelope) → slice_get w.bag m ≡ o → when (goes_to n) o ≡ true →
          option_map (λ (z : Envelope). (now, Input.Deliver z.message)) o ≡ Some p → IsAllowed a.from a.txn a.key a.epoch x (setup_of w.config n) p.1
      by_value None is goes k = cc
      by_value (Some e) is goes k = by_address e.to refl goes
        where
          by_address : (z : Address) → e.to ≡ z → (elim z as (λ y. Bool) [ Shard j ↦ nat_eq j n | Session u ↦ false ]) ≡ true →
              IsAllowed a.from a.txn a.key a.epoch x (setup_of w.config n) p.1
          by_address (Shard j) to_is h = took_message w n m now within e is (to_is ∙ ap Shard (eqb-true j n h)) p same
          by_address (Session u) to_is h = cc
  doing_allowed w time n (Doing.Resume now) within may p same = given (setup_of w.config n) now Input.Resume p (record { limit = tt; fair = λ here. tt }) same
  doing_allowed w time n (Doing.Settle u now) within may p same = given (setup_of w.config n) now (Input.Settle u) p
      (record { limit = tt; fair = λ here. tt }) same
  doing_allowed w time n (Doing.Advance at now) within may p same =
      given (setup_of w.config n) now (Input.Advance at) p (record {
        limit = leb-true at time_limit
            (and_parts (is_honest time now) (nat_le at time_limit) may).1;
        fair = λ here. tt;
      }) same
  doing_allowed w time n (Doing.Forget at now) within may p same =
      given (setup_of w.config n) now (Input.Forget at) p (record {
        limit = leb-true at time_limit
            (and_parts (is_honest time now) (nat_le at time_limit) may).1;
        fair = λ here. tt;
      }) same
  doing_allowed w time n (Doing.Retire below now) within may p same = given (setup_of w.config n) now (Input.Retire below) p
      (record { limit = tt; fair = λ here. tt }) same
  doing_allowed w time n (Doing.Nudge u now) within may p same = given (setup_of w.config n) now (Input.Nudge u) p
      (record { limit = tt; fair = λ here. tt }) same
  doing_allowed w time n Doing.Turn within may p same = cc
  doing_allowed w time n Doing.Open within may p same = cc

  pub act_allowed : (w : World) (time : ℕ) (act : Act) → ((z : Envelope) → IsAmong w.bag z → IsAmong all z) → may_act w time act ≡ true →
      ActAllowed (IsAllowed a.from a.txn a.key a.epoch x) w act
  unfolding may_act
  act_allowed w time (Act.At n doing) within may = doing_allowed w time n doing within (and_parts (nat_lt n (length w.shards)) (may_do w time n doing) may).1
  act_allowed w time (Act.CrashIn n call fate named doing) within may =
      let p = and_parts (nat_lt n (length w.shards) && nat_eq n named && may_do w time n doing) (may_crash w n doing) may in
      doing_allowed w time n doing within (and_parts (nat_lt n (length w.shards) && nat_eq n named) (may_do w time n doing) p.0).1
  act_allowed w time (Act.FailIn n call named doing) within may = doing_allowed w time n doing within
      (and_parts (nat_lt n (length w.shards) && nat_eq n named) (may_do w time n doing) may).1
  act_allowed w time (Act.Deliver m now) within may = λ e n is goes. took_message w n m now within e is goes
  act_allowed w time _ within may = tt

  on_event : (w : World) (e : Event) → ((z : Envelope) → IsAmong w.bag z → IsAmong all z) → may_happen w e ≡ true →
      KeptRead a.from a.txn a.key a.epoch x w → KeptRead a.from a.txn a.key a.epoch x (happens w e).0
  unfolding happens
  on_event w e within may kept =
      acts_sound (IsAllowed a.from a.txn a.key a.epoch x) (Tells a.from a.txn a.key a.epoch x) (Told a.from a.txn a.key a.epoch x)
      (tells_keeps a.from a.txn a.key a.epoch x)
      (tells_opens a.from a.txn a.key a.epoch x) (told_follows a.from a.txn a.key a.epoch x) (told_logs a.from a.txn a.key a.epoch x)
      (told_opens a.from a.txn a.key a.epoch x) w kept e.act
      (act_allowed w e.time e.act within (and_parts (nat_le w.time e.time) (may_act w e.time e.act) may).1)

  -- what is told now is kept
  now_kept : (w : World) → WellWorld w → HoldsNow w a x → KeptRead a.from a.txn a.key a.epoch x w
  now_kept w well now =
      held_is_kept a.from a.txn a.key a.epoch x w now.shard now.holds.memory well now.there now.holds.runs now.holds.held now.holds.kept
      (by_state now.shard.log now.shard.area now.shard.unsure now.shard.state now.shard.views now.holds.runs (well a.from now.shard now.there))
    where
      by_state : (log : List Record) (area : Area) (unsure : Unsure) (st : State) (views : List View) → st ≡ Runs now.holds.memory →
          WellShard (setup_of w.config a.from) (shard_with log area unsure st views) → recorded (facts_of log) a.txn ≡ Unrecorded
      by_state log area unsure (Runs m) views is h = open_unrecorded a.from (facts_of log) m a.txn now.holds.row h.state.0.sound
          (ap (λ (z : Memory). find_row z.rows a.txn) (memory_is m now.holds.memory is) ∙ now.holds.found) now.holds.opened
      by_state log area unsure (IsStopped m) views is h = cc
      by_state log area unsure IsDown views is h = cc

  pub run_keeps_read : (config : Config) (w : World) (es : List Event) → lawful_from w es ≡ true → IsKept config w →
      ((z : Envelope) → IsAmong (run_from w es).bag z → IsAmong all z) →
      (IsAmong w.bag (answer_env to a) → KeptRead a.from a.txn a.key a.epoch x w) → IsAmong (run_from w es).bag (answer_env to a) →
      KeptRead a.from a.txn a.key a.epoch x (run_from w es)
  run_keeps_read config w [] lawful_es k within kept there = kept there
  run_keeps_read config w (e ∷ es) lawful_es k within kept there =
      let p = and_parts (may_happen w e) (lawful_from ((happens w e).0) es) lawful_es in
      let s = says w e k.well p.0 in
      let next = event_keeps config w e p.0 k in
      run_keeps_read config ((happens w e).0) es p.1 next within
      (λ h. elim (s.told to a x holds h) [
        | inl old ↦ on_event w e (λ z j. within z (bag_stays config ((happens w e).0) es p.1 next z (s.bag z j))) p.0 (kept old)
        | inr now ↦ now_kept ((happens w e).0) next.well now
      ]) there
