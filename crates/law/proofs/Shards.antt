-- What happens at a shard, crashes and failures with it, keeps something behind all that there is.
use Rattle.std.proofs.Common.{◌≡◌, inl, inr, ℕ, Bool, true, false, cond, ◌&&◌, nat_lt, List, [], ◌∷◌, ◌++◌, Option, Some, None, slice_get, refl}
use Rattle.std.proofs.Common.{sym, ap, subst, ◌∙◌, arith, option_to_list}
use Rattle.std.proofs.lemmas.List.{append-nil}
use Rattle.units.specs.declared.fault.Fault.{Fault}
use Rattle.units.specs.declared.fault.Fault.TheVariants.{Stopped, Device, TimeSpent}
use Rattle.units.proofs.ListLaws.{all_gives}
use Rattle.truetime.specs.Interval.{Interval}
use Rattle.disk.specs.declared.plan.Fate.{Fate}
use Rattle.record.specs.Facts.{facts_of}
use Rattle.record.specs.declared.record.Record.{Record}
use Rattle.message.specs.declared.message.Address.{Address}
use Rattle.message.specs.declared.message.Envelope.{Envelope}
use Rattle.message.specs.declared.message.Input.{Input}
use Rattle.message.specs.declared.message.Message.{Message}
use Rattle.protocol.specs.Rows.{Memory}
use Rattle.protocol.specs.Step.{Stepped, Refuses, Does}
use Rattle.gatelog.specs.Gates.{is_left, is_read, opens_gate}
use Rattle.world.specs.World.{is_left_turn, is_read_turn}
use Rattle.world.specs.World.{After, ShardNow, State, Runs, IsStopped, IsDown, Area, Unsure, Nothing, Shown, Hidden, TurnShown, TurnHidden, shown_records}
use Rattle.world.specs.World.{read_area, read_log, setup_of, area_left_in, failed_turn, gate_of, has_place, left_area, new_area, step_of_turnover, turns}
use Rattle.world.specs.World.{with_records}
use Rattle.world.specs.World.{step_of_opening, input_of, step_with, effect, wanted, where_room, has_room, finished, crashed, crashed_in, failed_in}
use Rattle.world.specs.World.{left_of, left_unsure}
use Rattle.world.specs.World.{left_by_refused, stopped, set_shard, did, did_with_failure, refused_doing, refused}
use Rattle.world.specs.declared.event.Doing.{Doing}
use Rattle.world.specs.declared.event.Reply.{Reply}
use Rattle.law.specs.Among.{IsAmong}
use Rattle.law.specs.Evidence.{Scene, log_at, RecordEvidence, RowsEvidence, StateEvidence, ShardEvidence, Told, MessageEvidence, Holds}
use Rattle.world.specs.Headline.{IsUnsure}
use Rattle.world.specs.Steady.{IsSteady}
use Rattle.law.proofs.Members.{among_left, among_cases}
use Rattle.world.proofs.Places.{with_record}
use Rattle.law.proofs.Moves.{LoggedEvidence}
use Rattle.law.proofs.Grows.{Within, told_stays, record_stays, rows_stay}
use Rattle.law.proofs.Changes.{with_world, set_holds, log_after}
use Rattle.law.proofs.Says.{put_out_holds}
use Rattle.law.proofs.Closings.{AfterHolds}
use Rattle.law.proofs.Logged.{rests_logged}
use Rattle.law.proofs.Orderly.{orderly}
use Rattle.law.proofs.Doings.{DoesEvidence, SteppedEvidence, Given, grows_same, step_evidence, opening_evidence}

-- what a shard said is backed
told_backed : (sc : Scene) (n : ℕ) (to : Address) (m : Message) → Told (log_at sc.world n) sc.now n to m → MessageEvidence sc to m
told_backed sc n to (Message.Read r) h = tt
told_backed sc n to (Message.GiveUp g) h = tt
told_backed sc n to (Message.Prepare p) h = absurd h
told_backed sc n to (Message.Commit c) h = absurd h
told_backed sc n to _ h = record { shard = n; told = h }

module _ (sc : Scene) (h : Holds sc) (steady : IsSteady sc.world) (present : slice_get sc.times sc.world.event ≡ Some sc.now)
    (n : ℕ) (s : ShardNow) (there : slice_get sc.world.shards n ≡ Some s) where
  -- ---- what a read of the disk gives

  shown_unsure : (u : Unsure) (r : Record) → IsAmong (shown_records u) r → IsUnsure u r
  shown_unsure (Shown q) r (inl same) = same
  shown_unsure (Shown q) r (inr none) = absurd none
  shown_unsure _ r k = absurd k

  left_is_unsure : (fate : Fate) (u : Unsure) (r : Record) → IsAmong (left_of fate u) r → IsUnsure u r
  left_is_unsure fate (Shown q) r k = by_test (opens_gate fate) k
    where
      by_test : (b : Bool) → IsAmong (cond b (q ∷ []) []) r → q ≡ r
      by_test true (inl same) = same
      by_test true (inr none) = absurd none
      by_test false none = absurd none
  left_is_unsure fate (Hidden q) r k = by_test (opens_gate fate) k
    where
      by_test : (b : Bool) → IsAmong (cond b (q ∷ []) []) r → q ≡ r
      by_test true (inl same) = same
      by_test true (inr none) = absurd none
      by_test false none = absurd none
  left_is_unsure fate _ r k = absurd k

  -- the records of the log with some unsure ones behind them
  known : (more : List Record) → ((r : Record) → IsAmong more r → IsUnsure s.unsure r) → (r : Record) → IsAmong (s.log ++ more) r → RecordEvidence sc s.log n r
  known more unsure r k = elim (among_cases s.log more r k) [
    | inl old ↦ (h.shards n s there).records r old
    | inr new ↦ (h.shards n s there).unsure r (unsure r new)
  ]

  read_known : (r : Record) → IsAmong (read_log s) r → RecordEvidence sc s.log n r
  read_known r k = known (shown_records s.unsure) (λ q j. shown_unsure s.unsure q j) r k

  read_within : Within s.log (read_log s)
  read_within r k = among_left s.log (shown_records s.unsure) r k

  in_log : (log : List Record) → Within s.log log → (r : Record) → RecordEvidence sc s.log n r → RecordEvidence sc log n r
  in_log log within r e = record_stays sc sc (grows_same sc) s.log log within n r e

  -- ---- the effect

  no_more : s.unsure ≡ Nothing → read_log s ≡ s.log
  no_more e = ap (λ u. s.log ++ shown_records u) e ∙ append-nil s.log

  running : (o : Option (Interval × Input)) → Given sc n o → (st : State) → s.state ≡ st →
      SteppedEvidence sc n (read_log s) (elim st as (λ x. Stepped) [
        | Runs m ↦ step_with (setup_of sc.world.config n) (facts_of s.log) m o
        | _ ↦
            Refuses Stopped
      ])
  running o heard (Runs m) is =
      let state : StateEvidence sc s n (Runs m) = subst (λ x. StateEvidence sc s n x) is (h.shards n s there).state in
      subst (λ l. SteppedEvidence sc n l (step_with (setup_of sc.world.config n) (facts_of s.log) m o)) (sym (no_more state.1))
      (step_evidence sc h n s there m is (orderly n s.log (steady.follows n s s.log there (inl refl))
      (λ r k. rests_logged sc s.log n r ((h.shards n s there).records r k))) o heard)
  running o heard (IsStopped m) is = tt
  running o heard IsDown is = tt

  -- a turnover
  turned_over : (st : State) → s.state ≡ st →
      SteppedEvidence sc n (read_log s) (elim st as (λ x. Stepped) [ Runs m ↦ step_of_turnover s m | _ ↦ Refuses Stopped ])
  turned_over (IsStopped m) is = tt
  turned_over IsDown is = tt
  turned_over (Runs m) is = by_test (has_place (read_area s).slot (new_area s))
    where
      by_test : (b : Bool) → SteppedEvidence sc n (read_log s) (cond b (Does None m []) (Refuses TimeSpent))
      by_test false = tt
      by_test true =
          let state : StateEvidence sc s n (Runs m) = subst (λ x. StateEvidence sc s n x) is (h.shards n s there).state in
          record { rests = tt; rows = subst (λ l. RowsEvidence sc l n m.rows) (sym (no_more state.1)) state.0; told = tt }

  wanted_evidence : (doing : Doing) → Given sc n (input_of sc.world.bag doing) → SteppedEvidence sc n (read_log s)
      (wanted (setup_of sc.world.config n) sc.world.bag s doing)
  unfolding wanted
  wanted_evidence Doing.Open heard = by_state s.state
    where
      by_state : (st : State) → SteppedEvidence sc n (read_log s)
          (elim st as (λ x. Stepped) [ Runs m ↦ Refuses Stopped | _ ↦ step_of_opening (facts_of (read_log s)) ])
      by_state (Runs m) = tt
      by_state (IsStopped m) = opening_evidence sc h n s there
      by_state IsDown = opening_evidence sc h n s there
  wanted_evidence (Doing.Take m now) heard = running (input_of sc.world.bag (Doing.Take m now)) heard s.state refl
  wanted_evidence (Doing.Resume now) heard = running (input_of sc.world.bag (Doing.Resume now)) heard s.state refl
  wanted_evidence (Doing.Settle t now) heard = running (input_of sc.world.bag (Doing.Settle t now)) heard s.state refl
  wanted_evidence (Doing.Advance at now) heard = running (input_of sc.world.bag (Doing.Advance at now)) heard s.state refl
  wanted_evidence (Doing.Forget at now) heard = running (input_of sc.world.bag (Doing.Forget at now)) heard s.state refl
  wanted_evidence (Doing.Retire below now) heard = running (input_of sc.world.bag (Doing.Retire below now)) heard s.state refl
  wanted_evidence (Doing.Nudge t now) heard = running (input_of sc.world.bag (Doing.Nudge t now)) heard s.state refl
  wanted_evidence Doing.Turn heard = turned_over s.state refl

  by_room : (gate : ℕ) (st : Stepped) → SteppedEvidence sc n (read_log s) st → SteppedEvidence sc n (read_log s) (where_room gate st)
  by_room gate (Refuses f) k = tt
  by_room gate (Does None memory out) k = k
  by_room gate (Does (Some r) memory out) k = by_test (has_room gate r)
    where
      by_test : (b : Bool) → SteppedEvidence sc n (read_log s) (cond b (Does (Some r) memory out) (Refuses TimeSpent))
      by_test true = k
      by_test false = tt

  pub effect_evidence : (doing : Doing) → Given sc n (input_of sc.world.bag doing) → SteppedEvidence sc n (read_log s)
      (effect (setup_of sc.world.config n) sc.world.bag s doing)
  unfolding effect
  effect_evidence doing heard = by_room (gate_of (read_area s)) (wanted (setup_of sc.world.config n) sc.world.bag s doing) (wanted_evidence doing heard)

  -- ---- the shard after it

  -- a log that is read, with what was logged
  pub logged_known : (logged : Option Record) → LoggedEvidence sc (read_log s) n logged → (r : Record) → IsAmong (read_log s ++ option_to_list logged) r →
      RecordEvidence sc (read_log s ++ option_to_list logged) n r
  logged_known logged rests r k = elim (among_cases (read_log s) (option_to_list logged) r k) [
    | inl old ↦ in_log (read_log s ++ option_to_list logged) (λ q j. among_left (read_log s) (option_to_list logged) q (read_within q j)) r (read_known r old)
    | inr new ↦ by_record logged rests new
  ]
    where
      by_record : (o : Option Record) → LoggedEvidence sc (read_log s) n o → IsAmong (option_to_list o) r →
          RecordEvidence sc (read_log s ++ option_to_list o) n r
      by_record None e j = absurd j
      by_record (Some q) e (inl same) = subst (λ x. RecordEvidence sc (read_log s ++ q ∷ []) n x) same
          (record_stays sc sc (grows_same sc) (read_log s) (read_log s ++ q ∷ []) (λ x i. among_left (read_log s) (q ∷ []) x i) n q e)
      by_record (Some q) e (inr none) = absurd none

  with_listed : (logged : Option Record) → Within (with_record (read_log s) logged) (read_log s ++ option_to_list logged)
  with_listed None r k = among_left (read_log s) [] r k
  with_listed (Some q) r k = k

  pub within_listed : (logged : Option Record) → Within s.log (read_log s ++ option_to_list logged)
  within_listed logged r k = among_left (read_log s) (option_to_list logged) r (read_within r k)

  finished_evidence : (doing : Doing) (logged : Option Record) (memory : Memory) (out : List Envelope) → DoesEvidence sc n (read_log s) logged memory out →
      ShardEvidence sc n (finished s doing logged memory)
  unfolding finished
  finished_evidence doing logged memory out e = record {
    records = logged_known logged e.rests;
    unsure = λ r none. absurd none;
    state = (
      rows_stay sc sc (grows_same sc) (with_record (read_log s) logged) (read_log s ++ option_to_list logged)
          (with_listed logged) n memory.rows e.rows,
      refl,
    );
  }

  crashed_evidence : (log : List Record) (area : Area) → ((r : Record) → IsAmong log r → RecordEvidence sc log n r) →
      ShardEvidence sc n (crashed s log area)
  crashed_evidence log area records = record { records = records; unsure = λ r none. absurd none; state = tt }

  crash_holds : (log : List Record) (area : Area) → Within s.log log → ((r : Record) → IsAmong log r → RecordEvidence sc log n r) →
      Holds (with_world sc (set_shard n (crashed s log area) sc.world))
  crash_holds log area within records = set_holds sc n s (crashed s log area) there within (crashed_evidence log area records) h

  read_crash_holds : (area : Area) → Holds (with_world sc (set_shard n (crashed s (read_log s) area) sc.world))
  read_crash_holds area = crash_holds (read_log s) area read_within (λ r k. in_log (read_log s) read_within r (read_known r k))

  pub plain_crash_holds : Holds (with_world sc (set_shard n (crashed s s.log s.area) sc.world))
  plain_crash_holds = crash_holds s.log s.area (λ r k. k) (h.shards n s there).records

  left_holds : (fate : Fate) → Holds (with_world sc (set_shard n (crashed s (s.log ++ left_of fate s.unsure) (left_area fate s)) sc.world))
  left_holds fate =
      let within : Within s.log (s.log ++ left_of fate s.unsure) = λ r k. among_left s.log (left_of fate s.unsure) r k in
      crash_holds (s.log ++ left_of fate s.unsure) (left_area fate s) within
      (λ r k. in_log (s.log ++ left_of fate s.unsure) within r (known (left_of fate s.unsure) (λ q j. left_is_unsure fate s.unsure q j) r k))

  -- ---- a doing that is done

  finish_holds : (doing : Doing) (logged : Option Record) (memory : Memory) (out : List Envelope) → DoesEvidence sc n (read_log s) logged memory out →
      AfterHolds sc (did sc.world n s doing (Does logged memory out))
  unfolding did finished
  finish_holds doing logged memory out e =
      let new : ShardNow = finished s doing logged memory in
      let sc2 = with_world sc (set_shard n new sc.world) in
      let log_is : log_at sc2.world n ≡ read_log s ++ option_to_list logged = log_after sc n s new there (within_listed logged) in
      put_out_holds sc2 out present
      (all_gives (λ (x : Envelope). Told (with_record (read_log s) logged) sc.now n x.to x.message) (λ (x : Envelope). MessageEvidence sc2 x.to x.message)
      (λ x told. told_backed sc2 n x.to x.message (subst (λ l. Told l sc.now n x.to x.message) (sym log_is)
      (told_stays (with_record (read_log s) logged) (read_log s ++ option_to_list logged) (with_listed logged) sc.now sc.now n
      (omega arith) x.to x.message told)))
      out e.told)
      (set_holds sc n s new there (within_listed logged) (finished_evidence doing logged memory out e) h)

  refused_holds : (doing : Doing) (f : Fault) → AfterHolds sc (refused_doing sc.world n s doing f)
  refused_holds Doing.Open f = by_state s.state
    where
      by_state : (st : State) → AfterHolds sc (elim st as (λ x. After) [
        | Runs m ↦ refused sc.world f
        | _ ↦
            (set_shard n (crashed s (read_log s) (read_area s)) sc.world, Reply.Refused f)
      ])
      by_state (Runs m) = h
      by_state (IsStopped m) = read_crash_holds (read_area s)
      by_state IsDown = read_crash_holds (read_area s)
  refused_holds _ f = h

  did_holds : (doing : Doing) (stepped : Stepped) → SteppedEvidence sc n (read_log s) stepped → AfterHolds sc (did sc.world n s doing stepped)
  unfolding did
  did_holds doing (Refuses f) e = refused_holds doing f
  did_holds doing (Does logged memory out) e = finish_holds doing logged memory out e

  pub doing_holds : (doing : Doing) → Given sc n (input_of sc.world.bag doing) →
      AfterHolds sc (did sc.world n s doing (effect (setup_of sc.world.config n) sc.world.bag s doing))
  doing_holds doing heard = did_holds doing (effect (setup_of sc.world.config n) sc.world.bag s doing) (effect_evidence doing heard)

  -- ---- a crash within it

  refused_left_holds : (fate : Fate) (doing : Doing) → Holds (with_world sc (set_shard n (left_by_refused s fate doing) sc.world))
  refused_left_holds fate Doing.Open = read_crash_holds (read_area s)
  refused_left_holds fate _ = left_holds fate

  crashed_in_holds : (call : ℕ) (fate : Fate) (doing : Doing) (stepped : Stepped) → SteppedEvidence sc n (read_log s) stepped →
      Holds (with_world sc (set_shard n (crashed_in s call fate doing stepped) sc.world))
  unfolding crashed_in
  crashed_in_holds call fate doing (Refuses f) e = refused_left_holds fate doing
  crashed_in_holds call fate doing (Does None memory out) e = read_crash_holds (area_left_in call fate doing s)
  crashed_in_holds call fate doing (Does (Some r) memory out) e = by_test (is_left call fate)
    where
      by_test : (b : Bool) → Holds (with_world sc (set_shard n
          (crashed s (read_log s ++ cond b (r ∷ []) []) (with_records (read_area s) (cond b (r ∷ []) []))) sc.world))
      by_test true = crash_holds (read_log s ++ r ∷ []) (with_records (read_area s) (r ∷ [])) (within_listed (Some r)) (logged_known (Some r) e.rests)
      by_test false = crash_holds (read_log s ++ []) (with_records (read_area s) []) (within_listed None) (logged_known None tt)

  pub crash_within_holds : (call : ℕ) (fate : Fate) (doing : Doing) → Given sc n (input_of sc.world.bag doing) →
      Holds (with_world sc (set_shard n (crashed_in s call fate doing (effect (setup_of sc.world.config n) sc.world.bag s doing)) sc.world))
  crash_within_holds call fate doing heard =
      crashed_in_holds call fate doing (effect (setup_of sc.world.config n) sc.world.bag s doing) (effect_evidence doing heard)

  -- ---- a call of it fails

  left_unsure_is : (call : ℕ) (r q : Record) → IsUnsure (left_unsure call r) q → r ≡ q
  left_unsure_is call r q k = by_tests (is_read call) (is_left call Fate.New) k
    where
      by_tests : (a b : Bool) → IsUnsure (cond a (Shown r) (cond b (Hidden r) Nothing)) q → r ≡ q
      by_tests true b j = j
      by_tests false true j = j
      by_tests false false j = absurd j

  failed_evidence : (call : ℕ) (r : Record) → RecordEvidence sc (read_log s) n r → ShardEvidence sc n (failed_in s call r)
  unfolding failed_in
  failed_evidence call r e = record {
    records = λ q k. in_log (read_log s) read_within q (read_known q k);
    unsure = λ q k. subst (λ x. RecordEvidence sc (read_log s) n x) (left_unsure_is call r q k) e;
    state = by_state s.state;
  }
    where
      by_state : (st : State) → StateEvidence sc (failed_in s call r) n (stopped st)
      by_state (Runs m) = tt
      by_state (IsStopped m) = tt
      by_state IsDown = tt

  failed_holds : (call : ℕ) (r : Record) → RecordEvidence sc (read_log s) n r → Holds (with_world sc (set_shard n (failed_in s call r) sc.world))
  unfolding failed_in
  failed_holds call r e = set_holds sc n s (failed_in s call r) there read_within (failed_evidence call r e) h

  turn_failed_evidence : (call : ℕ) → ShardEvidence sc n (failed_turn s call)
  unfolding failed_turn
  turn_failed_evidence call = record {
    records = λ q k. in_log (read_log s) read_within q (read_known q k);
    unsure = λ q k. absurd (no_record (is_read_turn call) (is_left_turn call Fate.New) q k);
    state = by_state s.state;
  }
    where
      no_record : (a b : Bool) (q : Record) → IsUnsure (cond a (TurnShown (new_area s)) (cond b (TurnHidden (new_area s)) Nothing)) q → ⊥
      no_record true b q k = k
      no_record false true q k = k
      no_record false false q k = k

      by_state : (st : State) → StateEvidence sc (failed_turn s call) n (stopped st)
      by_state (Runs m) = tt
      by_state (IsStopped m) = tt
      by_state IsDown = tt

  turn_failed_holds : (call : ℕ) → Holds (with_world sc (set_shard n (failed_turn s call) sc.world))
  unfolding failed_turn
  turn_failed_holds call = set_holds sc n s (failed_turn s call) there read_within (turn_failed_evidence call) h

  failing_holds : (call : ℕ) (doing : Doing) (stepped : Stepped) → SteppedEvidence sc n (read_log s) stepped →
      AfterHolds sc (did_with_failure sc.world n s call doing stepped)
  unfolding did_with_failure
  failing_holds call doing (Refuses f) e = did_holds doing (Refuses f) e
  failing_holds call doing (Does None memory out) e = by_test (turns doing && nat_lt call 5)
    where
      by_test : (b : Bool) → AfterHolds sc (cond b (set_shard n (failed_turn s call) sc.world, Reply.Refused Device)
          (did sc.world n s doing (Does None memory out)))
      by_test true = turn_failed_holds call
      by_test false = did_holds doing (Does None memory out) e
  failing_holds call doing (Does (Some r) memory out) e = by_test (nat_lt call 4)
    where
      by_test : (b : Bool) → AfterHolds sc (cond b (set_shard n (failed_in s call r) sc.world, Reply.Refused Device)
          (did sc.world n s doing (Does (Some r) memory out)))
      by_test true = failed_holds call r e.rests
      by_test false = did_holds doing (Does (Some r) memory out) e

  pub failure_holds : (call : ℕ) (doing : Doing) → Given sc n (input_of sc.world.bag doing) →
      AfterHolds sc (did_with_failure sc.world n s call doing (effect (setup_of sc.world.config n) sc.world.bag s doing))
  failure_holds call doing heard = failing_holds call doing (effect (setup_of sc.world.config n) sc.world.bag s doing) (effect_evidence doing heard)
