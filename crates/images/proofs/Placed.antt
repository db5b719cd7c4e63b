-- What an event leaves of the shards, and of what there is of them.
use Rattle.std.proofs.Common.{◌≡◌, ◌⊎◌, inl, inr, ℕ, ◌+◌, ◌≤◌, Bool, true, false, cond, nat_le, nat_lt, IsTrue, List, [], ◌∷◌, ◌++◌, Option, Some, None}
use Rattle.std.proofs.Common.{slice_get, Result, Ok, Err, refl, sym, ap, ◌∙◌, subst, option_to_list}
use Rattle.std.proofs.lemmas.Bool.{false≢true}
use Rattle.units.specs.Limits.{most_rows}
use Rattle.units.specs.declared.fault.Fault.{Fault}
use Rattle.units.specs.declared.fault.Fault.TheVariants.{Device, Memory as WantsMemory, Stopped, TimeSpent}
use Rattle.units.specs.declared.setup.Setup.{Setup}
use Rattle.truetime.specs.Interval.{Interval}
use Rattle.disk.specs.declared.plan.FailurePlan.{FailurePlan}
use Rattle.disk.specs.declared.plan.Fate.{Fate}
use Rattle.disk.specs.File.{File, surface}
use Rattle.disk.specs.Image.{MayLeave}
use Rattle.message.specs.declared.message.Envelope.{Envelope}
use Rattle.message.specs.declared.message.Input.{Input}
use Rattle.protocol.specs.Plan.{time_limit}
use Rattle.protocol.specs.Rows.{Memory, rebuilt}
use Rattle.protocol.specs.Step.{Stepped, Refuses, Does, step}
use Rattle.record.specs.Accepted.{followed}
use Rattle.record.specs.Facts.{facts_of}
use Rattle.record.specs.declared.record.Record.{Record}
use Rattle.ledger.specs.Keeps.{Alike, IsLasting}
use Rattle.ledger.proofs.Steps.{same-step}
use Rattle.lives.specs.Logs.{records_in}
use Rattle.lives.specs.On.{CoreView, step_of}
use Rattle.world.specs.Lawful.{is_up}
use Rattle.world.specs.World.{ShardNow, State, Runs, IsStopped, IsDown, Nothing, area_behind, crashed, crashed_in}
use Rattle.world.specs.World.{effect, failed_in, failed_turn, gate_of, input_of, left_by_refused, read_area, read_log}
use Rattle.world.specs.World.{setup_of, step_of_opening, step_of_turnover, stopped as stopped_state, where_room, with_records}
use Rattle.world.specs.declared.event.Config.{Config}
use Rattle.world.specs.declared.event.Doing.{Doing}
use Rattle.world.proofs.Rooms.{done_wanted}
use Rattle.lives.specs.Carries.{asked_in, left_by_refusal, opens_as, turns_in}
use Rattle.lives.specs.Inputs.{goes_on, has_input}
use Rattle.lives.specs.Held.{HoldsArea}
use Rattle.lives.proofs.Living.{asks, asks_the_resting, not_up_opens, turns_as}
use Rattle.lives.proofs.Opening.{epoch_is, not_up}
use Rattle.law.proofs.Areas.{logs_no_turn}
use Rattle.images.specs.Images.{Answers, Fails, FailsToTurn, GoesOn, HoldsSurely, IsDisk, IsOwnAnswer, Life, Up, Down}
use Rattle.images.specs.Images.{OpensTo, RestartsWith, RestsOn, StarvesIn, Takes, TakesWhat, TurnsOver, WasEnded, disk_of}
use Rattle.images.proofs.Called.{Comes, IsKnown, Steps, opening_now, comes, is_stopped, left_now, not_opened, not_opened_now, opened, refuses_all, refuses_turn}
use Rattle.images.proofs.Called.{starved, still_failed, still_refused, still_turned, still_unturned, turn_comes, turn_fails, turn_starved, turn_stops}
use Rattle.images.proofs.Held.{HoldsLog, HoldsOr, IsRunning, LivesAs, LivesIn, failed_holds, life_holds, sure_area, sure_only, surely_holds}
use Rattle.images.proofs.Held.{within_holds, without_holds}

pub some_shard : (a b : ShardNow) → Some a ≡ Some b → a ≡ b
some_shard a b e = cc

pub no_shard : (a : ShardNow) → ◌≡◌ {A = Option ShardNow} None (Some a) → ⊥
no_shard a e = cc

logged_is : (a b : Option Record) (m q : Memory) (out more : List Envelope) → Does a m out ≡ Does b q more → a ≡ b
logged_is a b m q out more e = cc

some_record : (a b : Record) → Some a ≡ Some b → a ≡ b
some_record a b e = cc

-- what an opening logs is the next
pub opening_is : (s : ShardNow) → Alike (facts_of (read_log s)) (facts_of (read_area s).records) → (logged : Option Record) (memory : Memory)
    (out : List Envelope) → opens_as s ≡ Does logged memory out → Some (opening_now s) ≡ logged
unfolding step_of_opening
opening_is s alike logged memory out e = by_test (nat_lt (facts_of (read_log s)).epoch time_limit)
    (done_wanted (gate_of (read_area s)) (step_of_opening (facts_of (read_log s))) logged memory out e)
  where
    by_test : (b : Bool) → cond b (Does (Some (Record.Opened ((facts_of (read_log s)).epoch + 1))) (rebuilt (facts_of (read_log s))) [])
        (Refuses TimeSpent) ≡ Does logged memory out → Some (opening_now s) ≡ logged
    by_test false k = cc
    by_test true k = sym (ap (λ n. Some (Record.Opened (n + 1))) (alike.epoch ∙ epoch_is (read_area s).records))
        ∙ logged_is (Some (Record.Opened ((facts_of (read_log s)).epoch + 1))) logged (rebuilt (facts_of (read_log s))) memory [] out k

-- a crash within a doing leaves a shard down, and nothing unsure
refused_down : (s : ShardNow) (fate : Fate) (doing : Doing) →
    ((left_by_refused s fate doing).state ≡ IsDown) × ((left_by_refused s fate doing).unsure ≡ Nothing)
refused_down s fate Doing.Open = (refl, refl)
refused_down s fate Doing.Turn = (refl, refl)
refused_down s fate (Doing.Take m now) = (refl, refl)
refused_down s fate (Doing.Resume now) = (refl, refl)
refused_down s fate (Doing.Settle t now) = (refl, refl)
refused_down s fate (Doing.Advance at now) = (refl, refl)
refused_down s fate (Doing.Forget at now) = (refl, refl)
refused_down s fate (Doing.Retire below now) = (refl, refl)
refused_down s fate (Doing.Nudge t now) = (refl, refl)

pub crashed_down : (s : ShardNow) (call : ℕ) (fate : Fate) (doing : Doing) (st : Stepped) →
    ((crashed_in s call fate doing st).state ≡ IsDown) × ((crashed_in s call fate doing st).unsure ≡ Nothing)
unfolding crashed_in
crashed_down s call fate doing (Refuses f) = refused_down s fate doing
crashed_down s call fate doing (Does None memory out) = (refl, refl)
crashed_down s call fate doing (Does (Some r) memory out) = (refl, refl)

-- a message or a chore: a refusal leaves all as it was, and what it logs is put behind the area
pub record IsInput (doing : Doing) : Type 0 where
  pub has : has_input doing ≡ true
  pub goes : goes_on doing ≡ true
  pub refused : (s : ShardNow) → left_by_refusal s doing ≡ s
  pub behind : (s : ShardNow) (logged : Option Record) → area_behind s doing logged ≡ with_records (read_area s) (option_to_list logged)

pub given : (doing : Doing) → has_input doing ≡ true → IsInput doing
given (Doing.Take m now) has = record { has = refl; goes = refl; refused = λ s. refl; behind = λ s logged. refl }
given (Doing.Resume now) has = record { has = refl; goes = refl; refused = λ s. refl; behind = λ s logged. refl }
given (Doing.Settle t now) has = record { has = refl; goes = refl; refused = λ s. refl; behind = λ s logged. refl }
given (Doing.Advance at now) has = record { has = refl; goes = refl; refused = λ s. refl; behind = λ s logged. refl }
given (Doing.Forget at now) has = record { has = refl; goes = refl; refused = λ s. refl; behind = λ s logged. refl }
given (Doing.Retire below now) has = record { has = refl; goes = refl; refused = λ s. refl; behind = λ s logged. refl }
given (Doing.Nudge t now) has = record { has = refl; goes = refl; refused = λ s. refl; behind = λ s logged. refl }
given Doing.Turn has = absurd (false≢true has)
given Doing.Open has = absurd (false≢true has)

pub no_input : (setup : Setup) (bag : List Envelope) (s : ShardNow) (doing : Doing) (logged : Option Record) (memory : Memory) (out : List Envelope) →
    effect setup bag s doing ≡ Does logged memory out → effect setup bag s doing ≡ Refuses Stopped → ⊥
no_input setup bag s doing logged memory out e f = differ (sym f ∙ e)
  where
    differ : Refuses Stopped ≡ Does logged memory out → ⊥
    differ k = cc

opens_no_input : (doing : Doing) → goes_on doing ≡ true → doing ≡ Doing.Open → ⊥
opens_no_input doing g is = false≢true (ap goes_on (sym is) ∙ g)

module _ {D : Type 0} (keeps obeys : Type 0) (file : D → File) (clock : D → ℕ) (since : D → ℕ → List ℕ → Type 0) (failures : D → ℕ)
    (plan : D → FailurePlan)
    (counts : (disk : D) (moment : ℕ) (image : List ℕ) → moment ≤ clock disk → MayLeave (surface (file disk)) image → since disk moment image)
    (kept : keeps) where
  -- what there is of each shard
  abbrev pub Hold : Config → List ShardNow → (ℕ → Life D) → Type 0
  Hold config ss lives = (n : ℕ) (s : ShardNow) → slice_get ss n ≡ Some s → LivesAs file (setup_of config n) s (lives n)

  abbrev Come : Setup → ShardNow → Doing → Life D → Stepped → Type 0
  Come = Comes keeps obeys file clock since failures plan counts kept

  -- ---- one shard

  -- a shard that does not run, and the disk that may be opened
  pub rests_holds : (setup : Setup) (s : ShardNow) (old : Life D) (disk : D) → RestsOn old disk → (st : State) → LivesIn file setup s old st →
      (is_up st ≡ false) × HoldsLog file s disk
  rests_holds setup s (Up core) disk rests (Runs m) h = absurd (false≢true (sym h.runs ∙ rests.0))
  rests_holds setup s (Up core) disk rests (IsStopped m) h = (refl, subst (HoldsLog file s) rests.1 h.1)
  rests_holds setup s (Up core) disk rests IsDown h = absurd h
  rests_holds setup s (Down d) disk rests (Runs m) h = absurd h
  rests_holds setup s (Down d) disk rests (IsStopped m) h = (refl, subst (HoldsLog file s) rests h)
  rests_holds setup s (Down d) disk rests IsDown h = (refl, subst (HoldsLog file s) rests h)

  -- a shard of which there is a disk alone does not run
  disk_rests : (setup : Setup) (s : ShardNow) (old : Life D) → IsDisk old → (st : State) → LivesIn file setup s old st → is_up st ≡ false
  disk_rests setup s (Up core) is st h = absurd is
  disk_rests setup s (Down disk) is (Runs m) h = absurd h
  disk_rests setup s (Down disk) is (IsStopped m) h = refl
  disk_rests setup s (Down disk) is IsDown h = refl

  module _ (config : Config) (bag : List Envelope) (n : ℕ) (s : ShardNow) (known : IsKnown (setup_of config n) s)
      (lasting : IsLasting (facts_of (read_log s))) (follows : (doing : Doing) (r : Record) (memory : Memory) (out : List Envelope) →
      effect (setup_of config n) bag s doing ≡ Does (Some r) memory out → IsTrue (followed n (read_log s ++ r ∷ []))) where
    abbrev What : Doing → Stepped
    What doing = effect (setup_of config n) bag s doing

    -- what a core that runs is asked for
    pub input_whole : (doing : Doing) (p : Interval × Input) (m : Memory) (old : CoreView D) → has_input doing ≡ true → input_of bag doing ≡ Some p →
        s.state ≡ Runs m → IsRunning file (setup_of config n) s m old → What doing ≡ where_room old.gate (step_of old p.0 p.1)
    input_whole doing p m old has is runs h =
        let inner : asked_in (setup_of config n) s p.0 p.1 s.state ≡ step_of old p.0 p.1 =
        ap (asked_in (setup_of config n) s p.0 p.1) runs
        ∙ sym (same-step most_rows (setup_of config n) old.facts (facts_of s.log) m p.0 p.1 h.knows)
        ∙ sym (λ j. step (h.setup_is j) old.facts (h.memory j) p.0 p.1) in
        let gate : gate_of (read_area s) ≡ old.gate = sym h.gate in
        asks (setup_of config n) bag s doing p.0 p.1 has is ∙ (λ j. where_room (gate j) (inner j))

    -- a core takes an input
    takes_comes : (doing : Doing) (p : Interval × Input) (old new : Life D) (result : Result (List Envelope) Fault) → IsInput doing →
        input_of bag doing ≡ Some p → Takes keeps obeys file clock since failures plan p.0 p.1 old new result →
        IsOwnAnswer result → LivesAs file (setup_of config n) s old → Come (setup_of config n) s doing new (What doing)
    takes_comes doing p (Up old) (Up new) result i is k own h = by_state s.state refl h
      where
        by_state : (st : State) → s.state ≡ st → LivesIn file (setup_of config n) s (Up old) st → Come (setup_of config n) s doing (Up new) (What doing)
        by_state (Runs m) runs l =
            let whole = input_whole doing p m old i.has is runs l in
            subst (Come (setup_of config n) s doing (Up new)) (sym whole)
            (comes keeps obeys file clock since failures plan counts kept (setup_of config n) s m old new l doing (i.refused s) (i.behind s) runs
            (step_of old p.0 p.1) result k own (λ q memory out e. follows doing q memory out (whole ∙ e)))
        by_state (IsStopped m) stops l =
            subst (Come (setup_of config n) s doing (Up new)) (sym (asks_the_resting (setup_of config n) bag s doing i.goes (ap is_up stops)))
            (subst (λ t. LivesAs file (setup_of config n) t (Up new)) (sym (i.refused s)) (subst (LivesIn file (setup_of config n) s (Up new)) (sym stops) (
              (refuses_all keeps obeys file clock since failures plan counts kept (setup_of config n) s old new l.0 l.1 (step_of old p.0 p.1) result k).0,
              (refuses_all keeps obeys file clock since failures plan counts kept (setup_of config n) s old new l.0 l.1 (step_of old p.0 p.1) result k).1,
              still_refused keeps obeys file clock since failures plan counts kept (setup_of config n) s old new l.0 l.1 m (step_of old p.0 p.1) result k l.2,
            )))
        by_state IsDown down l = absurd l
    takes_comes doing p (Up old) (Down back) result i is k own h = absurd k
    takes_comes doing p (Down disk) (Up new) result i is k own h = absurd k
    takes_comes doing p (Down disk) (Down back) result i is k own h = absurd k

    what_comes : (doing : Doing) (o : Option (Interval × Input)) (old new : Life D) (result : Result (List Envelope) Fault) → IsInput doing →
        input_of bag doing ≡ o → TakesWhat keeps obeys file clock since failures plan o old new result →
        IsOwnAnswer result → LivesAs file (setup_of config n) s old → Come (setup_of config n) s doing new (What doing)
    what_comes doing None old new result i is k own h = absurd k
    what_comes doing (Some p) old new result i is k own h = takes_comes doing p old new result i is k own h

    -- a core's log is turned over
    turn_so : (m : Memory) → s.state ≡ Runs m → What Doing.Turn ≡ step_of_turnover s m
    turn_so m runs = turns_as (setup_of config n) bag s ∙ ap (turns_in s) runs

    turns_come : (old new : Life D) (result : Result (List Envelope) Fault) → TurnsOver keeps obeys file clock since failures plan old new result →
        IsOwnAnswer result → LivesAs file (setup_of config n) s old → Come (setup_of config n) s Doing.Turn new (What Doing.Turn)
    turns_come (Up old) (Up new) result k own h = by_state s.state refl h
      where
        by_state : (st : State) → s.state ≡ st → LivesIn file (setup_of config n) s (Up old) st →
            Come (setup_of config n) s Doing.Turn (Up new) (What Doing.Turn)
        by_state (Runs m) runs l = subst (Come (setup_of config n) s Doing.Turn (Up new)) (sym (turn_so m runs))
            (turn_comes keeps obeys file clock since failures plan counts kept (setup_of config n) s m old new l lasting runs result k.0 own)
        by_state (IsStopped m) stops l =
            subst (Come (setup_of config n) s Doing.Turn (Up new)) (sym (asks_the_resting (setup_of config n) bag s Doing.Turn refl (ap is_up stops)))
            (subst (LivesIn file (setup_of config n) s (Up new)) (sym stops) (
              (refuses_turn keeps obeys file clock since failures plan counts kept (setup_of config n) s old new l.0 l.1 result k.0).0,
              (refuses_turn keeps obeys file clock since failures plan counts kept (setup_of config n) s old new l.0 l.1 result k.0).1,
              still_unturned keeps obeys file clock since failures plan counts kept (setup_of config n) s old new l.0 l.1 m result k.0 l.2,
            ))
        by_state IsDown down l = absurd l
    turns_come (Up old) (Down back) result k own h = absurd k
    turns_come (Down disk) (Up new) result k own h = absurd k
    turns_come (Down disk) (Down back) result k own h = absurd k

    -- a disk is opened
    opens_comes : (new : Life D) (result : Result (List Envelope) Fault) (disk : D) → OpensTo keeps obeys file clock since failures plan disk
        (setup_of config n) new result → is_up s.state ≡ false → HoldsLog file s disk → IsOwnAnswer result →
        Come (setup_of config n) s Doing.Open new (What Doing.Open)
    opens_comes (Up core) (Ok out) disk k down h own =
        subst (Come (setup_of config n) s Doing.Open (Up core)) (sym (not_up_opens (setup_of config n) bag s down).0)
        (opened keeps obeys file clock since failures plan counts kept (setup_of config n) s disk h core k known)
    opens_comes (Down back) (Err fault) disk k down h own =
        let is = not_up_opens (setup_of config n) bag s down in
        let r = not_opened keeps obeys file clock since failures plan counts kept (setup_of config n) s disk h fault back k own known in
        subst (Come (setup_of config n) s Doing.Open (Down back)) (sym (is.0 ∙ r.0))
        (subst (λ t. LivesAs file (setup_of config n) t (Down back)) (sym is.1) r.1)
    opens_comes (Up core) (Err fault) disk k down h own = absurd k
    opens_comes (Down back) (Ok out) disk k down h own = absurd k

    answers_comes : (doing : Doing) (old new : Life D) → Answers keeps obeys file clock since failures plan (setup_of config n) bag doing old new →
        LivesAs file (setup_of config n) s old → Come (setup_of config n) s doing new (What doing)
    answers_comes Doing.Open old new a h =
        let r = rests_holds (setup_of config n) s old a.called.disk a.called.rests s.state h in
        opens_comes new a.result a.called.disk a.called.opened r.0 r.1 a.own
    answers_comes Doing.Turn old new a h = turns_come old new a.result a.called a.own h
    answers_comes (Doing.Take m now) old new a h =
        what_comes (Doing.Take m now) (input_of bag (Doing.Take m now)) old new a.result (given (Doing.Take m now) refl) refl a.called a.own h
    answers_comes (Doing.Resume now) old new a h =
        what_comes (Doing.Resume now) (input_of bag (Doing.Resume now)) old new a.result (given (Doing.Resume now) refl) refl a.called a.own h
    answers_comes (Doing.Settle t now) old new a h =
        what_comes (Doing.Settle t now) (input_of bag (Doing.Settle t now)) old new a.result (given (Doing.Settle t now) refl) refl a.called a.own h
    answers_comes (Doing.Advance at now) old new a h =
        what_comes (Doing.Advance at now) (input_of bag (Doing.Advance at now)) old new a.result (given (Doing.Advance at now) refl) refl a.called a.own h
    answers_comes (Doing.Forget at now) old new a h =
        what_comes (Doing.Forget at now) (input_of bag (Doing.Forget at now)) old new a.result (given (Doing.Forget at now) refl) refl a.called a.own h
    answers_comes (Doing.Retire below now) old new a h =
        what_comes (Doing.Retire below now) (input_of bag (Doing.Retire below now)) old new a.result (given (Doing.Retire below now) refl) refl a.called a.own h
    answers_comes (Doing.Nudge t now) old new a h =
        what_comes (Doing.Nudge t now) (input_of bag (Doing.Nudge t now)) old new a.result (given (Doing.Nudge t now) refl) refl a.called a.own h

    -- there is no core to take an input
    idle_comes : (doing : Doing) (old new : Life D) → goes_on doing ≡ true → left_by_refusal s doing ≡ s → IsDisk old → new ≡ old →
        LivesAs file (setup_of config n) s old → Come (setup_of config n) s doing new (What doing)
    idle_comes doing old new g same is as_before h =
        subst (Come (setup_of config n) s doing new)
        (sym (asks_the_resting (setup_of config n) bag s doing g (disk_rests (setup_of config n) s old is s.state h)))
        (subst (λ t. LivesAs file (setup_of config n) t new) (sym same) (subst (LivesAs file (setup_of config n) s) (sym as_before) h))

    pub goes_comes : (doing : Doing) (old new : Life D) → GoesOn keeps obeys file clock since failures plan (setup_of config n) bag doing old new →
        LivesAs file (setup_of config n) s old → Come (setup_of config n) s doing new (What doing)
    goes_comes doing old new (inl a) h = answers_comes doing old new a h
    goes_comes Doing.Open old new (inr idle) h = absurd (idle.0 refl)
    goes_comes Doing.Turn old new (inr idle) h = idle_comes Doing.Turn old new refl refl idle.1 idle.2 h
    goes_comes (Doing.Take m now) old new (inr idle) h = idle_comes (Doing.Take m now) old new refl refl idle.1 idle.2 h
    goes_comes (Doing.Resume now) old new (inr idle) h = idle_comes (Doing.Resume now) old new refl refl idle.1 idle.2 h
    goes_comes (Doing.Settle t now) old new (inr idle) h = idle_comes (Doing.Settle t now) old new refl refl idle.1 idle.2 h
    goes_comes (Doing.Advance at now) old new (inr idle) h = idle_comes (Doing.Advance at now) old new refl refl idle.1 idle.2 h
    goes_comes (Doing.Forget at now) old new (inr idle) h = idle_comes (Doing.Forget at now) old new refl refl idle.1 idle.2 h
    goes_comes (Doing.Retire below now) old new (inr idle) h = idle_comes (Doing.Retire below now) old new refl refl idle.1 idle.2 h
    goes_comes (Doing.Nudge t now) old new (inr idle) h = idle_comes (Doing.Nudge t now) old new refl refl idle.1 idle.2 h

    -- ---- a call fails in it

    -- what the disk holds behind it
    tells : (call : ℕ) (r : Record) (disk : D) → nat_lt call 4 ≡ true → records_in (surface (file disk)).seen ≡ Ok (read_area (failed_in s call r)).records →
        ((image : List ℕ) → MayLeave (surface (file disk)) image → HoldsOr (read_area s) (Some r) image) →
        (nat_le 2 call ≡ true) ⊎ HoldsSurely file disk (read_area s) → HoldsLog file (failed_in s call r) disk
    tells call r disk lt read images (inl le) = failed_holds file s call r disk lt read images le
    tells call r disk lt read images (inr surely) = without_holds file s call r disk read surely

    module _ (call : ℕ) (r : Record) (lt : nat_lt call 4 ≡ true) where
      -- of a core
      takes_fails : (doing : Doing) (p : Interval × Input) (old new : Life D) (fault : Fault) → has_input doing ≡ true → goes_on doing ≡ true →
          input_of bag doing ≡ Some p → (memory : Memory) (out : List Envelope) → What doing ≡ Does (Some r) memory out →
          Takes keeps obeys file clock since failures plan p.0 p.1 old new (Err fault) → fault ≡ Device →
          records_in (surface (file (disk_of new))).seen ≡ Ok (read_area (failed_in s call r)).records →
          (nat_le 2 call ≡ true) ⊎ HoldsSurely file (disk_of new) (read_area s) → LivesAs file (setup_of config n) s old →
          LivesAs file (setup_of config n) (failed_in s call r) new
      unfolding failed_in
      takes_fails doing p (Up old) (Up new) fault has g is memory out does k device read told h = by_state s.state refl h
        where
          by_state : (st : State) → s.state ≡ st → LivesIn file (setup_of config n) s (Up old) st →
              LivesAs file (setup_of config n) (failed_in s call r) (Up new)
          by_state (Runs m) runs l =
              let step_is : step_of old p.0 p.1 ≡ Does (Some r) memory out =
              done_wanted old.gate (step_of old p.0 p.1) (Some r) memory out (sym (input_whole doing p m old has is runs l) ∙ does) in
              let stepped : Steps keeps obeys file clock since failures plan counts kept old new (Does (Some r) memory out) (Err Device) =
              subst (λ f. Steps keeps obeys file clock since failures plan counts kept old new (Does (Some r) memory out) (Err f)) device
              (subst (λ st. Steps keeps obeys file clock since failures plan counts kept old new st (Err fault)) step_is k) in
              let disk = tells call r new.disk lt read (λ image may. left_now keeps obeys file clock since failures plan counts kept (setup_of config n) s m
              old new l (Does (Some r) memory out) (Err Device) stepped image may) told in
              subst (LivesIn file (setup_of config n) (failed_in s call r) (Up new)) (sym (ap stopped_state runs)) (
                is_stopped keeps obeys file clock since failures plan counts kept (setup_of config n) s m old new l r memory out stepped,
                disk,
                still_failed keeps obeys file clock since failures plan counts kept (setup_of config n) s m old new l (Does (Some r) memory out) Device stepped
                    (failed_in s call r) refl,
              )
          by_state (IsStopped m) stops l = absurd (no_input (setup_of config n) bag s doing (Some r) memory out does
              (asks_the_resting (setup_of config n) bag s doing g (ap is_up stops)))
          by_state IsDown down l = absurd l
      takes_fails doing p (Up old) (Down back) fault has g is memory out does k device read told h = absurd k
      takes_fails doing p (Down disk) (Up new) fault has g is memory out does k device read told h = absurd k
      takes_fails doing p (Down disk) (Down back) fault has g is memory out does k device read told h = absurd k

      what_fails : (doing : Doing) (o : Option (Interval × Input)) (old new : Life D) (fault : Fault) → has_input doing ≡ true → goes_on doing ≡ true →
          input_of bag doing ≡ o → (memory : Memory) (out : List Envelope) → What doing ≡ Does (Some r) memory out →
          TakesWhat keeps obeys file clock since failures plan o old new (Err fault) → (fault ≡ Device) ⊎ ((doing ≡ Doing.Open) × (fault ≡ WantsMemory)) →
          records_in (surface (file (disk_of new))).seen ≡ Ok (read_area (failed_in s call r)).records →
          (nat_le 2 call ≡ true) ⊎ HoldsSurely file (disk_of new) (read_area s) → LivesAs file (setup_of config n) s old →
          LivesAs file (setup_of config n) (failed_in s call r) new
      what_fails doing None old new fault has g is memory out does k failed read told h = absurd k
      what_fails doing (Some p) old new fault has g is memory out does k (inl device) read told h =
          takes_fails doing p old new fault has g is memory out does k device read told h
      what_fails doing (Some p) old new fault has g is memory out does k (inr other) read told h = absurd (opens_no_input doing g other.0)

      -- of an opening
      opens_fails : (new : Life D) (fault : Fault) (disk : D) → OpensTo keeps obeys file clock since failures plan disk (setup_of config n) new (Err fault) →
          is_up s.state ≡ false → HoldsLog file s disk → (memory : Memory) (out : List Envelope) → What Doing.Open ≡ Does (Some r) memory out →
          records_in (surface (file (disk_of new))).seen ≡ Ok (read_area (failed_in s call r)).records →
          (nat_le 2 call ≡ true) ⊎ HoldsSurely file (disk_of new) (read_area s) →
          (s.unsure ≡ Nothing) ⊎ ((image : List ℕ) → MayLeave (surface (file (disk_of new))) image → HoldsOr (read_area s) (Some r) image) →
          LivesAs file (setup_of config n) (failed_in s call r) new
      unfolding failed_in
      opens_fails (Up core) fault disk k down h memory out does read told behind = absurd k
      opens_fails (Down back) fault disk k down h memory out does read told behind =
          subst (LivesIn file (setup_of config n) (failed_in s call r) (Down back)) (sym (not_up s.state down))
          (tells call r back lt read (images behind) told)
        where
          opening : opening_now s ≡ r
          opening = some_record (opening_now s) r (opening_is s known.alike (Some r) memory out (sym (not_up_opens (setup_of config n) bag s down).0 ∙ does))

          images : (s.unsure ≡ Nothing) ⊎ ((image : List ℕ) → MayLeave (surface (file back)) image → HoldsOr (read_area s) (Some r) image) →
              (image : List ℕ) → MayLeave (surface (file back)) image → HoldsOr (read_area s) (Some r) image
          images (inl sure) image may = subst (λ q. HoldsOr (read_area s) (Some q) image) opening
              (not_opened_now keeps obeys file clock since failures plan counts kept (setup_of config n) s disk h fault back k sure image may)
          images (inr only) image may = only image may

      pub fails_lives : (doing : Doing) (old new : Life D) → (memory : Memory) (out : List Envelope) → What doing ≡ Does (Some r) memory out →
          Fails keeps obeys file clock since failures plan (setup_of config n) bag s doing call r old new → LivesAs file (setup_of config n) s old →
          LivesAs file (setup_of config n) (failed_in s call r) new
      fails_lives Doing.Open old new memory out does f h =
          let rests = rests_holds (setup_of config n) s old f.called.disk f.called.rests s.state h in
          opens_fails new f.fault f.called.disk f.called.opened rests.0 rests.1 memory out does f.read f.told f.behind
      fails_lives Doing.Turn old new memory out does f h =
          absurd (false≢true (sym (logs_no_turn (setup_of config n) bag s Doing.Turn r memory out does)))
      fails_lives (Doing.Take m now) old new memory out does f h =
          what_fails (Doing.Take m now) (input_of bag (Doing.Take m now)) old new f.fault refl refl refl memory out does f.called f.failed f.read f.told h
      fails_lives (Doing.Resume now) old new memory out does f h =
          what_fails (Doing.Resume now) (input_of bag (Doing.Resume now)) old new f.fault refl refl refl memory out does f.called f.failed f.read f.told h
      fails_lives (Doing.Settle t now) old new memory out does f h =
          what_fails (Doing.Settle t now) (input_of bag (Doing.Settle t now)) old new f.fault refl refl refl memory out does f.called f.failed f.read f.told h
      fails_lives (Doing.Advance at now) old new memory out does f h =
          what_fails (Doing.Advance at now) (input_of bag (Doing.Advance at now)) old new f.fault refl refl refl memory out does f.called f.failed f.read
          f.told h
      fails_lives (Doing.Forget at now) old new memory out does f h =
          what_fails (Doing.Forget at now) (input_of bag (Doing.Forget at now)) old new f.fault refl refl refl memory out does f.called f.failed f.read f.told h
      fails_lives (Doing.Retire below now) old new memory out does f h =
          what_fails (Doing.Retire below now) (input_of bag (Doing.Retire below now)) old new f.fault refl refl refl memory out does f.called f.failed
          f.read f.told h
      fails_lives (Doing.Nudge t now) old new memory out does f h =
          what_fails (Doing.Nudge t now) (input_of bag (Doing.Nudge t now)) old new f.fault refl refl refl memory out does f.called f.failed f.read f.told h

    -- of a turnover
    pub turn_lives : (call : ℕ) → nat_lt call 5 ≡ true → (old new : Life D) → (memory : Memory) (out : List Envelope) → What Doing.Turn ≡ Does None memory out →
        FailsToTurn keeps obeys file clock since failures plan (setup_of config n) bag s call old new → LivesAs file (setup_of config n) s old →
        LivesAs file (setup_of config n) (failed_turn s call) new
    unfolding failed_turn
    turn_lives call lt (Up old) (Up new) memory out does f h = by_state s.state refl h
      where
        by_state : (st : State) → s.state ≡ st → LivesIn file (setup_of config n) s (Up old) st → LivesAs file (setup_of config n) (failed_turn s call) (Up new)
        by_state (Runs m) runs l = subst (LivesIn file (setup_of config n) (failed_turn s call) (Up new)) (sym (ap stopped_state runs)) (
          turn_stops keeps obeys file clock since failures plan counts kept (setup_of config n) s m old new l f.called.0,
          turn_fails keeps obeys file clock since failures plan counts kept (setup_of config n) s m old new l lasting call lt f.called.0 f.read f.told,
          still_turned keeps obeys file clock since failures plan counts kept (setup_of config n) s m old new l (Err Device) f.called.0
              (failed_turn s call) refl,
        )
        by_state (IsStopped m) stops l = absurd (no_input (setup_of config n) bag s Doing.Turn None memory out does
            (asks_the_resting (setup_of config n) bag s Doing.Turn refl (ap is_up stops)))
        by_state IsDown down l = absurd l
    turn_lives call lt (Up old) (Down back) memory out does f h = absurd f.called
    turn_lives call lt (Down disk) (Up new) memory out does f h = absurd f.called
    turn_lives call lt (Down disk) (Down back) memory out does f h = absurd f.called

    -- ---- memory is refused

    takes_starves : (p : Interval × Input) (old new : Life D) → Takes keeps obeys file clock since failures plan p.0 p.1 old new (Err WantsMemory) →
        LivesAs file (setup_of config n) s old → LivesAs file (setup_of config n) s new
    takes_starves p (Up old) (Up new) k h = by_state s.state h
      where
        by_state : (st : State) → LivesIn file (setup_of config n) s (Up old) st → LivesIn file (setup_of config n) s (Up new) st
        by_state (Runs m) l = starved keeps obeys file clock since failures plan counts kept (setup_of config n) s m old new l (step_of old p.0 p.1) k
        by_state (IsStopped m) l =
            let r = refuses_all keeps obeys file clock since failures plan counts kept (setup_of config n) s old new l.0 l.1 (step_of old p.0 p.1)
            (Err WantsMemory) k in (
              r.0,
              r.1,
              still_refused keeps obeys file clock since failures plan counts kept (setup_of config n) s old new l.0 l.1 m (step_of old p.0 p.1)
                  (Err WantsMemory) k l.2,
            )
        by_state IsDown l = absurd l
    takes_starves p (Up old) (Down back) k h = absurd k
    takes_starves p (Down disk) (Up new) k h = absurd k
    takes_starves p (Down disk) (Down back) k h = absurd k

    what_starves : (o : Option (Interval × Input)) (old new : Life D) → TakesWhat keeps obeys file clock since failures plan o old new (Err WantsMemory) →
        LivesAs file (setup_of config n) s old → LivesAs file (setup_of config n) s new
    what_starves None old new k h = absurd k
    what_starves (Some p) old new k h = takes_starves p old new k h

    turn_starves : (old new : Life D) → TurnsOver keeps obeys file clock since failures plan old new (Err WantsMemory) →
        LivesAs file (setup_of config n) s old → LivesAs file (setup_of config n) s new
    turn_starves (Up old) (Up new) k h = by_state s.state h
      where
        by_state : (st : State) → LivesIn file (setup_of config n) s (Up old) st → LivesIn file (setup_of config n) s (Up new) st
        by_state (Runs m) l = turn_starved keeps obeys file clock since failures plan counts kept (setup_of config n) s m old new l k.0
        by_state (IsStopped m) l =
            let r = refuses_turn keeps obeys file clock since failures plan counts kept (setup_of config n) s old new l.0 l.1 (Err WantsMemory) k.0 in
            (r.0, r.1, still_unturned keeps obeys file clock since failures plan counts kept (setup_of config n) s old new l.0 l.1 m (Err WantsMemory) k.0 l.2)
        by_state IsDown l = absurd l
    turn_starves (Up old) (Down back) k h = absurd k
    turn_starves (Down disk) (Up new) k h = absurd k
    turn_starves (Down disk) (Down back) k h = absurd k

    -- a disk on which nothing was opened
    back_lives : (new : Life D) (fault : Fault) (disk : D) → OpensTo keeps obeys file clock since failures plan disk (setup_of config n) new (Err fault) →
        is_up s.state ≡ false → HoldsLog file s (disk_of new) → LivesAs file (setup_of config n) s new
    back_lives (Up core) fault disk k down h = absurd k
    back_lives (Down back) fault disk k down h = by_state s.state down
      where
        by_state : (st : State) → is_up st ≡ false → LivesIn file (setup_of config n) s (Down back) st
        by_state (Runs m) is = absurd (false≢true (sym is))
        by_state (IsStopped m) is = h
        by_state IsDown is = h

    pub starves_lives : (doing : Doing) (old new : Life D) → StarvesIn keeps obeys file clock since failures plan (setup_of config n) bag doing old new →
        LivesAs file (setup_of config n) s old → LivesAs file (setup_of config n) s new
    starves_lives Doing.Open old new f h =
        let rests = rests_holds (setup_of config n) s old f.called.disk f.called.rests s.state h in
        back_lives new f.fault f.called.disk f.called.opened rests.0
        (within_holds file s (disk_of old) (disk_of new) f.read f.begins f.within (life_holds file (setup_of config n) s old s.state h))
    starves_lives Doing.Turn old new k h = turn_starves old new k h
    starves_lives (Doing.Take m now) old new k h = what_starves (input_of bag (Doing.Take m now)) old new k h
    starves_lives (Doing.Resume now) old new k h = what_starves (input_of bag (Doing.Resume now)) old new k h
    starves_lives (Doing.Settle t now) old new k h = what_starves (input_of bag (Doing.Settle t now)) old new k h
    starves_lives (Doing.Advance at now) old new k h = what_starves (input_of bag (Doing.Advance at now)) old new k h
    starves_lives (Doing.Forget at now) old new k h = what_starves (input_of bag (Doing.Forget at now)) old new k h
    starves_lives (Doing.Retire below now) old new k h = what_starves (input_of bag (Doing.Retire below now)) old new k h
    starves_lives (Doing.Nudge t now) old new k h = what_starves (input_of bag (Doing.Nudge t now)) old new k h

    -- ---- a crash

    -- the disk that is left surely holds what the run tells
    pub restarts_lives : (t : ShardNow) (new : Life D) → t.state ≡ IsDown → t.unsure ≡ Nothing → RestartsWith file t.area new →
        LivesAs file (setup_of config n) t new
    restarts_lives t (Up core) down sure k = absurd k
    restarts_lives t (Down disk) down sure k = subst (LivesIn file (setup_of config n) t (Down disk)) (sym down) (surely_holds file t disk sure k)

    -- a core that ran was ended
    ended_lives : (old new : Life D) → WasEnded old new → LivesAs file (setup_of config n) s old →
        LivesAs file (setup_of config n) (crashed s s.log s.area) new
    ended_lives (Up core) (Down disk) k h = by_state s.state h
      where
        by_state : (st : State) → LivesIn file (setup_of config n) s (Up core) st → HoldsLog file (crashed s s.log s.area) disk
        by_state (Runs m) l = subst (HoldsLog file (crashed s s.log s.area)) k.1 (surely_holds file (crashed s s.log s.area) core.disk refl
            (λ image may. subst (λ a. HoldsArea a image) (sure_area s l.sure) (sure_only s image l.sure (l.disk.left image may))))
        by_state (IsStopped m) l = absurd (false≢true (sym k.0 ∙ l.0))
        by_state IsDown l = absurd l
    ended_lives (Up core) (Up new) k h = absurd k
    ended_lives (Down disk) (Up new) k h = absurd k
    ended_lives (Down disk) (Down back) k h = absurd k

    pub crash_lives : (old new : Life D) → RestartsWith file s.area new ⊎ WasEnded old new → LivesAs file (setup_of config n) s old →
        LivesAs file (setup_of config n) (crashed s s.log s.area) new
    crash_lives old new (inl restarts) h = restarts_lives (crashed s s.log s.area) new refl refl restarts
    crash_lives old new (inr ended) h = ended_lives old new ended h
