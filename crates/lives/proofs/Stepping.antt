-- A core that takes an input with a call armed, or with none, does what the definitions say.
use Rattle.std.proofs.Common.{◌≡◌, ◌≢◌, ◌⊎◌, inl, inr, ℕ, ◌<◌, true, false, cond, nat_lt, IsTrue, List, [], ◌∷◌, ◌++◌, Option, Some}
use Rattle.std.proofs.Common.{None, Result, Ok, Err}
use Rattle.std.proofs.Common.{refl, sym, ap, ◌∙◌, subst, option_to_list, arith}
use Rattle.std.proofs.lemmas.Bool.{false≢true}
use Rattle.std.proofs.lemmas.Bool.Decides.{nat_tests}
use Rattle.std.proofs.lemmas.List.{append-nil}
use Rattle.std.proofs.lemmas.List.Sums.{fold-append}
use Rattle.units.specs.declared.fault.Fault.{Fault}
use Rattle.units.specs.declared.fault.Fault.TheVariants.{Device, Memory as WantsMemory, Stopped, TimeSpent}
use Rattle.units.specs.declared.setup.Book.TheVariants.{Off}
use Rattle.units.specs.declared.setup.Setup.{Setup}
use Rattle.truetime.specs.Interval.{Interval}
use Rattle.disk.specs.File.{surface}
use Rattle.disk.specs.Planned.{armed}
use Rattle.disk.specs.declared.plan.FailurePlan.{FailurePlan}
use Rattle.gatelog.specs.Crash.{Begins}
use Rattle.gatelog.specs.Frames.{end_from, next_gate}
use Rattle.record.specs.Accepted.{followed}
use Rattle.record.specs.Facts.{Facts, facts_of}
use Rattle.record.specs.declared.record.Record.{Record}
use Rattle.record.proofs.LearnAgrees.{learn_agrees}
use Rattle.shard.specs.Books.{BookView, HasBookRoom}
use Rattle.message.specs.declared.message.Envelope.{Envelope}
use Rattle.message.specs.declared.message.Input.{Input}
use Rattle.protocol.specs.Rows.{Memory}
use Rattle.protocol.specs.Step.{Stepped, Refuses, Does, step, facts_after}
use Rattle.ledger.proofs.Steps.{same-step}
use Rattle.units.specs.Limits.{most_rows}
use Rattle.shard.specs.Armed.{AreArmed, FailsIn, GoesPast, HasPlace}
use Rattle.disk.specs.Moments.{LeavesOnly}
use Rattle.ledger.specs.Keeps.{Alike}
use Rattle.shard.specs.Logs.{BeginsAsBefore, KeepsRecords, records_in, and_logged}
use Rattle.shard.specs.On.{CoreView, HasStepped, IsCause, StandsAsBefore, IsLogFull, gate_behind, record_of, step_of}
use Rattle.simdisk.specs.State.{disk_clock, disk_failures, disk_file, disk_plan, LeftSince}
use Rattle.simdisk.specs.declared.simdisk.SimDisk.{SimDisk}
use Rattle.world.specs.World.{Area, ShardNow, State, Runs, IsStopped, IsDown, Nothing, area_behind, failed_in, gate_of, read_area, read_log, shown_records}
use Rattle.world.specs.World.{new_area, stopped as stopped_state, turns, where_room, with_records}
use Rattle.world.proofs.Rooms.{full_is, room_is}
use Rattle.world.specs.declared.event.Doing.{Doing}
use Rattle.lives.specs.Inputs.{has_input}
use Rattle.lives.specs.Held.{beginning_of}
use Rattle.lives.specs.Lives.{IsCoreIn, IsCoreOf, IsRunningAs, IsStoppedAs, disk_log}
use Rattle.lives.specs.Carries.{CoreComes, IsOrderly, TakesInput, answer_of, asked_if_room, asked_in, by_call, calls_of, comes_to}
use Rattle.lives.specs.Carries.{failed_by, stepped_shard}
use Rattle.lives.proofs.Alikes.{alike_after, still_first}
use Rattle.lives.proofs.Holding.{begins_kept, holds_failed, holds_kept, holds_same}

-- a step for whose record, where it has one, there is room
pub room_for : (gate : ℕ) (logged : Option Record) (memory : Memory) (out : List Envelope) → HasPlace gate logged →
    where_room gate (Does logged memory out) ≡ Does logged memory out
room_for gate None memory out place = refl
room_for gate (Some r) memory out place = room_is gate r memory out place

-- a core is armed, and nothing else changes
pub record IsArmedFrom (old new : CoreView SimDisk) (call : Option ℕ) : Type 0 where
  pub plan : disk_plan new.disk ≡ armed call
  pub gate : new.gate ≡ old.gate
  pub slot : new.slot ≡ old.slot
  pub stopped : new.stopped ≡ old.stopped
  pub setup : new.setup ≡ old.setup
  pub facts : new.facts ≡ old.facts
  pub memory : new.memory ≡ old.memory
  pub file : disk_file new.disk ≡ disk_file old.disk

pub armed_from : (old new : CoreView SimDisk) (call : Option ℕ) → disk_plan new.disk ≡ armed call → (new.gate ≡ old.gate) × (new.stopped ≡ old.stopped)
    → new.slot ≡ old.slot → (new.setup ≡ old.setup) × (new.facts ≡ old.facts) × (new.memory ≡ old.memory) → disk_file new.disk ≡ disk_file old.disk
    → IsArmedFrom old new call
armed_from old new call plan log slot state file = record {
  plan = plan;
  gate = log.0;
  slot = slot;
  stopped = log.1;
  setup = state.0;
  facts = state.1;
  memory = state.2;
  file = file;
}

-- a core that is as another
pub record IsAs (old new : CoreView SimDisk) : Type 0 where
  pub never : disk_plan new.disk ≡ FailurePlan.Never
  pub gate : new.gate ≡ old.gate
  pub slot : new.slot ≡ old.slot
  pub stopped : new.stopped ≡ old.stopped
  pub setup : new.setup ≡ old.setup
  pub facts : new.facts ≡ old.facts
  pub memory : new.memory ≡ old.memory
  pub file : disk_file new.disk ≡ disk_file old.disk

core_as : (setup : Setup) (s : ShardNow) (m : Memory) (old new : CoreView SimDisk) → IsAs old new → IsCoreOf setup s m old → IsCoreOf setup s m new
core_as setup s m old new same h = record {
  setup_is = same.setup ∙ h.setup_is;
  knows = subst (λ f. Alike f (facts_of s.log)) (sym same.facts) h.knows;
  memory = same.memory ∙ h.memory;
  disk = holds_same s old.disk new.disk same.never same.file h.disk;
}

-- it is that of the same shard
pub core_in : (setup : Setup) (s : ShardNow) (old new : CoreView SimDisk) → IsAs old new → (state : State) → IsCoreIn setup s old state
    → IsCoreIn setup s new state
core_in setup s old new same (Runs m) h = record {
  core_of = core_as setup s m old new same h.core_of;
  runs = same.stopped ∙ h.runs;
  sure = h.sure;
  gate = same.gate ∙ h.gate;
  slot = same.slot ∙ h.slot;
  begins = subst (λ f. Begins (surface f) (beginning_of (read_area s))) (sym same.file) h.begins;
}
core_in setup s old new same (IsStopped m) h = record { core_of = core_as setup s m old new same h.core_of; stopped = same.stopped ∙ h.stopped }
core_in setup s old new same IsDown h = h

-- the records with the one that a step logs
pub with_logged : (log : List Record) (logged : Option Record) → and_logged (Ok log) logged ≡ Ok (log ++ option_to_list logged)
with_logged log None = ap (λ l. Ok l) (sym (append-nil log))
with_logged log (Some r) = refl

-- and their facts
pub facts_with : (n : ℕ) (log : List Record) (logged : Option Record) → ((r : Record) → logged ≡ Some r → IsTrue (followed n (log ++ r ∷ []))) →
    facts_after (facts_of log) logged ≡ facts_of (log ++ option_to_list logged)
facts_with n log None h = ap facts_of (sym (append-nil log))
facts_with n log (Some r) h = sym (learn_agrees n log r (h r refl))

-- and where it ends
pub end_with : (area : Area) (logged : Option Record) → gate_behind (gate_of area) logged ≡ gate_of (with_records area (option_to_list logged))
end_with area None = ap (end_from area.begins) (sym (append-nil area.records))
end_with area (Some r) = sym (fold-append next_gate area.begins area.records (r ∷ []))

-- ---- what an input or an opening is done to

-- no turnover takes an input
pub no_turn : (doing : Doing) → has_input doing ≡ true → turns doing ≡ false
no_turn Doing.Turn g = absurd (false≢true g)
no_turn _ g = refl

-- a shard after what is no turnover, but for the view that it makes: its record stands in the area that was read
abbrev pub plain_shard : ShardNow → Option Record → Memory → ShardNow
plain_shard s logged memory = record {
  log = read_log s ++ option_to_list logged;
  area = with_records (read_area s) (option_to_list logged);
  unsure = Nothing;
  state = Runs memory;
  views = s.views;
}

area_is : (s : ShardNow) (doing : Doing) (logged : Option Record) → turns doing ≡ false
    → area_behind s doing logged ≡ with_records (read_area s) (option_to_list logged)
area_is s doing logged g = ap (λ b. cond b (new_area s) (with_records (read_area s) (option_to_list logged))) g

pub stepped_is : (s : ShardNow) (doing : Doing) (logged : Option Record) (memory : Memory) → turns doing ≡ false
    → stepped_shard s doing logged memory ≡ plain_shard s logged memory
stepped_is s doing logged memory g = λ i. record {
  log = read_log s ++ option_to_list logged;
  area = area_is s doing logged g i;
  unsure = Nothing;
  state = Runs memory;
  views = s.views;
}

-- no call of the append is the armed one
abbrev pub IsPast : Option ℕ → Option Record → Type 0
IsPast None logged = Unit {0}
IsPast (Some call) logged = GoesPast call logged

below_none : (n : ℕ) → nat_lt n 0 ≡ false
below_none n = grind (arith, nat_tests)

-- then it is done
pub past_call : {A : Type 0} (call : Option ℕ) (doing : Doing) (logged : Option Record) (failed : ℕ → A) (done : A) → turns doing ≡ false
    → IsPast call logged → by_call (calls_of doing logged) call failed done ≡ done
past_call None doing logged failed done g past = refl
past_call (Some c) doing None failed done g past =
    ap (λ b. cond (nat_lt c (cond b 5 0)) (failed c) done) g ∙ ap (λ b. cond b (failed c) done) (below_none c)
past_call (Some c) doing (Some r) failed done g past = ap (λ b. cond b (failed c) done) past

module _ (s refused : ShardNow) (memory : Memory) (out : List Envelope) (doing : Doing) (g : turns doing ≡ false) where
  pub past_answer : (call : Option ℕ) (logged : Option Record) → IsPast call logged → answer_of call doing (Does logged memory out) ≡ Ok out
  past_answer call logged past = past_call call doing logged (λ c. Err Device) (Ok out) g past

  pub past_left : (call : Option ℕ) (logged : Option Record) → IsPast call logged →
      comes_to s refused call doing (Does logged memory out) ≡ plain_shard s logged memory
  past_left call logged past =
      past_call call doing logged (failed_by s logged) (stepped_shard s doing logged memory) g past ∙ stepped_is s doing logged memory g

-- no call fails but where one is armed
abbrev pub FailsAs : Option ℕ → ℕ → Result (List Record) Fault → Option Record → SimDisk → Fault → Type 0
FailsAs None gate records logged disk fault = fault ≢ Device
FailsAs (Some call) gate records logged disk fault = FailsIn call gate records logged (disk_file disk) fault

not_device : (fault why : Fault) → fault ≡ why → why ≢ Device → fault ≢ Device
not_device fault why is other device = other (sym is ∙ device)

spent_no_device : TimeSpent ≢ Device
spent_no_device e = cc

stopped_no_device : Stopped ≢ Device
stopped_no_device e = cc

-- a step that logs nothing never fails by its device
no_device : (call : Option ℕ) (gate : ℕ) (records : Result (List Record) Fault) (disk : SimDisk) (fault : Fault)
    → FailsAs call gate records None disk fault → fault ≢ Device
no_device None gate records disk fault fails = fails
no_device (Some call) gate records disk fault fails = fails

module _ (old before after new : CoreView SimDisk) (call : Option ℕ) (doing : Doing) (no_turnover : turns doing ≡ false)
    (arms : IsArmedFrom old before call) (disarms : IsArmedFrom after new None) (setup : Setup) (s : ShardNow) where
  -- the armed core takes the step
  abbrev Has : Stepped → Result (List Envelope) Fault → Type 0
  Has st r = HasStepped (Unit {0}) (Unit {0}) disk_file disk_clock LeftSince disk_failures disk_plan before after st r

  -- what is left, where the step with room is this
  abbrev Left : Stepped → Result (List Envelope) Fault → Type 0
  Left st r = CoreComes setup s old new call doing st r

  -- a refusal that leaves all as it was
  stays : (fault : Fault) (state : State) → StandsAsBefore disk_file before after fault → after.setup ≡ before.setup → after.slot ≡ before.slot
      → fault ≢ Device → IsCoreIn setup s old state → IsCoreIn setup s new state × (new.facts.installs ≡ old.facts.installs)
  stays fault state (facts, memory, inl device) same slot other h = absurd (other device)
  stays fault state (facts, memory, inr kept) same slot other h = (
    core_in setup s old new (record {
      never = disarms.plan;
      gate = disarms.gate ∙ kept.1 ∙ arms.gate;
      slot = disarms.slot ∙ slot ∙ arms.slot;
      stopped = disarms.stopped ∙ kept.0 ∙ arms.stopped;
      setup = disarms.setup ∙ same ∙ arms.setup;
      facts = disarms.facts ∙ facts ∙ arms.facts;
      memory = disarms.memory ∙ memory ∙ arms.memory;
      file = disarms.file ∙ kept.2 ∙ arms.file;
    }) state h,
    ap (λ (f : Facts). f.installs) (disarms.facts ∙ facts ∙ arms.facts),
  )

  refuses : (fault why : Fault) → fault ≡ why → IsCoreIn setup s new s.state × (new.facts.installs ≡ old.facts.installs) → Left (Refuses why) (Err fault)
  refuses fault why because h = inr (ap (λ f. Err f) because, h)

  module _ (m : Memory) (h : IsRunningAs setup s m old) (runs_so : s.state ≡ Runs m) where
    log_is : read_log s ≡ s.log
    log_is = ap (λ u. s.log ++ shown_records u) h.sure ∙ append-nil s.log

    running : before.stopped ≡ false
    running = arms.stopped ∙ h.runs

    reads : records_in (surface (disk_file before.disk)).seen ≡ Ok (disk_log s)
    reads = ap (λ f. records_in (surface f).seen) arms.file ∙ h.core_of.disk.read.0

    ends : before.gate ≡ gate_of (read_area s)
    ends = arms.gate ∙ h.gate

    here : IsCoreIn setup s old s.state
    here = subst (IsCoreIn setup s old) (sym runs_so) h

    known : Alike before.facts (facts_of (read_log s))
    known = subst (λ f. Alike f (facts_of (read_log s))) (sym arms.facts) (subst (λ l. Alike old.facts (facts_of l)) (sym log_is) h.core_of.knows)

    begins_so : (file : disk_file new.disk ≡ disk_file after.disk)
        → LeavesOnly disk_clock LeftSince before.disk after.disk (BeginsAsBefore (surface (disk_file before.disk)))
        → Begins (surface (disk_file new.disk)) (beginning_of (read_area s))
    begins_so file run = begins_kept (beginning_of (read_area s)) old.disk before.disk after.disk new.disk arms.file run file h.begins

    -- the step is done
    done : (logged : Option Record) (memory : Memory) (out outbox : List Envelope) → Has (Does logged memory outbox) (Ok out)
        → ((r : Record) → logged ≡ Some r → IsTrue (followed setup.shard (read_log s ++ r ∷ [])))
        → IsRunningAs setup (plain_shard s logged memory) memory new
    done logged memory out outbox k follows =
        let log : List Record = disk_log s ++ option_to_list logged in
        let records : and_logged (records_in (surface (disk_file before.disk)).seen) logged ≡ Ok log = ap (λ x. and_logged x logged) reads
        ∙ with_logged (disk_log s) logged in
        let kept : KeepsRecords (surface (disk_file new.disk)) (Ok log) =
        subst (λ f. KeepsRecords (surface f) (Ok log)) (sym disarms.file)
        (subst (KeepsRecords (surface (disk_file after.disk))) records (k.written.durable tt)) in
        let begins : Begins (surface (disk_file new.disk)) (beginning_of (read_area s)) = begins_so disarms.file (k.written.begins running tt) in
        record {
          core_of = record {
            setup_is = disarms.setup ∙ k.written.setup ∙ arms.setup ∙ h.core_of.setup_is;
            knows = subst (λ f. Alike f (facts_of (read_log s ++ option_to_list logged))) (sym (disarms.facts ∙ k.done.2.0))
                (subst (Alike (facts_after before.facts logged)) (facts_with setup.shard (read_log s) logged follows)
                (alike_after before.facts (facts_of (read_log s)) logged known));
            memory = disarms.memory ∙ k.done.2.1;
            disk = holds_kept (plain_shard s logged memory) new.disk disarms.plan refl kept begins;
          };
          runs = disarms.stopped ∙ k.done.1;
          sure = refl;
          gate = disarms.gate ∙ k.written.gate.0 ∙ ap (λ g. gate_behind g logged) ends ∙ end_with (read_area s) logged;
          slot = disarms.slot ∙ k.written.slot ∙ arms.slot ∙ h.slot;
          begins = begins;
        }

    past : (c : Option ℕ) → disk_plan before.disk ≡ armed c → (logged : Option Record) (memory : Memory) (out outbox : List Envelope)
        → Has (Does logged memory outbox) (Ok out) → IsPast c logged
    past None plan logged memory out outbox k = tt
    past (Some c) plan logged memory out outbox k = (k.written.armed c running tt tt plan).0

    fails : (c : Option ℕ) → disk_plan before.disk ≡ armed c → (st : Stepped) (fault : Fault) → Has st (Err fault)
        → FailsAs c before.gate (records_in (surface (disk_file before.disk)).seen) (record_of st) after.disk fault
    fails None plan st fault k = (k.written.planned tt plan).1
    fails (Some c) plan st fault k = (k.written.armed c running tt tt plan).1

    -- a call fails in it
    failed : (r : Record) (memory : Memory) (out : List Envelope) (fault : Fault) (c : Option ℕ) → Has (Does (Some r) memory out) (Err fault)
        → FailsAs c before.gate (records_in (surface (disk_file before.disk)).seen) (Some r) after.disk fault → fault ≡ Device → IsTrue after.stopped
        → CoreComes setup s old new c doing (Does (Some r) memory out) (Err fault)
    unfolding failed_in
    failed r memory out fault None k other device stopped = absurd (other device)
    failed r memory out fault (Some c) k fails_so device stopped =
        let f = fails_so device in
        let armed_so : AreArmed c (Ok (disk_log s)) r (disk_file new.disk) =
        subst (AreArmed c (Ok (disk_log s)) r) (sym disarms.file) (subst (λ x. AreArmed c x r (disk_file after.disk)) reads f.2) in
        let core : IsStoppedAs setup (failed_in s c r) m new = record {
          core_of = record {
            setup_is = disarms.setup ∙ k.written.setup ∙ arms.setup ∙ h.core_of.setup_is;
            knows = subst (λ x. Alike x (facts_of (read_log s))) (sym (disarms.facts ∙ k.written.kept.0)) known;
            memory = disarms.memory ∙ k.written.kept.1 ∙ arms.memory ∙ h.core_of.memory;
            disk = holds_failed s c r new.disk disarms.plan f.0 armed_so (begins_so disarms.file (k.written.begins running tt));
          };
          stopped = disarms.stopped ∙ stopped;
        } in
        inr (
          ap (λ x. Err x) device ∙ sym (ap (λ b. cond b (Err Device) (Ok out)) f.0),
          (
            subst (λ t. IsCoreIn setup t new t.state) (sym (ap (λ b. cond b (failed_in s c r) (stepped_shard s doing (Some r) memory)) f.0))
                (subst (IsCoreIn setup (failed_in s c r) new) (sym (ap stopped_state runs_so)) core),
            ap (λ (x : Facts). x.installs) (disarms.facts ∙ k.written.kept.0 ∙ arms.facts),
          ),
        )

    abbrev Failed : Type 0
    Failed = (disk_failures before.disk < disk_failures after.disk) × IsTrue after.stopped

    -- it was refused
    refused : (st : Stepped) (fault : Fault) → Has st (Err fault) → Left (where_room before.gate st) (Err fault)
    refused (Refuses why) fault k =
        let because : fault ≡ why = subst (λ b. IsCause b (Refuses why) fault (IsLogFull before.gate None) Failed) running k.cause in
        refuses fault why because (stays fault s.state k.written.kept k.written.setup k.written.slot
        (no_device call before.gate (records_in (surface (disk_file before.disk)).seen) after.disk fault (fails call arms.plan (Refuses why) fault k)) here)
    refused (Does logged memory out) fault k =
        by_cause logged k (fails call arms.plan (Does logged memory out) fault k)
        (subst (λ b. IsCause b (Does logged memory out) fault (IsLogFull before.gate logged) Failed) running k.cause)
      where
        by_cause : (l : Option Record) → Has (Does l memory out) (Err fault)
            → FailsAs call before.gate (records_in (surface (disk_file before.disk)).seen) l after.disk fault
            → (fault ≡ WantsMemory) ⊎ (((fault ≡ TimeSpent) × IsLogFull before.gate l) ⊎ ((fault ≡ Device) × Failed)) →
            Left (where_room before.gate (Does l memory out)) (Err fault)
        by_cause l k f (inl wants) = inl (ap (λ x. Err x) wants)
        by_cause None k f (inr (inl full)) = absurd full.1
        by_cause (Some r) k f (inr (inl full)) =
            subst (λ x. Left x (Err fault)) (sym (full_is before.gate r memory out full.1))
            (refuses fault TimeSpent full.0 (stays fault s.state k.written.kept k.written.setup k.written.slot
            (not_device fault TimeSpent full.0 spent_no_device) here))
        by_cause None k f (inr (inr device)) =
            absurd (no_device call before.gate (records_in (surface (disk_file before.disk)).seen) after.disk fault f device.0)
        by_cause (Some r) k f (inr (inr device)) = by_armed call f refl
          where
            by_armed : (c : Option ℕ) → FailsAs c before.gate (records_in (surface (disk_file before.disk)).seen) (Some r) after.disk fault → c ≡ call →
                Left (where_room before.gate (Does (Some r) memory out)) (Err fault)
            by_armed None g is = absurd (g device.0)
            by_armed (Some c) g is =
                subst (λ x. Left x (Err fault)) (sym (room_is before.gate r memory out (g device.0).1))
                (failed r memory out fault call k f device.0 device.1.1)

    -- it was done, or refused
    pub running_comes : (st : Stepped) (r : Result (List Envelope) Fault) → Has st r
        → ((q : Record) (memory : Memory) (out : List Envelope) → where_room before.gate st ≡ Does (Some q) memory out
        → IsTrue (followed setup.shard (read_log s ++ q ∷ [])))
        → Left (where_room before.gate st) r
    running_comes (Refuses why) (Ok out) k follows = absurd (k.done.2)
    running_comes (Does logged memory outbox) (Ok out) k follows =
        let whole : where_room before.gate (Does logged memory outbox) ≡ Does logged memory outbox
        = room_for before.gate logged memory outbox k.written.place in
        let is_past = past call arms.plan logged memory out outbox k in
        let core : IsRunningAs setup (plain_shard s logged memory) memory new = done logged memory out outbox k (λ q e. follows q memory outbox (whole
        ∙ ap (λ l. Does l memory outbox) e)) in
        subst (λ x. Left x (Ok out)) (sym whole) (inr (
          ap (λ o. Ok o) k.done.2.2 ∙ sym (past_answer s s memory outbox doing no_turnover call logged is_past),
          (
            subst (λ t. IsCoreIn setup t new t.state) (sym (past_left s s memory outbox doing no_turnover call logged is_past)) core,
            still_first old.facts new.facts logged (disarms.facts ∙ k.done.2.0 ∙ ap (λ f. facts_after f logged) arms.facts),
          ),
        ))
    running_comes st (Err fault) k follows = refused st fault k

  -- a stopped core refuses
  pub stopped_comes : (m : Memory) → IsStoppedAs setup s m old → s.state ≡ IsStopped m → (st : Stepped) (r : Result (List Envelope) Fault) → Has st r
      → Left (Refuses Stopped) r
  stopped_comes m h is st (Ok out) k = absurd (false≢true (sym k.done.0 ∙ arms.stopped ∙ h.stopped))
  stopped_comes m h is st (Err fault) k =
      let because : fault ≡ Stopped = subst (λ b. IsCause b st fault (IsLogFull before.gate (record_of st))
      ((disk_failures before.disk < disk_failures after.disk) × IsTrue after.stopped))
      (arms.stopped ∙ h.stopped) k.cause in
      refuses fault Stopped because (stays fault s.state k.written.kept k.written.setup k.written.slot (not_device fault Stopped because stopped_no_device)
      (subst (IsCoreIn setup s old) (sym is) h))

-- a core takes an input, and no call is armed behind it
pub takes_input : (old before after new : CoreView SimDisk) (call : Option ℕ) (doing : Doing) → has_input doing ≡ true → IsArmedFrom old before call
    → IsArmedFrom after new None → (now : Interval) (i : Input) (r : Result (List Envelope) Fault) (book : Option BookView)
    → (HasBookRoom before.setup.book book
    → HasStepped (Unit {0}) (Unit {0}) disk_file disk_clock LeftSince disk_failures disk_plan before after (step_of before now i) r)
    → TakesInput old new call doing now i r
takes_input old before after new call doing takes arms disarms now i r book k = λ setup s h order. by_state setup s order s.state refl h
  where
    no_turnover : turns doing ≡ false
    no_turnover = no_turn doing takes

    -- none is kept, so it is not full
    room : (setup : Setup) → setup.book ≡ Off → old.setup ≡ setup → HasBookRoom before.setup.book book
    room setup off same = subst (λ b. HasBookRoom b book) (sym (ap (λ (t : Setup). t.book) (arms.setup ∙ same) ∙ off)) tt

    -- a step over alike facts is the same
    steps_as : (setup : Setup) (s : ShardNow) (m : Memory) → IsRunningAs setup s m old → step setup (facts_of s.log) m now i ≡ step_of before now i
    steps_as setup s m h =
        sym (same-step most_rows setup old.facts (facts_of s.log) m now i h.core_of.knows)
        ∙ sym (λ j. step ((arms.setup ∙ h.core_of.setup_is) j) (arms.facts j) ((arms.memory ∙ h.core_of.memory) j) now i)

    by_state : (setup : Setup) (s : ShardNow) → IsOrderly setup s (asked_if_room setup s now i) → (state : State) → s.state ≡ state → IsCoreIn setup s old state
        → CoreComes setup s old new call doing (asked_if_room setup s now i) r
    by_state setup s order (Runs m) is h =
        let gate : gate_of (read_area s) ≡ before.gate = sym (arms.gate ∙ h.gate) in
        let inner : asked_in setup s now i s.state ≡ step_of before now i = ap (asked_in setup s now i) is ∙ steps_as setup s m h in
        let whole : asked_if_room setup s now i ≡ where_room before.gate (step_of before now i) = λ j. where_room (gate j) (inner j) in
        subst (λ x. CoreComes setup s old new call doing x r) (sym whole)
        (running_comes old before after new call doing no_turnover arms disarms setup s m h is (step_of before now i) r
        (k (room setup order.unbooked h.core_of.setup_is)) (λ q memory out e. order.follows q memory out (whole ∙ e)))
    by_state setup s order (IsStopped m) is h =
        let whole : asked_if_room setup s now i ≡ Refuses Stopped = ap (λ t. where_room (gate_of (read_area s)) (asked_in setup s now i t)) is in
        subst (λ x. CoreComes setup s old new call doing x r) (sym whole)
        (stopped_comes old before after new call doing no_turnover arms disarms setup s m h is (step_of before now i) r
        (k (room setup order.unbooked h.core_of.setup_is)))
    by_state setup s order IsDown is h = absurd h
