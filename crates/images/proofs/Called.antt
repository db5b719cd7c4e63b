-- What the call of a doing leaves, by its contract.
use Rattle.std.proofs.Common.{◌≡◌, ◌≢◌, ◌⊎◌, inl, inr, ℕ, ◌+◌, ◌<◌, ◌≤◌, ◌^◌, true, false, nat_le, nat_lt, IsTrue, List, [], ◌∷◌, ◌++◌, Option, Some, None}
use Rattle.std.proofs.Common.{Result, Ok, Err, refl, sym, ap, ◌∙◌, subst, option_to_list}
use Rattle.std.proofs.lemmas.Bool.{false≢true}
use Rattle.std.specs.Prelude.{IfOk}
use Rattle.std.proofs.lemmas.List.{append-nil}
use Rattle.units.specs.declared.fault.Fault.{Fault}
use Rattle.units.specs.declared.fault.Fault.TheVariants.{Device, Memory as WantsMemory, Stopped, TimeSpent}
use Rattle.units.specs.declared.setup.Setup.{Setup}
use Rattle.disk.specs.declared.plan.FailurePlan.{FailurePlan}
use Rattle.disk.specs.File.{File, surface}
use Rattle.disk.specs.Image.{MayLeave, after_sync}
use Rattle.disk.specs.Moments.{LeavesOnly}
use Rattle.lives.specs.Armed.{HasPlace}
use Rattle.gatelog.specs.Frames.{IsFull, end_from, next_gate}
use Rattle.gatelog.specs.Slots.{begins_in, slot_count}
use Rattle.gatelog.specs.Log.{log as scanned_log}
use Rattle.message.specs.declared.message.Envelope.{Envelope}
use Rattle.protocol.specs.Rows.{Memory, rebuilt}
use Rattle.protocol.specs.Step.{Stepped, Refuses, Does, facts_after}
use Rattle.record.specs.Accepted.{Accepted, followed, taken}
use Rattle.record.specs.Facts.{facts_of}
use Rattle.record.specs.Records.{epoch_of}
use Rattle.record.specs.declared.record.Record.{Record}
use Rattle.record.proofs.LearnAgrees.{accepted_follows}
use Rattle.ledger.specs.Keeps.{Alike, IsLasting}
use Rattle.ledger.specs.Turned.{turned}
use Rattle.ledger.proofs.One.{one-turnover}
use Rattle.lives.specs.Logs.{BeginsAsBefore, HoldsOldOrWith, and_logged, records_in}
use Rattle.lives.specs.On.{CoreView, HasStepped, IsCause, IsLogFull, IsTried, StandsAsBefore, gate_behind, record_of}
use Rattle.lives.specs.Opened.{HasNotOpened, HasOpened, HasRoom, IsReason, IsTaken, LeavesOpening, end_in, is_reason, next_opening, opening_of}
use Rattle.lives.specs.Turned.{HasNoTurnPlace, HasTurned, HasTurnPlace, IsOldOrTurned, IsTurnCause, turned_to}
use Rattle.world.specs.Areas.{MayLeaveArea}
use Rattle.world.specs.World.{Area, ShardNow, Runs, Nothing, area_behind, crashed, failed_turn, finished, gate_of, new_area, read_area, read_log}
use Rattle.world.specs.World.{step_of_turnover, where_room, with_records}
use Rattle.world.specs.declared.event.Doing.{Doing}
use Rattle.world.proofs.Openings.{opening_follows}
use Rattle.world.proofs.Rooms.{full_is}
use Rattle.lives.specs.Carries.{left_by_refusal, opens_as}
use Rattle.lives.specs.Held.{HoldsArea, beginning_of}
use Rattle.lives.proofs.Alikes.{alike_after}
use Rattle.lives.proofs.Opening.{does, epoch_is, finds_same, no_fault, ok_same, refuses, still_alike}
use Rattle.lives.proofs.Stepping.{end_with, facts_with, room_for, with_logged}
use Rattle.images.specs.Images.{HoldsSurely, IsOwn, IsOwnAnswer, Life, Up}
use Rattle.images.proofs.Held.{HoldsLog, HoldsOr, IsRunning, LivesAs, LivesIn, ReadsAs, StillKnows, holds_or, same_holds, sure_log}
use Rattle.images.proofs.Held.{sure_only, surely_holds, turn_failed_holds, turn_without_holds}
use Rattle.images.proofs.Turnovers.{has_a_place, has_no_place}

does_not_refuse : {logged : Option Record} {memory : Memory} {out : List Envelope} (why : Fault) → Does logged memory out ≡ Refuses why → ⊥
does_not_refuse why e = cc

not_wanted : (fault why : Fault) → fault ≡ why → why ≢ Device → fault ≢ Device
not_wanted fault why is other device = other (sym is ∙ device)

memory_no_device : WantsMemory ≢ Device
memory_no_device e = cc

spent_no_device : TimeSpent ≢ Device
spent_no_device e = cc

stopped_no_device : Stopped ≢ Device
stopped_no_device e = cc

-- ---- an opening

-- the next one of a shard
abbrev pub opening_now : ShardNow → Record
opening_now s = next_opening (read_area s).records

-- an opening takes what a shard logged, and its area, and both say the same
pub record IsKnown (setup : Setup) (s : ShardNow) : Type 0 where
  pub takes : taken setup (read_log s) ≡ Accepted
  pub takes_area : taken setup (read_area s).records ≡ Accepted
  pub alike : Alike (facts_of (read_log s)) (facts_of (read_area s).records)

-- it may come behind what was logged
opening_next : (setup : Setup) (s : ShardNow) → IsKnown setup s → IsTrue (followed setup.shard (read_log s ++ opening_now s ∷ []))
opening_next setup s known = subst (λ n. IsTrue (followed setup.shard (read_log s ++ Record.Opened (n + 1) ∷ [])))
    (known.alike.epoch ∙ epoch_is (read_area s).records)
    (opening_follows setup.shard (read_log s) (accepted_follows setup (read_log s) known.takes))

-- what the definitions answer
abbrev pub answer_in : Stepped → Result (List Envelope) Fault
answer_in (Refuses fault) = Err fault
answer_in (Does logged memory out) = Ok out

module _ {D : Type 0} (keeps obeys : Type 0) (file : D → File) (clock : D → ℕ) (since : D → ℕ → List ℕ → Type 0) (failures : D → ℕ)
    (plan : D → FailurePlan)
    (counts : (disk : D) (moment : ℕ) (image : List ℕ) → moment ≤ clock disk → MayLeave (surface (file disk)) image → since disk moment image)
    (kept : keeps) where
  -- a core takes an input, and this is what it comes to
  abbrev pub Steps : CoreView D → CoreView D → Stepped → Result (List Envelope) Fault → Type 0
  Steps old new st result = HasStepped keeps obeys file clock since failures plan old new st result

  -- its log is turned over, or not
  abbrev pub Turned : CoreView D → CoreView D → Result (List Envelope) Fault → Type 0
  Turned old new result = HasTurned keeps obeys file clock since failures plan old new result

  -- what there is of a shard behind a doing
  abbrev pub Comes : Setup → ShardNow → Doing → Life D → Stepped → Type 0
  Comes setup s doing life (Refuses fault) = LivesAs file setup (left_by_refusal s doing) life
  Comes setup s doing life (Does logged memory out) = LivesIn file setup (finished s doing logged memory) life (Runs memory)

  -- ---- a core that runs

  module _ (setup : Setup) (s : ShardNow) (m : Memory) (old new : CoreView D) (h : IsRunning file setup s m old) where
    -- what it knows, by what a read tells of the records
    knows_read : Alike old.facts (facts_of (read_log s))
    knows_read = subst (λ l. Alike old.facts (facts_of l)) (sym (sure_log s h.sure)) h.knows

    -- the log begins where it began
    begins_since : LeavesOnly clock since old.disk new.disk (BeginsAsBefore (surface (file old.disk))) → (image : List ℕ) →
        since new.disk (clock old.disk) image → begins_in image ≡ beginning_of (read_area s)
    begins_since run image left = by_run (run.each image left)
      where
        by_run : BeginsAsBefore (surface (file old.disk)) image → begins_in image ≡ beginning_of (read_area s)
        by_run (inl was) = (sure_only s image h.sure (h.disk.left image was)).1
        by_run (inr same) = same ∙ h.disk.read.1

    -- a refusal that leaves all as it was
    stays : (fault : Fault) → StandsAsBefore file old new fault → new.setup ≡ old.setup → new.slot ≡ old.slot → fault ≢ Device →
        IsRunning file setup s m new
    stays fault (facts, memory, inl device) same slot other = absurd (other device)
    stays fault (facts, memory, inr same_log) same slot other = record {
      setup_is = same ∙ h.setup_is;
      knows = subst (λ f. Alike f (facts_of s.log)) (sym facts) h.knows;
      memory = memory ∙ h.memory;
      disk = same_holds file s old.disk new.disk same_log.2 h.disk;
      runs = same_log.0 ∙ h.runs;
      sure = h.sure;
      gate = same_log.1 ∙ h.gate;
      slot = slot ∙ h.slot;
    }

    -- the step is done
    done : (doing : Doing) (logged : Option Record) (memory : Memory) (out outbox : List Envelope) →
        area_behind s doing logged ≡ with_records (read_area s) (option_to_list logged) → Steps old new (Does logged memory outbox) (Ok out) →
        ((r : Record) → logged ≡ Some r → IsTrue (followed setup.shard (read_log s ++ r ∷ []))) →
        IsRunning file setup (finished s doing logged memory) memory new
    unfolding finished
    done doing logged memory out outbox behind k follows =
        let log : List Record = read_log s ++ option_to_list logged in
        let area : Area = with_records (read_area s) (option_to_list logged) in
        let records : and_logged (records_in (surface (file old.disk)).seen) logged ≡ Ok area.records = ap (λ x. and_logged x logged) h.disk.read.0
        ∙ with_logged (read_area s).records logged in
        let began = k.written.begins h.runs kept in
        let surely : HoldsSurely file new.disk area =
        λ image may. (k.written.durable kept image may ∙ records, begins_since began image (counts new.disk (clock old.disk) image began.later may)) in
        record {
          setup_is = k.written.setup ∙ h.setup_is;
          knows = subst (λ f. Alike f (facts_of log)) (sym k.done.2.0)
              (subst (Alike (facts_after old.facts logged)) (facts_with setup.shard (read_log s) logged follows)
              (alike_after old.facts (facts_of (read_log s)) logged knows_read));
          memory = k.done.2.1;
          disk = surely_holds file (finished s doing logged memory) new.disk refl (subst (HoldsSurely file new.disk) (sym behind) surely);
          runs = k.done.1;
          sure = refl;
          gate = k.written.gate.0 ∙ ap (λ g. gate_behind g logged) h.gate ∙ end_with (read_area s) logged ∙ ap gate_of (sym behind);
          slot = k.written.slot ∙ h.slot ∙ ap (λ (a : Area). a.slot) (sym behind);
        }

    -- it was done, or refused
    pub comes : (doing : Doing) → left_by_refusal s doing ≡ s →
        ((logged : Option Record) → area_behind s doing logged ≡ with_records (read_area s) (option_to_list logged)) → s.state ≡ Runs m →
        (st : Stepped) (result : Result (List Envelope) Fault) → Steps old new st result → IsOwnAnswer result →
        ((q : Record) (memory : Memory) (out : List Envelope) → where_room old.gate st ≡ Does (Some q) memory out →
        IsTrue (followed setup.shard (read_log s ++ q ∷ []))) →
        Comes setup s doing (Up new) (where_room old.gate st)
    comes doing as_it_was behind is (Refuses why) (Ok out) k own follows = absurd (k.done.2)
    comes doing as_it_was behind is (Does logged memory outbox) (Ok out) k own follows =
        let whole : where_room old.gate (Does logged memory outbox) ≡ Does logged memory outbox = room_for old.gate logged memory outbox k.written.place in
        subst (Comes setup s doing (Up new)) (sym whole)
        (done doing logged memory out outbox (behind logged) k (λ q e. follows q memory outbox (whole ∙ ap (λ l. Does l memory outbox) e)))
    comes doing as_it_was behind is (Refuses why) (Err fault) k own follows = subst (λ t. LivesAs file setup t (Up new)) (sym as_it_was)
        (subst (LivesIn file setup s (Up new)) (sym is) (stays fault k.written.kept k.written.setup k.written.slot own.1))
    comes doing as_it_was behind is (Does logged memory outbox) (Err fault) k own follows =
        by_cause logged (subst (λ b. IsCause b (Does logged memory outbox) fault
        (IsLogFull old.gate logged) ((failures old.disk < failures new.disk) × IsTrue new.stopped)) h.runs k.cause)
      where
        here : LivesAs file setup (left_by_refusal s doing) (Up new)
        here = subst (λ t. LivesAs file setup t (Up new)) (sym as_it_was)
            (subst (LivesIn file setup s (Up new)) (sym is) (stays fault k.written.kept k.written.setup k.written.slot own.1))

        by_cause : (l : Option Record) →
            (fault ≡ WantsMemory) ⊎ (((fault ≡ TimeSpent) × IsLogFull old.gate l)
            ⊎ ((fault ≡ Device) × ((failures old.disk < failures new.disk) × IsTrue new.stopped))) →
            Comes setup s doing (Up new) (where_room old.gate (Does l memory outbox))
        by_cause l (inl wants) = absurd (own.0 wants)
        by_cause None (inr (inl full)) = absurd full.1
        by_cause (Some r) (inr (inl full)) = subst (Comes setup s doing (Up new)) (sym (full_is old.gate r memory outbox full.1)) here
        by_cause l (inr (inr device)) = absurd (own.1 device.0)

    -- what it answers is what the definitions do
    pub steps_answer : (st : Stepped) (result : Result (List Envelope) Fault) → Steps old new st result → IsOwnAnswer result →
        result ≡ answer_in (where_room old.gate st)
    steps_answer (Refuses why) (Ok out) k own = absurd (k.done.2)
    steps_answer (Does logged memory outbox) (Ok out) k own =
        ap (λ o. Ok o) k.done.2.2 ∙ sym (ap answer_in (room_for old.gate logged memory outbox k.written.place))
    steps_answer (Refuses why) (Err fault) k own = ap (λ f. Err f) (subst (λ b. IsCause b (Refuses why) fault
        (IsLogFull old.gate None) ((failures old.disk < failures new.disk) × IsTrue new.stopped)) h.runs k.cause)
    steps_answer (Does logged memory outbox) (Err fault) k own =
        by_cause logged (subst (λ b. IsCause b (Does logged memory outbox) fault
        (IsLogFull old.gate logged) ((failures old.disk < failures new.disk) × IsTrue new.stopped)) h.runs k.cause)
      where
        by_cause : (l : Option Record) →
            (fault ≡ WantsMemory) ⊎ (((fault ≡ TimeSpent) × IsLogFull old.gate l)
            ⊎ ((fault ≡ Device) × ((failures old.disk < failures new.disk) × IsTrue new.stopped))) →
            ◌≡◌ {A = Result (List Envelope) Fault} (Err fault) (answer_in (where_room old.gate (Does l memory outbox)))
        by_cause l (inl wants) = absurd (own.0 wants)
        by_cause None (inr (inl full)) = absurd full.1
        by_cause (Some r) (inr (inl full)) = ap (λ f. Err f) full.0 ∙ sym (ap answer_in (full_is old.gate r memory outbox full.1))
        by_cause l (inr (inr device)) = absurd (own.1 device.0)

    -- since the call began a crash leaves the area, or this with the new record
    pub left_since : (st : Stepped) (result : Result (List Envelope) Fault) → Steps old new st result → (image : List ℕ) →
        since new.disk (clock old.disk) image → HoldsOr (read_area s) (record_of st) image
    left_since st result k image left = holds_or (read_area s) (record_of st) image
        (subst (λ x. HoldsOldOrWith x (record_of st) image) h.disk.read.0 ((k.written.any_moment h.runs kept).each image left))
        (begins_since (k.written.begins h.runs kept) image left)

    -- so it does behind a call that failed
    pub left_now : (st : Stepped) (result : Result (List Envelope) Fault) → Steps old new st result → (image : List ℕ) →
        MayLeave (surface (file new.disk)) image → HoldsOr (read_area s) (record_of st) image
    left_now st result k image may = left_since st result k image (counts new.disk (clock old.disk) image (k.written.any_moment h.runs kept).later may)

    -- where the definitions refuse the step, since the call began a crash leaves only what it might have left before
    pub only_before : (st : Stepped) (result : Result (List Envelope) Fault) → Steps old new st result → (why : Fault) → where_room old.gate st ≡ Refuses why →
        (image : List ℕ) → since new.disk (clock old.disk) image → MayLeave (surface (file old.disk)) image
    only_before (Refuses f) (Ok out) k why is image left = absurd (k.done.2)
    only_before (Does logged memory out) (Ok done) k why is image left =
        absurd (does_not_refuse why (sym (room_for old.gate logged memory out k.written.place) ∙ is))
    only_before st (Err fault) k why is image left = by_tried st is k.written.tried
      where
        by_tried : (t : Stepped) → where_room old.gate t ≡ Refuses why → ((fault ≡ Device) × IsTried old.gate (record_of t))
            ⊎ ((fault ≢ Device) × LeavesOnly clock since old.disk new.disk (MayLeave (surface (file old.disk)))) → MayLeave (surface (file old.disk)) image
        by_tried t e (inr it) = it.1.each image left
        by_tried (Refuses f) e (inl tried) = absurd tried.1
        by_tried (Does None memory out) e (inl tried) = absurd tried.1
        by_tried (Does (Some r) memory out) e (inl tried) =
            absurd (does_not_refuse why (sym (room_for old.gate (Some r) memory out tried.1) ∙ e))

    -- its device fails in the append of a record alone
    pub fails_logging : (st : Stepped) → Steps old new st (Err Device) → (what : Stepped) → what ≡ where_room old.gate st →
        (r : Record) × ((memory : Memory) × ((out : List Envelope) × (what ≡ Does (Some r) memory out)))
    fails_logging st k what is = by_tried st is k.written.tried
      where
        by_tried : (t : Stepped) → what ≡ where_room old.gate t → ((Device ≡ Device) × IsTried old.gate (record_of t))
            ⊎ ((Device ≢ Device) × LeavesOnly clock since old.disk new.disk (MayLeave (surface (file old.disk)))) →
            (r : Record) × ((memory : Memory) × ((out : List Envelope) × (what ≡ Does (Some r) memory out)))
        by_tried t e (inr other) = absurd (other.0 refl)
        by_tried (Refuses f) e (inl tried) = absurd tried.1
        by_tried (Does None memory out) e (inl tried) = absurd tried.1
        by_tried (Does (Some r) memory out) e (inl tried) = (r, (memory, (out, e ∙ room_for old.gate (Some r) memory out tried.1)))

    -- and the core is stopped
    pub is_stopped : (r : Record) (memory : Memory) (out : List Envelope) → Steps old new (Does (Some r) memory out) (Err Device) → new.stopped ≡ true
    is_stopped r memory out k = by_cause (subst (λ b. IsCause b (Does (Some r) memory out) Device
        (IsLogFull old.gate (Some r)) ((failures old.disk < failures new.disk) × IsTrue new.stopped)) h.runs k.cause)
      where
        by_cause : (Device ≡ WantsMemory) ⊎ (((Device ≡ TimeSpent) × IsLogFull old.gate (Some r))
            ⊎ ((Device ≡ Device) × ((failures old.disk < failures new.disk) × IsTrue new.stopped))) → new.stopped ≡ true
        by_cause (inl wants) = cc
        by_cause (inr (inl full)) = absurd (spent_no_device (sym full.0))
        by_cause (inr (inr device)) = device.1.1

    -- it still knows what it knew
    pub still_failed : (st : Stepped) (fault : Fault) → Steps old new st (Err fault) → (t : ShardNow) → t.log ≡ read_log s →
        StillKnows file setup t m new
    still_failed st fault k t is = record {
      setup_is = k.written.setup ∙ h.setup_is;
      knows = subst (λ f. Alike f (facts_of t.log)) (sym k.written.kept.0) (subst (λ l. Alike old.facts (facts_of l)) (sym is) knows_read);
      memory = k.written.kept.1 ∙ h.memory;
    }

    pub still_turned : (result : Result (List Envelope) Fault) → Turned old new result → (t : ShardNow) → t.log ≡ read_log s →
        StillKnows file setup t m new
    still_turned result k t is = record {
      setup_is = k.setup ∙ h.setup_is;
      knows = subst (λ f. Alike f (facts_of t.log)) (sym k.facts) (subst (λ l. Alike old.facts (facts_of l)) (sym is) knows_read);
      memory = k.memory ∙ h.memory;
    }

    -- memory is refused
    pub starved : (st : Stepped) → Steps old new st (Err WantsMemory) → IsRunning file setup s m new
    starved st k = stays WantsMemory k.written.kept k.written.setup k.written.slot memory_no_device

    -- ---- its log is turned over

    -- into the records that the definitions have
    same_turned : IsLasting (facts_of (read_log s)) → (result : Result (List Envelope) Fault) → Turned old new result →
        turned old.facts ≡ turned (facts_of (read_log s))
    same_turned lasting result k = one-turnover old.facts (facts_of (read_log s)) knows_read k.regular lasting.regular

    -- which stand behind the gate
    same_beginning : turned_to old.gate old.slot ≡ beginning_of (new_area s)
    same_beginning = λ j. record { at = h.gate j + 1; slots = h.slot j + 1 }

    module _ (lasting : IsLasting (facts_of (read_log s))) (result : Result (List Envelope) Fault) (k : Turned old new result) where
      holds_new : (image : List ℕ) → records_in image ≡ Ok (turned old.facts) → begins_in image ≡ turned_to old.gate old.slot →
          HoldsArea (new_area s) image
      holds_new image read at = (read ∙ ap (λ l. Ok l) (same_turned lasting result k), at ∙ same_beginning)

      either : (image : List ℕ) → IsOldOrTurned (surface (file old.disk)) old.gate old.slot (turned old.facts) image →
          HoldsArea (read_area s) image ⊎ HoldsArea (new_area s) image
      either image (inl was) = inl (was.0 ∙ h.disk.read.0, was.1 ∙ h.disk.read.1)
      either image (inr new_one) = inr (holds_new image new_one.0 new_one.1)

      -- since the call began a crash leaves the area, or the new one
      pub turned_since : (image : List ℕ) → since new.disk (clock old.disk) image → HoldsArea (read_area s) image ⊎ HoldsArea (new_area s) image
      turned_since image left = either image ((k.any_moment h.runs kept).each image left)

      pub turned_now : (image : List ℕ) → MayLeave (surface (file new.disk)) image → HoldsArea (read_area s) image ⊎ HoldsArea (new_area s) image
      turned_now image may = turned_since image (counts new.disk (clock old.disk) image (k.any_moment h.runs kept).later may)

      -- where the new area ends
      same_end : end_from (old.gate + 1) (turned old.facts) ≡ gate_of (new_area s)
      same_end = λ j. end_from (h.gate j + 1) (same_turned lasting result k j)

    -- it was
    turned_over : IsLasting (facts_of (read_log s)) → (out : List Envelope) → Turned old new (Ok out) →
        IsRunning file setup (finished s Doing.Turn None m) m new
    unfolding finished
    turned_over lasting out k = record {
      setup_is = k.setup ∙ h.setup_is;
      knows = subst (λ f. Alike f (facts_of (read_log s ++ []))) (sym k.facts)
          (subst (λ l. Alike old.facts (facts_of l)) (sym (append-nil (read_log s))) knows_read);
      memory = k.memory ∙ h.memory;
      disk = surely_holds file (finished s Doing.Turn None m) new.disk refl
          (λ image may. holds_new lasting (Ok out) k image (k.durable kept image may) (k.begins kept image may));
      runs = k.done.1;
      sure = refl;
      gate = k.done.2 ∙ same_end lasting (Ok out) k;
      slot = k.done.3 ∙ ap (λ n. n + 1) h.slot;
    }

    -- it was not, and all is as it was
    not_turned : (fault : Fault) → Turned old new (Err fault) → fault ≢ Device → IsRunning file setup s m new
    not_turned fault k other = by_kept k.kept
      where
        by_kept : (fault ≡ Device) ⊎ ((new.stopped ≡ old.stopped) × (new.gate ≡ old.gate) × (new.slot ≡ old.slot)
            × (file new.disk ≡ file old.disk)) → IsRunning file setup s m new
        by_kept (inl device) = absurd (other device)
        by_kept (inr same) = record {
          setup_is = k.setup ∙ h.setup_is;
          knows = subst (λ f. Alike f (facts_of s.log)) (sym k.facts) h.knows;
          memory = k.memory ∙ h.memory;
          disk = same_holds file s old.disk new.disk same.3 h.disk;
          runs = same.0 ∙ h.runs;
          sure = h.sure;
          gate = same.1 ∙ h.gate;
          slot = same.2 ∙ h.slot;
        }

    -- why it was not
    why_not : (fault : Fault) → Turned old new (Err fault) → IsTurnCause fault (HasNoTurnPlace old.slot old.gate (turned old.facts))
        ((failures old.disk < failures new.disk) × IsTrue new.stopped)
    why_not fault k = by_cause k.cause
      where
        by_cause : ((fault ≡ Stopped) × IsTrue old.stopped × (new ≡ old))
            ⊎ ((old.stopped ≡ false) × IsTurnCause fault (HasNoTurnPlace old.slot old.gate (turned old.facts))
            ((failures old.disk < failures new.disk) × IsTrue new.stopped)) →
            IsTurnCause fault (HasNoTurnPlace old.slot old.gate (turned old.facts)) ((failures old.disk < failures new.disk) × IsTrue new.stopped)
        by_cause (inl stopped) = absurd (false≢true (sym h.runs ∙ stopped.1))
        by_cause (inr cause) = cause.1

    pub turn_comes : IsLasting (facts_of (read_log s)) → s.state ≡ Runs m → (result : Result (List Envelope) Fault) → Turned old new result →
        IsOwnAnswer result → Comes setup s Doing.Turn (Up new) (step_of_turnover s m)
    turn_comes lasting is (Ok out) k own =
        let slot : (read_area s).slot < slot_count = subst (λ n. n < slot_count) h.slot k.place.0 in
        let room : gate_of (new_area s) + 1 ≤ 2 ^ 40 = subst (λ n. n + 1 ≤ 2 ^ 40) (same_end lasting (Ok out) k) k.place.1 in
        subst (Comes setup s Doing.Turn (Up new)) (sym (has_a_place s m slot room)) (turned_over lasting out k)
    turn_comes lasting is (Err fault) k own = by_cause (why_not fault k)
      where
        here : LivesAs file setup s (Up new)
        here = subst (LivesIn file setup s (Up new)) (sym is) (not_turned fault k own.1)

        by_cause : IsTurnCause fault (HasNoTurnPlace old.slot old.gate (turned old.facts)) ((failures old.disk < failures new.disk) × IsTrue new.stopped) →
            Comes setup s Doing.Turn (Up new) (step_of_turnover s m)
        by_cause (inl wants) = absurd (own.0 wants)
        by_cause (inr (inl full)) = subst (Comes setup s Doing.Turn (Up new)) (sym (has_no_place s m (no_place full.1))) here
          where
            no_place : HasNoTurnPlace old.slot old.gate (turned old.facts) →
                HasNoTurnPlace (read_area s).slot (gate_of (read_area s)) (turned (facts_of (read_log s)))
            no_place = subst (λ x. x) (λ j. HasNoTurnPlace (h.slot j) (h.gate j) (same_turned lasting (Err fault) k j))
        by_cause (inr (inr device)) = absurd (own.1 device.0)

    -- where there is a place for it, the definitions do it
    turn_does : IsLasting (facts_of (read_log s)) → (result : Result (List Envelope) Fault) → Turned old new result →
        HasTurnPlace old.slot old.gate (turned old.facts) → step_of_turnover s m ≡ Does None m []
    turn_does lasting result k place = has_a_place s m (subst (λ n. n < slot_count) h.slot place.0)
        (subst (λ n. n + 1 ≤ 2 ^ 40) (same_end lasting result k) place.1)

    -- what it answers is what the definitions do
    pub turn_answers : IsLasting (facts_of (read_log s)) → (result : Result (List Envelope) Fault) → Turned old new result →
        IfOk result (λ out. out ≡ []) → IsOwnAnswer result → result ≡ answer_in (step_of_turnover s m)
    turn_answers lasting (Ok out) k empty own = ap (λ o. Ok o) empty ∙ sym (ap answer_in (turn_does lasting (Ok out) k k.place))
    turn_answers lasting (Err fault) k empty own = by_cause (why_not fault k)
      where
        no_place : HasNoTurnPlace old.slot old.gate (turned old.facts) →
            HasNoTurnPlace (read_area s).slot (gate_of (read_area s)) (turned (facts_of (read_log s)))
        no_place = subst (λ x. x) (λ j. HasNoTurnPlace (h.slot j) (h.gate j) (same_turned lasting (Err fault) k j))

        by_cause : IsTurnCause fault (HasNoTurnPlace old.slot old.gate (turned old.facts)) ((failures old.disk < failures new.disk) × IsTrue new.stopped) →
            ◌≡◌ {A = Result (List Envelope) Fault} (Err fault) (answer_in (step_of_turnover s m))
        by_cause (inl wants) = absurd (own.0 wants)
        by_cause (inr (inl full)) = ap (λ f. Err f) full.0 ∙ sym (ap answer_in (has_no_place s m (no_place full.1)))
        by_cause (inr (inr device)) = absurd (own.1 device.0)

    -- where they refuse it, since the call began a crash leaves only what it might have left before
    pub turn_only_before : IsLasting (facts_of (read_log s)) → (result : Result (List Envelope) Fault) → Turned old new result → (why : Fault) →
        step_of_turnover s m ≡ Refuses why → (image : List ℕ) → since new.disk (clock old.disk) image → MayLeave (surface (file old.disk)) image
    turn_only_before lasting (Ok out) k why is image left = absurd (does_not_refuse why (sym (turn_does lasting (Ok out) k k.place) ∙ is))
    turn_only_before lasting (Err fault) k why is image left = by_tried k.tried
      where
        by_tried : ((fault ≡ Device) × HasTurnPlace old.slot old.gate (turned old.facts))
            ⊎ ((fault ≢ Device) × LeavesOnly clock since old.disk new.disk (MayLeave (surface (file old.disk)))) → MayLeave (surface (file old.disk)) image
        by_tried (inl tried) = absurd (does_not_refuse why (sym (turn_does lasting (Err fault) k tried.1) ∙ is))
        by_tried (inr it) = it.1.each image left

    -- its device fails in it where they do it
    pub turn_fails_doing : IsLasting (facts_of (read_log s)) → Turned old new (Err Device) → step_of_turnover s m ≡ Does None m []
    turn_fails_doing lasting k = by_tried k.tried
      where
        by_tried : ((Device ≡ Device) × HasTurnPlace old.slot old.gate (turned old.facts))
            ⊎ ((Device ≢ Device) × LeavesOnly clock since old.disk new.disk (MayLeave (surface (file old.disk)))) → step_of_turnover s m ≡ Does None m []
        by_tried (inl tried) = turn_does lasting (Err Device) k tried.1
        by_tried (inr other) = absurd (other.0 refl)

    -- its device failed in it
    pub turn_stops : Turned old new (Err Device) → new.stopped ≡ true
    turn_stops k = by_cause (why_not Device k)
      where
        by_cause : IsTurnCause Device (HasNoTurnPlace old.slot old.gate (turned old.facts)) ((failures old.disk < failures new.disk) × IsTrue new.stopped) →
            new.stopped ≡ true
        by_cause (inl wants) = cc
        by_cause (inr (inl full)) = absurd (spent_no_device (sym full.0))
        by_cause (inr (inr device)) = device.1.1

    pub turn_fails : IsLasting (facts_of (read_log s)) → (call : ℕ) → nat_lt call 5 ≡ true → Turned old new (Err Device) →
        HoldsArea (read_area (failed_turn s call)) (surface (file new.disk)).seen →
        (nat_le 3 call ≡ true) ⊎ HoldsSurely file new.disk (read_area s) → HoldsLog file (failed_turn s call) new.disk
    turn_fails lasting call lt k read (inl le) = turn_failed_holds file s call new.disk lt read (turned_now lasting (Err Device) k) le
    turn_fails lasting call lt k read (inr surely) = turn_without_holds file s call new.disk read surely

    pub turn_starved : Turned old new (Err WantsMemory) → IsRunning file setup s m new
    turn_starved k = not_turned WantsMemory k memory_no_device

  -- ---- a core that is stopped

  module _ (setup : Setup) (s : ShardNow) (old new : CoreView D) (stopped : old.stopped ≡ true) (h : HoldsLog file s old.disk) where
    because : (st : Stepped) (fault : Fault) → Steps old new st (Err fault) → fault ≡ Stopped
    because st fault k = subst (λ b. IsCause b st fault (IsLogFull old.gate (record_of st))
        ((failures old.disk < failures new.disk) × IsTrue new.stopped)) stopped k.cause

    same : (fault : Fault) → StandsAsBefore file old new fault → fault ≡ Stopped → (new.stopped ≡ true) × HoldsLog file s new.disk
    same fault (facts, memory, inl device) is = absurd (not_wanted fault Stopped is stopped_no_device device)
    same fault (facts, memory, inr same_log) is = (same_log.0 ∙ stopped, same_holds file s old.disk new.disk same_log.2 h)

    pub refuses_all : (st : Stepped) (result : Result (List Envelope) Fault) → Steps old new st result → (new.stopped ≡ true) × HoldsLog file s new.disk
    refuses_all st (Ok out) k = absurd (false≢true (sym k.done.0 ∙ stopped))
    refuses_all st (Err fault) k = same fault k.written.kept (because st fault k)

    -- what it answers
    pub stopped_answers : (st : Stepped) (result : Result (List Envelope) Fault) → Steps old new st result → result ≡ Err Stopped
    stopped_answers st (Ok out) k = absurd (false≢true (sym k.done.0 ∙ stopped))
    stopped_answers st (Err fault) k = ap (λ f. Err f) (because st fault k)

    pub stopped_turn_answers : (result : Result (List Envelope) Fault) → Turned old new result → result ≡ Err Stopped
    stopped_turn_answers (Ok out) k = absurd (false≢true (sym k.done.0 ∙ stopped))
    stopped_turn_answers (Err fault) k = by_cause k.cause
      where
        by_cause : ((fault ≡ Stopped) × IsTrue old.stopped × (new ≡ old))
            ⊎ ((old.stopped ≡ false) × IsTurnCause fault (HasNoTurnPlace old.slot old.gate (turned old.facts))
            ((failures old.disk < failures new.disk) × IsTrue new.stopped)) → ◌≡◌ {A = Result (List Envelope) Fault} (Err fault) (Err Stopped)
        by_cause (inl is) = ap (λ f. Err f) is.0
        by_cause (inr runs) = absurd (false≢true (sym runs.0 ∙ stopped))

    -- it knows what it knew
    pub still_refused : (m : Memory) (st : Stepped) (result : Result (List Envelope) Fault) → Steps old new st result → StillKnows file setup s m old →
        StillKnows file setup s m new
    still_refused m st (Ok out) k w = absurd (false≢true (sym k.done.0 ∙ stopped))
    still_refused m st (Err fault) k w = record {
      setup_is = k.written.setup ∙ w.setup_is;
      knows = subst (λ f. Alike f (facts_of s.log)) (sym k.written.kept.0) w.knows;
      memory = k.written.kept.1 ∙ w.memory;
    }

    pub still_unturned : (m : Memory) (result : Result (List Envelope) Fault) → Turned old new result → StillKnows file setup s m old →
        StillKnows file setup s m new
    still_unturned m result k w = record {
      setup_is = k.setup ∙ w.setup_is;
      knows = subst (λ f. Alike f (facts_of s.log)) (sym k.facts) w.knows;
      memory = k.memory ∙ w.memory;
    }

    -- and since the call began a crash leaves only what it might have left before
    pub refused_only_before : (st : Stepped) (result : Result (List Envelope) Fault) → Steps old new st result → (image : List ℕ) →
        since new.disk (clock old.disk) image → MayLeave (surface (file old.disk)) image
    refused_only_before st (Ok out) k image left = absurd (false≢true (sym k.done.0 ∙ stopped))
    refused_only_before st (Err fault) k image left = by_tried k.written.tried
      where
        by_tried : ((fault ≡ Device) × IsTried old.gate (record_of st))
            ⊎ ((fault ≢ Device) × LeavesOnly clock since old.disk new.disk (MayLeave (surface (file old.disk)))) → MayLeave (surface (file old.disk)) image
        by_tried (inl tried) = absurd (not_wanted fault Stopped (because st fault k) stopped_no_device tried.0)
        by_tried (inr it) = it.1.each image left

    -- so its device fails in none
    pub stopped_fails_not : (st : Stepped) → Steps old new st (Err Device) → ⊥
    stopped_fails_not st k = stopped_no_device (sym (because st Device k))

    pub stopped_turns_not : Turned old new (Err Device) → ⊥
    stopped_turns_not k = by_cause k.cause
      where
        by_cause : ((Device ≡ Stopped) × IsTrue old.stopped × (new ≡ old))
            ⊎ ((old.stopped ≡ false) × IsTurnCause Device (HasNoTurnPlace old.slot old.gate (turned old.facts))
            ((failures old.disk < failures new.disk) × IsTrue new.stopped)) → ⊥
        by_cause (inl is) = stopped_no_device (sym is.0)
        by_cause (inr runs) = false≢true (sym runs.0 ∙ stopped)

    pub turn_refused_only_before : (result : Result (List Envelope) Fault) → Turned old new result → (image : List ℕ) →
        since new.disk (clock old.disk) image → MayLeave (surface (file old.disk)) image
    turn_refused_only_before (Ok out) k image left = absurd (false≢true (sym k.done.0 ∙ stopped))
    turn_refused_only_before (Err fault) k image left = by_tried k.tried k.cause
      where
        by_tried : ((fault ≡ Device) × HasTurnPlace old.slot old.gate (turned old.facts))
            ⊎ ((fault ≢ Device) × LeavesOnly clock since old.disk new.disk (MayLeave (surface (file old.disk)))) →
            ((fault ≡ Stopped) × IsTrue old.stopped × (new ≡ old))
            ⊎ ((old.stopped ≡ false) × IsTurnCause fault (HasNoTurnPlace old.slot old.gate (turned old.facts))
            ((failures old.disk < failures new.disk) × IsTrue new.stopped)) → MayLeave (surface (file old.disk)) image
        by_tried (inr it) cause = it.1.each image left
        by_tried (inl tried) (inl is) = absurd (not_wanted fault Stopped is.0 stopped_no_device tried.0)
        by_tried (inl tried) (inr runs) = absurd (false≢true (sym runs.0 ∙ stopped))

    pub refuses_turn : (result : Result (List Envelope) Fault) → Turned old new result → (new.stopped ≡ true) × HoldsLog file s new.disk
    refuses_turn (Ok out) k = absurd (false≢true (sym k.done.0 ∙ stopped))
    refuses_turn (Err fault) k = by_cause k.cause
      where
        by_cause : ((fault ≡ Stopped) × IsTrue old.stopped × (new ≡ old))
            ⊎ ((old.stopped ≡ false) × IsTurnCause fault (HasNoTurnPlace old.slot old.gate (turned old.facts))
            ((failures old.disk < failures new.disk) × IsTrue new.stopped)) → (new.stopped ≡ true) × HoldsLog file s new.disk
        by_cause (inl as_it_was) = subst (λ (c : CoreView D). (c.stopped ≡ true) × HoldsLog file s c.disk) (sym as_it_was.2) (stopped, h)
        by_cause (inr runs) = absurd (false≢true (sym runs.0 ∙ stopped))

  -- ---- a disk that is opened

  module _ (setup : Setup) (s : ShardNow) (disk : D) (h : HoldsLog file s disk) where
    ends : (rs : List Record) → end_in (surface (file disk)).seen rs ≡ end_from (read_area s).begins rs
    ends rs = λ j. end_from (h.read.1 j).at rs

    -- it was
    pub opened : (core : CoreView D) → HasOpened keeps obeys file clock since failures plan disk setup core → IsKnown setup s →
        Comes setup s Doing.Open (Up core) (opens_as s)
    unfolding finished
    opened core k known =
        let rs : List Record = (read_area s).records in
        let q : Record = opening_now s in
        let area : Area = with_records (read_area s) (q ∷ []) in
        let memory : Memory = rebuilt (facts_of (read_log s)) in
        let found : and_logged (records_in (surface (file disk)).seen) (opening_of (records_in (surface (file disk)).seen)) ≡ Ok area.records =
        ap (λ x. and_logged x (opening_of x)) h.read.0 in
        let surely : HoldsSurely file core.disk area = λ image may. (k.durable kept image may ∙ found, k.begun kept image may ∙ h.read.1) in
        let facts : core.facts ≡ facts_of area.records = (subst (λ x. IsTaken setup x core.facts) h.read.0 (k.taken kept)).1 in
        let gate = k.gate rs kept h.read.0 in
        let running : IsRunning file setup (finished s Doing.Open (Some q) memory) memory core = record {
          setup_is = k.setup;
          knows = subst (λ f. Alike f (facts_of (read_log s ++ q ∷ []))) (sym facts)
              (still_alike s known.alike setup known.takes_area (opening_next setup s known));
          memory = k.memory ∙ ap rebuilt facts ∙ finds_same s known.alike setup known.takes_area;
          disk = surely_holds file (finished s Doing.Open (Some q) memory) core.disk refl surely;
          runs = k.running;
          sure = refl;
          gate = gate.0 ∙ ap (λ n. next_gate n q) (ends rs) ∙ end_with (read_area s) (Some q);
          slot = k.slot kept ∙ (λ j. (h.read.1 j).slots);
        } in
        subst (Comes setup s Doing.Open (Up core))
        (sym (does s known.alike (k.epoch rs kept h.read.0) (subst (λ n. HasPlace n (Some q)) (ends rs) gate.1))) running

    -- where it has room, the definitions do it
    pub opens : (records : List Record) → records_in (surface (file disk)).seen ≡ Ok records → epoch_of records + 1 < 2 ^ 62 →
        HasPlace (end_in (surface (file disk)).seen records) (Some (next_opening records)) → IsKnown setup s →
        opens_as s ≡ Does (Some (opening_now s)) (rebuilt (facts_of (read_log s))) []
    opens records read epoch place known =
        let same_log : records ≡ (read_area s).records = ok_same records (read_area s).records (records_in (surface (file disk)).seen) read h.read.0 in
        does s known.alike (subst (λ l. epoch_of l + 1 < 2 ^ 62) same_log epoch)
        (subst (λ n. HasPlace n (Some (opening_now s))) (ends (read_area s).records)
        (subst (λ l. HasPlace (end_in (surface (file disk)).seen l) (Some (next_opening l))) same_log place))

    -- they don't refuse one that was done
    pub opened_not_refused : (core : CoreView D) → HasOpened keeps obeys file clock since failures plan disk setup core → IsKnown setup s → (why : Fault) →
        opens_as s ≡ Refuses why → ⊥
    opened_not_refused core k known why is =
        let rs : List Record = (read_area s).records in
        does_not_refuse why (sym (opens rs h.read.0 (k.epoch rs kept h.read.0) (k.gate rs kept h.read.0).1 known) ∙ is)

    -- where they refuse it, since the call began a crash leaves only what it might have left before
    pub not_opened_only_before : (fault : Fault) (back : D) → HasNotOpened keeps obeys file clock since failures plan disk setup fault back → IsKnown setup s →
        (why : Fault) → opens_as s ≡ Refuses why → (image : List ℕ) → since back (clock disk) image → MayLeave (surface (file disk)) image
    not_opened_only_before fault back k known why is image left = by_tried k.tried
      where
        by_tried : ((fault ≡ Device) × (keeps → HasRoom setup (surface (file disk))))
            ⊎ (keeps → LeavesOnly clock since disk back (MayLeave (surface (file disk)))) → MayLeave (surface (file disk)) image
        by_tried (inl tried) =
            let room = tried.1 kept in
            absurd (does_not_refuse why (sym (opens room.0 room.1.read room.1.epoch room.1.place known) ∙ is))
        by_tried (inr it) = (it kept).each image left

    -- it was refused for the reason that the definitions have
    pub not_opened : (fault : Fault) (back : D) → HasNotOpened keeps obeys file clock since failures plan disk setup fault back → IsOwn fault →
        IsKnown setup s → (opens_as s ≡ Refuses TimeSpent) × HoldsLog file (crashed s (read_log s) (read_area s)) back
    not_opened fault back k own known = by_cause k.cause
      where
        rs : List Record
        rs = (read_area s).records

        Goal : Type 0
        Goal = (opens_as s ≡ Refuses TimeSpent) × HoldsLog file (crashed s (read_log s) (read_area s)) back

        synced : fault ≡ TimeSpent → (fault ≡ WantsMemory) ⊎ ((fault ≡ Device) ⊎ (keeps → surface (file back) ≡ after_sync (surface (file disk)))) →
            HoldsLog file (crashed s (read_log s) (read_area s)) back
        synced is (inl wants) = absurd (own.0 wants)
        synced is (inr (inl device)) = absurd (own.1 device)
        synced is (inr (inr clean)) = surely_holds file (crashed s (read_log s) (read_area s)) back refl
            (subst (λ f. (image : List ℕ) → MayLeave f image → HoldsArea (read_area s) image) (sym (clean kept))
            (λ image may. subst (HoldsArea (read_area s)) (sym (may.unchanged refl)) h.read))

        no_room : (2 ^ 62 ≤ epoch_of rs + 1) ⊎ IsFull (end_in (surface (file disk)).seen rs) (opening_now s) → opens_as s ≡ Refuses TimeSpent
        no_room spent = refuses s known.alike (subst (λ n. (2 ^ 62 ≤ epoch_of rs + 1) ⊎ IsFull n (opening_now s)) (ends rs) spent)

        reason : IsReason setup (surface (file disk)) fault → Goal
        reason (inl found) = absurd (no_fault setup (scanned_log (surface (file disk)).seen) rs fault h.read.0 known.takes_area found)
        reason (inr (is, (others, spent))) =
            let same_log : others ≡ rs = ok_same others rs (records_in (surface (file disk)).seen) spent.read h.read.0 in (
              no_room (subst (λ l. (2 ^ 62 ≤ epoch_of l + 1) ⊎ IsFull (end_in (surface (file disk)).seen l) (next_opening l)) same_log spent.spent),
              synced is k.synced,
            )

        by_cause : (fault ≡ WantsMemory) ⊎ (((fault ≡ Device) × (failures disk < failures back))
            ⊎ (IsTrue (is_reason fault) × (keeps → IsReason setup (surface (file disk)) fault))) → Goal
        by_cause (inl wants) = absurd (own.0 wants)
        by_cause (inr (inl device)) = absurd (own.1 device.0)
        by_cause (inr (inr told)) = reason (told.1 kept)

    pub not_opened_spent : (fault : Fault) (back : D) → HasNotOpened keeps obeys file clock since failures plan disk setup fault back → IsOwn fault →
        IsKnown setup s → fault ≡ TimeSpent
    not_opened_spent fault back k own known = by_cause k.cause
      where
        reason : IsReason setup (surface (file disk)) fault → fault ≡ TimeSpent
        reason (inl found) = absurd (no_fault setup (scanned_log (surface (file disk)).seen) (read_area s).records fault h.read.0 known.takes_area found)
        reason (inr spent) = spent.0

        by_cause : (fault ≡ WantsMemory) ⊎ (((fault ≡ Device) × (failures disk < failures back))
            ⊎ (IsTrue (is_reason fault) × (keeps → IsReason setup (surface (file disk)) fault))) → fault ≡ TimeSpent
        by_cause (inl wants) = absurd (own.0 wants)
        by_cause (inr (inl device)) = absurd (own.1 device.0)
        by_cause (inr (inr told)) = reason (told.1 kept)

    -- a crash within the call leaves no more than one before it, or what was read, or that with the opening
    abbrev pub LeavesRead : List ℕ → Type 0
    LeavesRead image = ReadsAs (MayLeaveArea s) image ⊎ HoldsOr (read_area s) (Some (opening_now s)) image

    leaves_read : (image : List ℕ) → LeavesOpening (surface (file disk)) image → BeginsAsBefore (surface (file disk)) image → LeavesRead image
    leaves_read image (inl before) began = inl (h.left image before)
    leaves_read image (inr read) (inl before) = inl (h.left image before)
    leaves_read image (inr read) (inr same) = inr (holds_or (read_area s) (Some (opening_now s)) image
        (subst (λ x. HoldsOldOrWith x (opening_of x) image) h.read.0 read) (same ∙ h.read.1))

    pub opened_since : (core : CoreView D) → HasOpened keeps obeys file clock since failures plan disk setup core → (image : List ℕ) →
        since core.disk (clock disk) image → LeavesRead image
    opened_since core k image left = leaves_read image ((k.any_moment kept).each image left) ((k.begins kept).each image left)

    pub not_opened_since : (fault : Fault) (back : D) → HasNotOpened keeps obeys file clock since failures plan disk setup fault back →
        (image : List ℕ) → since back (clock disk) image → LeavesRead image
    not_opened_since fault back k image left = leaves_read image ((k.any_moment kept).each image left) ((k.begins kept).each image left)

    -- and where nothing was unsure it leaves one of the latter
    pub not_opened_now : (fault : Fault) (back : D) → HasNotOpened keeps obeys file clock since failures plan disk setup fault back →
        s.unsure ≡ Nothing → (image : List ℕ) → MayLeave (surface (file back)) image → HoldsOr (read_area s) (Some (opening_now s)) image
    not_opened_now fault back k sure image may =
        by_left (not_opened_since fault back k image (counts back (clock disk) image (k.any_moment kept).later may))
      where
        by_left : LeavesRead image → HoldsOr (read_area s) (Some (opening_now s)) image
        by_left (inl before) = inl (sure_only s image sure before)
        by_left (inr read) = read
