-- What an input that is refused, or that logs nothing, leaves of a core.
use Rattle.std.proofs.Common.{◌∙◌, ◌≡◌, inl, inr, ℕ, ◌+◌, ◌^◌, ◌≤◌, ◌<◌, nat_lt, true, IsTrue, IsFalse, List, Option, Some, None, Result, Ok, Err, IfOk, refl}
use Rattle.std.proofs.Common.{sym, subst, arith}
use Rattle.std.proofs.lemmas.Bool.{false≢true}
use Rattle.units.specs.declared.fault.Fault.{Fault}
use Rattle.units.specs.declared.fault.Fault.TheVariants.{Device, Memory as WantsMemory, Stopped}
use Rattle.units.specs.declared.setup.Setup.{Setup}
use Rattle.disk.specs.declared.plan.FailurePlan.{FailurePlan}
use Rattle.disk.specs.declared.plan.FailurePlan.TheVariants.{Never, AfterWrite}
use Rattle.gatelog.specs.Frames.{next_gate}
use Rattle.disk.specs.Image.{MayLeave}
use Rattle.disk.specs.File.{File, surface}
use Rattle.disk.specs.Moments.{LeavesOnly}
use Rattle.message.specs.declared.message.Envelope.{Envelope}
use Rattle.record.specs.declared.record.Record.{Record}
use Rattle.record.specs.Facts.{Facts}
use Rattle.protocol.specs.Rows.{Memory}
use Rattle.protocol.specs.Plan.{Planned}
use Rattle.protocol.specs.Step.{Stepped, Refuses, Does, facts_after, stepped}
use Rattle.protocol.specs.Refusals.{Owns, is_own}
use Rattle.memory.specs.Kept.{IsRefusal}
use Rattle.shard.specs.Logs.{records_in, and_logged, KeepsRecords, HoldsOldOrWith, BeginsAsBefore}
use Rattle.shard.specs.Armed.{FailsIn}
use Rattle.shard.specs.On.{CoreView, IsCause, IsDone, IsLogFull, HasWritten, HasStepped, record_of}
use Rattle.shard.proofs.Appends.{no-time}

abbrev no_answer : Fault → Result (List Envelope) Fault
no_answer fault = Err fault

-- nothing is added
pub and-none : (records : Result (List Record) Fault) → and_logged records None ≡ records
and-none (Ok records) = refl
and-none (Err fault) = refl

-- a refusal of the step's own is no failing device, nor is want of memory
pub refusal_is_no_device : (planned : Planned) (fault : Fault) → Owns planned → IsRefusal planned fault → fault ≡ Device → ⊥
refusal_is_no_device (Ok p) fault own refusal device = cc
refusal_is_no_device (Err why) fault own refusal device =
    absurd (false≢true (subst (λ (f : Fault). is_own f ≡ true) (sym refusal ∙ device) own))

-- where the device does not fail, no call that is armed does
pub fails_not : (call gate : ℕ) (records : Result (List Record) Fault) (logged : Option Record) (file : File) (fault : Fault)
    → (fault ≡ Device → ⊥) → FailsIn call gate records logged file fault
fails_not call gate records None file fault other = other
fails_not call gate records (Some r) file fault other = λ device. absurd (other device)

-- what is put out
pub outbox_of : {D : Type 0} (old new : CoreView D) (logged : Option Record) (after : Memory) (outbox : List Envelope) (result : Result (List Envelope) Fault)
    → IfOk result (λ out. IsFalse old.stopped × IsFalse new.stopped × IsDone (Does logged after outbox) old new out) → IfOk result (λ out. out ≡ outbox)
outbox_of old new logged after outbox (Ok out) h = h.2.2
outbox_of old new logged after outbox (Err fault) h = tt

module _ {D : Type 0} (keeps obeys : Type 0) (file : D → File) (clock : D → ℕ) (since : D → ℕ → List ℕ → Type 0) (failures : D → ℕ) (plan : D → FailurePlan)
    (only_now : (d : D) (image : List ℕ) → since d (clock d) image → MayLeave (surface (file d)) image) where
  -- a stopped core does nothing
  pub stopped_refuses : (core : CoreView D) → IsTrue core.stopped → (st : Stepped)
      → HasStepped keeps obeys file clock since failures plan core core st (no_answer Stopped)
  stopped_refuses core stopped st = record {
    written = record {
      setup = refl;
      slot = refl;
      failures_stay = omega arith;
      any_moment = λ run. absurd (no run);
      begins = λ run. absurd (no run);
      durable = tt;
      read = tt;
      gate = tt;
      place = tt;
      kept = (refl, refl, inr (refl, refl, refl));
      tried = inr (other, no-time file clock since only_now core.disk);
      planned = λ obey never. (never, other);
      armed = λ call run. absurd (no run);
    };
    done = tt;
    cause = subst (λ b. IsCause b st Stopped (IsLogFull core.gate (record_of st)) ((failures core.disk < failures core.disk) × IsTrue core.stopped))
        (sym stopped) refl;
  }
    where
      no : IsFalse core.stopped → ⊥
      no run = false≢true (sym run ∙ stopped)

      other : Stopped ≡ Device → ⊥
      other e = cc

  module _ (core : CoreView D) (running : IsFalse core.stopped) (stands : keeps → KeepsRecords (surface (file core.disk))
      (records_in (surface (file core.disk)).seen)) where
    -- the core with this told and known of it
    abbrev with_known : Setup → Facts → Memory → CoreView D
    with_known setup facts memory = record core { setup = setup; facts = facts; memory = memory }

    -- nothing was done to the disk
    untouched : (logged : Option Record) → keeps → LeavesOnly clock since core.disk core.disk
        (HoldsOldOrWith (records_in (surface (file core.disk)).seen) logged)
    untouched logged keep = record {
      later = omega arith;
      each = λ image left. inl (stands keep image (only_now core.disk image left));
      before = λ moment image le left. inl left;
    }

    untried : LeavesOnly clock since core.disk core.disk (MayLeave (surface (file core.disk)))
    untried = no-time file clock since only_now core.disk

    begins-untouched : LeavesOnly clock since core.disk core.disk (BeginsAsBefore (surface (file core.disk)))
    begins-untouched = record {
      later = omega arith;
      each = λ image left. inl (only_now core.disk image left);
      before = λ moment image le left. inl left;
    }

    module _ (setup : Setup) (facts : Facts) (memory : Memory) (is_setup : setup ≡ core.setup) (is_facts : facts ≡ core.facts) where
      refused-written : memory ≡ core.memory → (logged : Option Record) (fault : Fault) → (fault ≡ Device → ⊥)
          → HasWritten keeps obeys file clock since failures plan core (with_known setup facts memory) logged (no_answer fault)
      refused-written is_memory logged fault other = record {
        setup = is_setup;
        slot = refl;
        failures_stay = omega arith;
        any_moment = λ run keep. untouched logged keep;
        begins = λ run keep. begins-untouched;
        durable = tt;
        read = tt;
        gate = tt;
        place = tt;
        kept = (is_facts, is_memory, inr (refl, refl, refl));
        tried = inr (other, untried);
        planned = λ obey never. (never, other);
        armed = λ call run obey keep is. (tt, fails_not call core.gate (records_in (surface (file core.disk)).seen) logged (file core.disk) fault other);
      }

      -- a refusal of a plan; or want of memory, where there is one
      pub refused : memory ≡ core.memory → (planned : Planned) (fault : Fault) → (fault ≡ Device → ⊥) → IsRefusal planned fault
          → HasStepped keeps obeys file clock since failures plan core (with_known setup facts memory) (stepped core.memory planned) (Err fault)
      refused is_memory (Err why) fault other own = record {
        written = refused-written is_memory None fault other;
        done = tt;
        cause = subst (λ b. IsCause b (Refuses why) fault (IsLogFull core.gate None) ((failures core.disk < failures core.disk)
            × IsTrue core.stopped)) (sym running) own;
      }
      refused is_memory (Ok p) fault other want = record {
        written = refused-written is_memory p.logged fault other;
        done = tt;
        cause = subst (λ b. IsCause b (stepped core.memory (Ok p)) fault (IsLogFull core.gate p.logged)
            ((failures core.disk < failures core.disk) × IsTrue core.stopped)) (sym running) (inl want);
      }

      -- want of memory for what is to be done
      pub wanting : memory ≡ core.memory → (logged : Option Record) (after : Memory) (out : List Envelope) (fault : Fault) → fault ≡ WantsMemory
          → HasStepped keeps obeys file clock since failures plan core (with_known setup facts memory) (Does logged after out) (Err fault)
      wanting is_memory logged after out fault want = record {
        written = refused-written is_memory logged fault (λ device. cc);
        done = tt;
        cause = subst (λ b. IsCause b (Does logged after out) fault (IsLogFull core.gate logged)
            ((failures core.disk < failures core.disk) × IsTrue core.stopped)) (sym running) (inl want);
      }

      -- nothing is logged
      pub served : (after : Memory) (out : List Envelope) → memory ≡ after
          → HasStepped keeps obeys file clock since failures plan core (with_known setup facts memory) (Does None after out) (Ok out)
      served after out is_memory = record {
        written = record {
          setup = is_setup;
          slot = refl;
          failures_stay = omega arith;
          any_moment = λ run keep. untouched None keep;
          begins = λ run keep. begins-untouched;
          durable = λ keep. subst (λ records. KeepsRecords (surface (file core.disk)) records)
              (sym (and-none (records_in (surface (file core.disk)).seen))) (stands keep);
          read = λ keep. sym (and-none (records_in (surface (file core.disk)).seen));
          gate = (refl, omega arith);
          place = tt;
          kept = tt;
          tried = tt;
          planned = λ obey never. (never, tt);
          armed = λ call run obey keep is. (tt, tt);
        };
        done = (running, running, (is_facts, is_memory, refl));
        cause = tt;
      }

    -- the step and what is answered, by what they are
    restated : (new : CoreView D) (logged step_logged : Option Record) (after : Memory) (out answer : List Envelope) → step_logged ≡ logged → answer ≡ out
        → HasStepped keeps obeys file clock since failures plan core new (Does logged after out) (Ok out)
        → HasStepped keeps obeys file clock since failures plan core new (Does step_logged after out) (Ok answer)
    restated new logged step_logged after out answer is_logged is_out h =
        subst (λ o. HasStepped keeps obeys file clock since failures plan core new (Does step_logged after out) (Ok o)) (sym is_out)
        (subst (λ l. HasStepped keeps obeys file clock since failures plan core new (Does l after out) (Ok out)) (sym is_logged) h)

    pub served_as : (setup : Setup) (facts : Facts) (memory : Memory) (step_logged : Option Record) (after : Memory) (out answer : List Envelope) →
        step_logged ≡ None
        → answer ≡ out → setup ≡ core.setup → facts ≡ core.facts → memory ≡ after
        → HasStepped keeps obeys file clock since failures plan core (with_known setup facts memory) (Does step_logged after out) (Ok answer)
    served_as setup facts memory step_logged after out answer is_logged is_out is_setup is_facts is_memory =
        restated (with_known setup facts memory) None step_logged after out answer is_logged is_out
        (served setup facts memory is_setup is_facts after out is_memory)

    -- a record is logged
    pub logged_as : (new : CoreView D) (r : Record) (step_logged : Option Record) (after : Memory) (out answer : List Envelope) →
        step_logged ≡ Some r → answer ≡ out → new.setup ≡ core.setup → new.facts ≡ facts_after core.facts (Some r)
        → new.memory ≡ after → new.slot ≡ core.slot → IsFalse new.stopped → failures core.disk ≤ failures new.disk
        → (IsFalse core.stopped → keeps → LeavesOnly clock since core.disk new.disk (HoldsOldOrWith (records_in (surface (file core.disk)).seen) (Some r)))
        → (IsFalse core.stopped → keeps → LeavesOnly clock since core.disk new.disk (BeginsAsBefore (surface (file core.disk))))
        → (keeps → KeepsRecords (surface (file new.disk)) (and_logged (records_in (surface (file core.disk)).seen) (Some r)))
        → (keeps → records_in (surface (file new.disk)).seen ≡ and_logged (records_in (surface (file core.disk)).seen) (Some r))
        → (new.gate ≡ next_gate core.gate r) × (new.gate ≤ core.gate + 2 ^ 20 + 5) → next_gate core.gate r + 1 ≤ 2 ^ 40
        → (obeys → plan core.disk ≡ Never → plan new.disk ≡ Never)
        → ((call : ℕ) → IsFalse core.stopped → obeys → keeps → plan core.disk ≡ AfterWrite call → IsFalse (nat_lt call 4))
        → HasStepped keeps obeys file clock since failures plan core new (Does step_logged after out) (Ok answer)
    logged_as new r step_logged after out answer is_logged is_out setup facts memory slot runs stay moments begins durable read gate place never past =
        restated new (Some r) step_logged after out answer is_logged is_out (record {
          written = record {
            setup = setup;
            slot = slot;
            failures_stay = stay;
            any_moment = moments;
            begins = begins;
            durable = durable;
            read = read;
            gate = gate;
            place = place;
            kept = tt;
            tried = tt;
            planned = λ obey armed. (never obey armed, tt);
            armed = λ call run obey keep is. (past call run obey keep is, tt);
          };
          done = (running, runs, (facts, memory, refl));
          cause = tt;
        })

  -- by what the step is
  pub by_step : (old new : CoreView D) (s u : Stepped) (result : Result (List Envelope) Fault) → s ≡ u
      → HasStepped keeps obeys file clock since failures plan old new u result → HasStepped keeps obeys file clock since failures plan old new s result
  by_step old new s u result is h = subst (λ v. HasStepped keeps obeys file clock since failures plan old new v result) (sym is) h
