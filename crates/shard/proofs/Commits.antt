-- A step that is staged, and then committed: what that does is done to the core as it was before.
use Rattle.std.proofs.Common.{◌≡◌, ◌≢◌, ◌∙◌, ◌⊎◌, inl, inr, ℕ, ◌<◌, ◌≤◌, Bool, true, false, IsTrue, List, Option, Some, None, Result, Ok, Err}
use Rattle.std.proofs.Common.{[], IfErr, OnOk, OnErr, refl, sym, ap, subst, arith}
use Rattle.std.proofs.lemmas.Bool.{false≢true}
use Rattle.units.specs.Ids.{Id}
use Rattle.units.specs.declared.fault.Fault.{Fault}
use Rattle.units.specs.declared.fault.Fault.TheVariants.{Device}
use Rattle.units.specs.declared.setup.Setup.{Setup}
use Rattle.disk.specs.declared.plan.FailurePlan.{FailurePlan}
use Rattle.disk.specs.File.{File, surface}
use Rattle.disk.specs.Image.{MayLeave}
use Rattle.disk.specs.Moments.{LeavesOnly}
use Rattle.disk.proofs.Runs.{and_then}
use Rattle.message.specs.declared.message.Envelope.{Envelope}
use Rattle.record.specs.Facts.{Facts}
use Rattle.record.specs.declared.record.Record.{Record}
use Rattle.protocol.specs.Rows.{Idle, Memory, Row, find_row, without_row}
use Rattle.protocol.specs.Showable.{IsShowable}
use Rattle.protocol.specs.Sound.{IsSound}
use Rattle.protocol.specs.Step.{Does}
use Rattle.memory.specs.RowTable.{put_row}
use Rattle.memory.specs.Carry.{Admits, HasMemoryFor, admitted_to, asker}
use Rattle.memory.specs.Kept.{Kept}
use Rattle.memory.specs.declared.carry.Ready.{Ready}
use Rattle.memory.specs.declared.plan.Step.{Step}
use Rattle.memory.proofs.Carried.{undone}
use Rattle.shard.specs.Armed.{FailsIn, GoesPast}
use Rattle.shard.specs.Due.{IsDue}
use Rattle.shard.specs.Logs.{records_in, and_logged, KeepsRecords, HoldsOldOrWith, BeginsAsBefore}
use Rattle.shard.specs.On.{CoreView, IsCause, IsLogFull, IsTried, HasWritten, HasStepped}
use Rattle.shard.specs.Staged.{IsStaged, does, seen_unstaged, step_staged, without_entrant}
use Rattle.shard.specs.declared.staging.StagedStep.{StagedStep}
use Rattle.shard.proofs.Showable.{as-showable}
use Rattle.shard.proofs.TakenIn.{sound-taken-in, showable-admitted}

-- ---- what was taken in

-- without it the memory is what it was
pub without-taken : (m now : Memory) (who : Option Id) (taken : Bool) → Admits m.rows who taken → now ≡ admitted_to m who → without_entrant now who taken ≡ m
without-taken m now None taken admits is = is
without-taken m now (Some t) true admits is = undone m now (without_row now.rows t) (Some t) true t refl refl admits is refl
without-taken m now (Some t) false admits is = is ∙ by_row (find_row m.rows t) admits
  where
    by_row : (o : Option Row) → elim o as (λ _. Type 0) [ None ↦ false ≡ true | Some r ↦ false ≡ false ]
        → record m { rows = elim o as (λ _. List Row) [ None ↦ put_row m.rows t [] Idle | Some r ↦ m.rows ] } ≡ m
    by_row None e = absurd (false≢true e)
    by_row (Some r) e = refl

-- a step is due of what has the same setup, facts and memory
pub due-as : (k now : Kept) (s : Step) → now.setup ≡ k.setup → now.facts ≡ k.facts → now.memory ≡ k.memory → IsDue k s → IsDue now s
due-as k now s setup facts memory due =
    subst (λ (m : Memory). IsDue (record now { memory = m }) s) (sym memory)
    (subst (λ (f : Facts). IsDue (record now { facts = f; memory = k.memory }) s) (sym facts)
    (subst (λ (t : Setup). IsDue (record now { setup = t; facts = k.facts; memory = k.memory }) s) (sym setup)
    (record {
      order = due.order;
      fit = due.fit;
      follows = due.follows;
      installs = due.installs;
      sound = due.sound;
      showable = due.showable;
    })))

pub sound-as : (setup now : Setup) (facts known : Facts) (memory held : Memory) → now ≡ setup → known ≡ facts → held ≡ memory
    → ∥ IsSound setup.shard facts memory ∥₁ → ∥ IsSound now.shard known held ∥₁
sound-as setup now facts known memory held is_setup is_facts is_memory sound =
    subst (λ (t : Setup). ∥ IsSound t.shard known held ∥₁) (sym is_setup)
    (subst (λ (f : Facts). ∥ IsSound setup.shard f held ∥₁) (sym is_facts)
    (subst (λ (m : Memory). ∥ IsSound setup.shard facts m ∥₁) (sym is_memory) sound))

-- where all memory was there the shard is sound with what was taken in, and else it is as it was
pub taken-or-kept : (k now : Kept) (s : Step) (result : Result Ready Fault) → IsDue k s → ∥ IsSound k.setup.shard k.facts k.memory ∥₁
    → IsShowable k.facts k.memory → OnOk result (HasMemoryFor k now s.plan)
    → OnErr result ((now.setup ≡ k.setup) × (now.facts ≡ k.facts) × (now.memory ≡ k.memory))
    → (now.facts ≡ k.facts) × ∥ IsSound now.setup.shard now.facts now.memory ∥₁ × IsShowable now.facts now.memory
taken-or-kept k now s (Ok ready) due sound showable made kept = (
  made.facts,
  sound-as k.setup now.setup k.facts now.facts (admitted_to k.memory (asker s.plan.change)) now.memory made.setup made.facts made.memory
      (sound-taken-in k s due.fit.0 due.follows due.sound sound),
  as-showable now.facts k.facts now.memory (admitted_to k.memory (asker s.plan.change)) made.facts made.memory
      (showable-admitted k.facts k.memory (asker s.plan.change) showable),
)
taken-or-kept k now s (Err fault) due sound showable made kept = (
  kept.1,
  sound-as k.setup now.setup k.facts now.facts k.memory now.memory kept.0 kept.1 kept.2 sound,
  as-showable now.facts k.facts now.memory k.memory kept.1 kept.2 showable,
)

-- all memory is there, told from what is kept without it
pub has-memory : (k now : Kept) (s : Step) (taken : Bool) → HasMemoryFor k now s.plan → Admits k.memory.rows (asker s.plan.change) taken
    → HasMemoryFor (record now { memory = without_entrant now.memory (asker s.plan.change) taken }) now s.plan
has-memory k now s taken made admits = record {
  setup = refl;
  facts = refl;
  stage = refl;
  memory = made.memory
      ∙ ap (λ (m : Memory). admitted_to m (asker s.plan.change)) (sym (without-taken k.memory now.memory (asker s.plan.change) taken admits made.memory));
  records = made.records;
  ends = made.ends;
  locks = made.locks;
}

-- ---- a disk that took memory, and no more

module _ {D : Type 0} (keeps obeys : Type 0) (file : D → File) (clock : D → ℕ) (since : D → ℕ → List ℕ → Type 0) (failures : D → ℕ) (plan : D → FailurePlan)
  where
    module _ (old : CoreView D) (d : D) (stands : keeps → KeepsRecords (surface (file old.disk)) (records_in (surface (file old.disk)).seen))
        (same : file d ≡ file old.disk) (planned : plan d ≡ plan old.disk) (stay : failures old.disk ≤ failures d)
        (time : LeavesOnly clock since old.disk d (MayLeave (surface (file old.disk)))) where
      abbrev grown : CoreView D
      grown = record old { disk = d }

      tried-over : {T : Type 0} (new : CoreView D) (logged : Option Record) (result : Result T Fault)
          → IfErr result (λ fault. ((fault ≡ Device) × IsTried old.gate logged)
          ⊎ ((fault ≢ Device) × LeavesOnly clock since d new.disk (MayLeave (surface (file d)))))
          → IfErr result (λ fault. ((fault ≡ Device) × IsTried old.gate logged)
          ⊎ ((fault ≢ Device) × LeavesOnly clock since old.disk new.disk (MayLeave (surface (file old.disk)))))
      tried-over new logged (Ok done) h = tt
      tried-over new logged (Err fault) (inl device) = inl device
      tried-over new logged (Err fault) (inr it) = inr (
        it.0,
        and_then clock since old.disk d new.disk (MayLeave (surface (file old.disk))) (MayLeave (surface (file d))) (MayLeave (surface (file old.disk)))
            time it.1 (λ image left. left) (λ image left. subst (λ (f : File). MayLeave (surface f) image) same left),
      )

      written-over : {T : Type 0} (new : CoreView D) (logged : Option Record) (result : Result T Fault)
          → HasWritten keeps obeys file clock since failures plan grown new logged result
          → HasWritten keeps obeys file clock since failures plan old new logged result
      written-over new logged result h = record {
        setup = h.setup;
        slot = h.slot;
        failures_stay = omega (arith, stay, h.failures_stay);
        any_moment = λ run keep.
            and_then clock since old.disk d new.disk (MayLeave (surface (file old.disk))) (HoldsOldOrWith (records_in (surface (file d)).seen) logged)
            (HoldsOldOrWith (records_in (surface (file old.disk)).seen) logged) time (h.any_moment run keep) (λ image left. inl (stands keep image left))
            (λ image held. subst (λ (f : File). HoldsOldOrWith (records_in (surface f).seen) logged image) same held);
        begins = λ run keep.
            and_then clock since old.disk d new.disk (MayLeave (surface (file old.disk))) (BeginsAsBefore (surface (file d)))
            (BeginsAsBefore (surface (file old.disk))) time (h.begins run keep) (λ image left. inl left)
            (λ image begun. subst (λ (f : File). BeginsAsBefore (surface f) image) same begun);
        durable = subst (λ (f : File). OnOk result (keeps → KeepsRecords (surface (file new.disk)) (and_logged (records_in (surface f).seen) logged)))
            same h.durable;
        read = subst (λ (f : File). OnOk result (keeps → records_in (surface (file new.disk)).seen ≡ and_logged (records_in (surface f).seen) logged))
            same h.read;
        gate = h.gate;
        place = h.place;
        kept = subst (λ (f : File). IfErr result (λ fault. (new.facts ≡ old.facts) × (new.memory ≡ old.memory)
            × ((fault ≡ Device) ⊎ ((new.stopped ≡ old.stopped) × (new.gate ≡ old.gate) × (file new.disk ≡ f))))) same h.kept;
        tried = tried-over new logged result h.tried;
        planned = λ obey never. h.planned obey (planned ∙ never);
        armed = λ call run obey keep is.
            subst (λ (f : File). OnOk result (GoesPast call logged)
            × IfErr result (FailsIn call old.gate (records_in (surface f).seen) logged (file new.disk))) same
            (h.armed call run obey keep (planned ∙ is));
      }

      cause-over : (stopped : Bool) (new : CoreView D) (logged : Option Record) (after : Memory) (out : List Envelope) (fault : Fault)
          → IsCause stopped (Does logged after out) fault (IsLogFull old.gate logged) ((failures d < failures new.disk) × IsTrue new.stopped)
          → IsCause stopped (Does logged after out) fault (IsLogFull old.gate logged) ((failures old.disk < failures new.disk) × IsTrue new.stopped)
      cause-over true new logged after out fault stops = stops
      cause-over false new logged after out fault (inl want) = inl want
      cause-over false new logged after out fault (inr (inl full)) = inr (inl full)
      cause-over false new logged after out fault (inr (inr failed)) = inr (inr (failed.0, (omega (arith, stay, failed.1.0), failed.1.1)))

      -- what is done to the core then is done to it as it was
      pub done-over : (new : CoreView D) (logged : Option Record) (after : Memory) (out : List Envelope) (result : Result (List Envelope) Fault)
          → HasStepped keeps obeys file clock since failures plan grown new (Does logged after out) result
          → HasStepped keeps obeys file clock since failures plan old new (Does logged after out) result
      done-over new logged after out (Ok answer) h = record { written = written-over new logged (Ok answer) h.written; done = h.done; cause = tt }
      done-over new logged after out (Err fault) h = record {
        written = written-over new logged (Err fault) h.written;
        done = tt;
        cause = cause-over old.stopped new logged after out fault h.cause;
      }

    -- what a commit does is done to the core as it was before the step was staged
    pub staged-through : (has_room : D → ℕ → ℕ → Type 0) (old mid new : CoreView D) (k : Kept) (step : Step) (s : StagedStep)
        (result : Result (List Envelope) Fault) → (keeps → KeepsRecords (surface (file old.disk)) (records_in (surface (file old.disk)).seen))
        → IsStaged keeps obeys file has_room clock since failures plan old mid k step s
        → HasStepped keeps obeys file clock since failures plan (seen_unstaged mid s) new (does (step_staged s) (seen_unstaged mid s).memory) result
        → HasStepped keeps obeys file clock since failures plan old new (does step old.memory) result
    staged-through has_room old mid new k step s result stands staged h =
        done-over old mid.disk stands staged.file_same staged.plan_same staged.failures_stay staged.time new step.logged _ step.plan.outbox result
        (subst (λ (t : Step). HasStepped keeps obeys file clock since failures plan (record old { disk = mid.disk }) new (does t old.memory) result)
        staged.step_is
        (subst (λ (core : CoreView D). HasStepped keeps obeys file clock since failures plan core new (does (step_staged s) core.memory) result) staged.same h))
