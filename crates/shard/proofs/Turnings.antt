-- A turnover of a log, as its records see it.
use Rattle.std.proofs.Common.{◌≡◌, ◌≢◌, ◌∙◌, ◌⊎◌, inl, inr, ⊎_elim, ℕ, ◌+◌, ◌^◌, ◌<◌, ◌≤◌, nat_lt, Bool, true, false, IsTrue, IsFalse, List, Result, Ok, Err}
use Rattle.std.proofs.Common.{IfErr, OnOk, refl, sym, ap, subst, arith}
use Rattle.std.specs.Prelude.{get_or, if◌then◌else◌}
use Rattle.std.proofs.lemmas.Bool.{false≢true}
use Rattle.std.proofs.lemmas.Result.{IfErr-weaker, IfOk-weaker}
use Rattle.units.specs.declared.fault.Fault.{Fault}
use Rattle.units.specs.declared.fault.Fault.TheVariants.{Memory as WantsMemory, Device, Stopped, TimeSpent}
use Rattle.disk.specs.declared.plan.FailurePlan.{FailurePlan}
use Rattle.disk.specs.declared.plan.FailurePlan.TheVariants.{Never, AfterWrite}
use Rattle.disk.specs.declared.plan.Fate.TheVariants.{Old}
use Rattle.disk.specs.File.{File, surface, crash_leaves}
use Rattle.disk.specs.Image.{Surface, MayLeave}
use Rattle.disk.specs.Moments.{LeavesOnly}
use Rattle.disk.specs.Planned.{IsAsPlanned}
use Rattle.disk.proofs.Runs.{and_then, weaker}
use Rattle.record.specs.declared.record.Record.{Record}
use Rattle.gatelog.specs.Areas.{placed_from}
use Rattle.gatelog.specs.ArmedTurn.{IsArmedTurn, fails_in_turnover, is_left_turn, is_read_turn}
use Rattle.gatelog.specs.Crash.{Begins, IsOldOrNew, Stands}
use Rattle.gatelog.specs.Frames.{end_from}
use Rattle.gatelog.specs.Log.{entries_of, log, scan}
use Rattle.gatelog.specs.Slots.{begins_in, slot_count}
use Rattle.frames.proofs.Calls.{no_err, planned_err, planned_ok}
use Rattle.gatelog.proofs.Fresh.{placed-items}
use Rattle.ledger.specs.Keeps.{IsRegular}
use Rattle.ledger.specs.Laws.{TurnedKeeps}
use Rattle.ledger.specs.Turned.{turned}
use Rattle.shard.specs.Agrees.{AgreesWithLog}
use Rattle.shard.specs.Logs.{items_of, records_in}
use Rattle.shard.specs.On.{CoreView}
use Rattle.shard.specs.Turned.{AreArmedTurn, HasNoTurnPlace, HasTurned, HasTurnPlace, IsOldOrTurned, IsTurnCause, IsTurnedIf, turned_to}
use Rattle.shard.proofs.Appends.{no-time}
use Rattle.shard.proofs.Agrees.{agrees_kept, agrees_still, agrees_unturned, turned-known}

-- every image has the records that a read gives, where they begin
abbrev pub IsStood : Surface → Type 0
IsStood disk = (image : List ℕ) → MayLeave disk image → (records_in image ≡ records_in disk.seen) × (begins_in image ≡ begins_in disk.seen)

pub stood : (disk : Surface) → Stands disk (log disk.seen) → Begins disk (begins_in disk.seen) → IsStood disk
stood disk stands begins image may = (ap items_of (stands image may), begins image may)

-- ---- by records

module _ (before now : File) (same : now ≡ before) (gate slot : ℕ) (items : List Record) where
  new-is : (image : List ℕ) → log image ≡ Ok (placed_from (gate + 1) items).0 → records_in image ≡ Ok items
  new-is image is = ap items_of is ∙ ap (λ (rs : List Record). Ok rs) (placed-items items (gate + 1))

  old-is : (image : List ℕ) → log image ≡ log (surface now).seen → records_in image ≡ records_in (surface before).seen
  old-is image is = ap items_of is ∙ ap (λ (f : File). records_in (surface f).seen) same

  old-begins : (image : List ℕ) → begins_in image ≡ begins_in (surface now).seen → begins_in image ≡ begins_in (surface before).seen
  old-begins image is = is ∙ ap (λ (f : File). begins_in (surface f).seen) same

  pub old_or_turned : (image : List ℕ) → IsOldOrNew (surface now).seen gate slot items image → IsOldOrTurned (surface before) gate slot items image
  old_or_turned image (inl old) = inl (old-is image old.0, old-begins image old.1)
  old_or_turned image (inr new) = inr (new-is image new.0, new.1)

  turned-if : (b : Bool) (image : List ℕ) → scan image ≡ (if b then Ok (placed_from (gate + 1) items) else scan (surface now).seen)
      → begins_in image ≡ (if b then turned_to gate slot else begins_in (surface now).seen) → IsTurnedIf b (surface before) gate slot items image
  turned-if true image is begins = (new-is image (ap entries_of is), begins)
  turned-if false image is begins = (old-is image (ap entries_of is), old-begins image begins)

  -- what a call that is to fail leaves of the records
  pub armed_turn : (call : ℕ) (file : File)
      → IsArmedTurn call (scan (surface now).seen) (Ok (placed_from (gate + 1) items)) (begins_in (surface now).seen) (turned_to gate slot) file
      → AreArmedTurn call (surface before) gate slot items file
  armed_turn call file armed = record {
    read = turned-if (is_read_turn call) (surface file).seen armed.read armed.read_begins;
    left = λ fates. turned-if (is_left_turn call (get_or fates 0 Old)) (crash_leaves fates file) (armed.left fates) (armed.left_begins fates);
  }

-- ---- the whole call

-- why an area is not staged
pub no-place : (slot gate : ℕ) (area renewed : List Record) (fault : Fault) (stopped : Bool) → area ≡ renewed → IsFalse stopped
    → ((fault ≡ Stopped) × IsTrue stopped) ⊎ (((fault ≡ TimeSpent) × IsFalse stopped × HasNoTurnPlace slot gate area)
    ⊎ ((fault ≡ WantsMemory) × IsFalse stopped × (slot < slot_count) × (end_from (gate + 1) area + 1 ≤ 2 ^ 40)))
    → (fault ≡ WantsMemory) ⊎ ((fault ≡ TimeSpent) × HasNoTurnPlace slot gate renewed)
no-place slot gate area renewed fault stopped is running (inl gone) = absurd (false≢true (sym running ∙ gone.1))
no-place slot gate area renewed fault stopped is running (inr (inl full)) = inr (full.0, subst (HasNoTurnPlace slot gate) is full.2)
no-place slot gate area renewed fault stopped is running (inr (inr want)) = inl want.0

module _ {D : Type 0} (keeps obeys : Type 0) (file : D → File) (clock : D → ℕ) (since : D → ℕ → List ℕ → Type 0) (failures : D → ℕ)
    (plan : D → FailurePlan) where
  -- a stopped core does nothing
  pub unmoved : {T : Type 0} → ((d : D) (image : List ℕ) → since d (clock d) image → MayLeave (surface (file d)) image) → (core : CoreView D)
      → IsTrue core.stopped → IsRegular core.facts
      → HasTurned keeps obeys file clock since failures plan {T = T} core core (Err Stopped)
  unmoved only_now core stopped regular = record {
    setup = refl;
    facts = refl;
    memory = refl;
    regular = regular;
    failures_stay = omega arith;
    any_moment = λ run. absurd (no run);
    durable = tt;
    begins = tt;
    read = tt;
    read_either = λ run. absurd (no run);
    done = tt;
    place = tt;
    cause = inl (refl, stopped, refl);
    kept = inr (refl, refl, refl, refl);
    tried = inr (stopped_no_device, no-time file clock since only_now core.disk);
    planned = λ obey never. (never, λ device. cc);
    armed = λ call run. absurd (no run);
  }
    where
      stopped_no_device : Stopped ≢ Device
      stopped_no_device e = cc

      no : IsFalse core.stopped → ⊥
      no run = false≢true (sym run ∙ stopped)

  module _ (old new : CoreView D) (running : IsFalse old.stopped) (regular : IsRegular old.facts) (stands : keeps → IsStood (surface (file old.disk)))
      (setup : new.setup ≡ old.setup) (facts : new.facts ≡ old.facts) (memory : new.memory ≡ old.memory) where
    -- a growth was refused, or there is no place: all is as it was
    pub unturned : {T : Type 0} (fault : Fault) → (fault ≡ WantsMemory) ⊎ ((fault ≡ TimeSpent) × HasNoTurnPlace old.slot old.gate (turned old.facts))
        → (new.stopped ≡ old.stopped) × (new.gate ≡ old.gate) × (new.slot ≡ old.slot) × (file new.disk ≡ file old.disk)
        → failures old.disk ≤ failures new.disk → LeavesOnly clock since old.disk new.disk (MayLeave (surface (file old.disk)))
        → plan new.disk ≡ plan old.disk → HasTurned keeps obeys file clock since failures plan {T = T} old new (Err fault)
    unturned fault cause same stay time plans = record {
      setup = setup;
      facts = facts;
      memory = memory;
      regular = regular;
      failures_stay = stay;
      any_moment = λ run keep.
          weaker clock since old.disk new.disk (MayLeave (surface (file old.disk))) (IsOldOrTurned (surface (file old.disk)) old.gate old.slot
          (turned old.facts)) time (λ image may. inl (stands keep image may));
      durable = tt;
      begins = tt;
      read = tt;
      read_either = λ run keep.
          inl (ap (λ f. records_in (surface f).seen) same.3, ap (λ f. begins_in (surface f).seen) same.3);
      done = tt;
      place = tt;
      cause = inr (running, ⊎_elim (λ want. inl want) (λ spent. inr (inl spent)) cause);
      kept = inr same;
      tried = inr (no-device cause, time);
      planned = λ obey never. (plans ∙ never, no-device cause);
      armed = λ call run obey keep is. (tt, λ device. absurd (no-device cause device));
    }
      where
        no-device : (fault ≡ WantsMemory) ⊎ ((fault ≡ TimeSpent) × HasNoTurnPlace old.slot old.gate (turned old.facts)) → fault ≢ Device
        no-device (inl want) device = cc
        no-device (inr spent) device = other spent.0 device
          where
            other : fault ≡ TimeSpent → fault ≡ Device → ⊥
            other is device = cc

    -- what the log tells of a turnover to an area, behind this disk
    pub record HasGone {T : Type 0} (mid : D) (gate slot : ℕ) (items : List Record) (result : Result T Fault) : Type 0 where
      pub any_moment : keeps → LeavesOnly clock since mid new.disk (IsOldOrNew (surface (file mid)).seen gate slot items)
      pub durable : OnOk result (keeps → Stands (surface (file new.disk)) (Ok (placed_from (gate + 1) items).0))
      pub read : OnOk result (keeps → log (surface (file new.disk)).seen ≡ Ok (placed_from (gate + 1) items).0)
      pub begins : OnOk result (keeps → Begins (surface (file new.disk)) (turned_to gate slot))
      pub read_either : keeps → IsOldOrNew (surface (file mid)).seen gate slot items (surface (file new.disk)).seen
      pub runs : OnOk result (IsFalse new.stopped)
      pub ends : OnOk result (new.gate ≡ end_from (gate + 1) items)
      pub next : OnOk result (new.slot ≡ slot + 1)
      pub failures_stay : failures mid ≤ failures new.disk
      pub cause : IfErr result (λ fault. (fault ≡ Device) × (failures mid < failures new.disk) × IsTrue new.stopped)
      pub never : plan mid ≡ Never → plan new.disk ≡ Never
      pub planned : obeys → IsAsPlanned (fails_in_turnover (plan mid)) result
      pub armed : (call : ℕ) → obeys → keeps → plan mid ≡ AfterWrite call → IsAsPlanned (nat_lt call 5) result
          × IsArmedTurn call (scan (surface (file mid)).seen) (Ok (placed_from (gate + 1) items)) (begins_in (surface (file mid)).seen)
          (turned_to gate slot) (file new.disk)

    -- of the area that was staged
    pub gone : {T : Type 0} (mid : D) (stopped : Bool) (gate slot next : ℕ) (items : List Record) (result : Result T Fault) (Same : Type 0)
        → IsFalse stopped → gate ≡ old.gate → slot ≡ old.slot → next ≡ slot → items ≡ turned old.facts
        → (IsFalse stopped → keeps → LeavesOnly clock since mid new.disk (IsOldOrNew (surface (file mid)).seen gate slot items))
        → OnOk result (keeps → Stands (surface (file new.disk)) (Ok (placed_from (gate + 1) items).0))
        → OnOk result (keeps → log (surface (file new.disk)).seen ≡ Ok (placed_from (gate + 1) items).0)
        → OnOk result (keeps → Begins (surface (file new.disk)) (turned_to gate slot))
        → (IsFalse stopped → keeps → IsOldOrNew (surface (file mid)).seen gate slot items (surface (file new.disk)).seen)
        → OnOk result (IsFalse stopped × IsFalse new.stopped) → OnOk result (new.gate ≡ end_from (gate + 1) items) → OnOk result (new.slot ≡ next + 1)
        → failures mid ≤ failures new.disk
        → IfErr result (λ fault. ((fault ≡ Stopped) × IsTrue stopped × Same)
        ⊎ ((fault ≡ Device) × IsFalse stopped × (failures mid < failures new.disk) × IsTrue new.stopped))
        → (plan mid ≡ Never → plan new.disk ≡ Never) → (obeys → IsAsPlanned (fails_in_turnover (plan mid)) result)
        → ((call : ℕ) → obeys → keeps → plan mid ≡ AfterWrite call → IsAsPlanned (nat_lt call 5) result
        × IsArmedTurn call (scan (surface (file mid)).seen) (Ok (placed_from (gate + 1) items)) (begins_in (surface (file mid)).seen)
        (turned_to gate slot) (file new.disk))
        → HasGone mid old.gate old.slot (turned old.facts) result
    gone mid stopped gate slot next items result Same runs at_gate at_slot is_next is any durable read begins either running ends nexts stay cause never
        planned armed =
        subst (λ rs. HasGone mid old.gate old.slot rs result) is
        (subst (λ n. HasGone mid old.gate n items result) at_slot
        (subst (λ n. HasGone mid n slot items result) at_gate (record {
          any_moment = any runs;
          durable = durable;
          read = read;
          begins = begins;
          read_either = either runs;
          runs = IfOk-weaker result _ _ (λ x both. both.1) running;
          ends = ends;
          next = IfOk-weaker result _ _ (λ x e. e ∙ ap (λ n. n + 1) is_next) nexts;
          failures_stay = stay;
          cause = IfErr-weaker result _ _ (λ fault.
              ⊎_elim (λ gone. absurd (false≢true (sym runs ∙ gone.1))) (λ failed. (failed.0, failed.2, failed.3))) cause;
          never = never;
          planned = planned;
          armed = armed;
        })))

    -- the memory for it was taken before
    pub turned_as : {T : Type 0} (mid : D) (result : Result T Fault) → HasGone mid old.gate old.slot (turned old.facts) result
        → HasTurnPlace old.slot old.gate (turned old.facts) → file mid ≡ file old.disk → failures old.disk ≤ failures mid
        → LeavesOnly clock since old.disk mid (MayLeave (surface (file old.disk)))
        → plan mid ≡ plan old.disk → HasTurned keeps obeys file clock since failures plan old new result
    turned_as {T = T} mid result h there same stay time plans = record {
      setup = setup;
      facts = facts;
      memory = memory;
      regular = regular;
      failures_stay = omega (arith, stay, h.failures_stay);
      any_moment = λ run keep.
          and_then clock since old.disk mid new.disk (MayLeave (surface (file old.disk))) (IsOldOrNew (surface (file mid)).seen old.gate old.slot
          (turned old.facts))
          (IsOldOrTurned (surface (file old.disk)) old.gate old.slot (turned old.facts)) time (h.any_moment keep)
          (λ image may. inl (stands keep image may)) as_records;
      durable = IfOk-weaker result _ _ (λ x is keep image may. new-is _ _ same old.gate old.slot (turned old.facts) image (is keep image may)) h.durable;
      begins = h.begins;
      read = IfOk-weaker result _ _ (λ x is keep. new-is _ _ same old.gate old.slot (turned old.facts) (surface (file new.disk)).seen (is keep)) h.read;
      read_either = λ run keep. as_records (surface (file new.disk)).seen (h.read_either keep);
      done = by_done result h.runs h.ends h.next;
      place = IfOk-weaker result _ _ (λ x is. there) h.runs;
      cause = IfErr-weaker result _ _ (λ fault is. inr (running, inr (inr (is.0, (omega (arith, stay, is.1), is.2))))) h.cause;
      kept = IfErr-weaker result _ _ (λ fault is. inl is.0) h.cause;
      tried = IfErr-weaker result _ _ (λ fault is. inl (is.0, there)) h.cause;
      planned = λ obey never. (
        h.never (plans ∙ never),
        no_err (fails_in_turnover (plan mid)) result (λ fault. fault ≢ Device) (h.planned obey) (ap fails_in_turnover (plans ∙ never)),
      );
      armed = λ call run obey keep is. by_armed call result (h.armed call obey keep (plans ∙ is));
    }
      where
        as_records : (image : List ℕ) → IsOldOrNew (surface (file mid)).seen old.gate old.slot (turned old.facts) image
            → IsOldOrTurned (surface (file old.disk)) old.gate old.slot (turned old.facts) image
        as_records = old_or_turned (file old.disk) (file mid) same old.gate old.slot (turned old.facts)

        by_done : (r : Result T Fault) → OnOk r (IsFalse new.stopped) → OnOk r (new.gate ≡ end_from (old.gate + 1) (turned old.facts))
            → OnOk r (new.slot ≡ old.slot + 1) → OnOk r (IsFalse old.stopped × IsFalse new.stopped
            × (new.gate ≡ end_from (old.gate + 1) (turned old.facts)) × (new.slot ≡ old.slot + 1))
        by_done (Ok x) runs ends next = (running, runs, ends, next)
        by_done (Err fault) runs ends next = tt

        by_armed : (call : ℕ) (r : Result T Fault) → IsAsPlanned (nat_lt call 5) r
            × IsArmedTurn call (scan (surface (file mid)).seen) (Ok (placed_from (old.gate + 1) (turned old.facts)))
            (begins_in (surface (file mid)).seen) (turned_to old.gate old.slot) (file new.disk)
            → OnOk r (IsFalse (nat_lt call 5)) × IfErr r (λ fault. fault ≡ Device → IsTrue (nat_lt call 5)
            × HasTurnPlace old.slot old.gate (turned old.facts)
            × AreArmedTurn call (surface (file old.disk)) old.gate old.slot (turned old.facts) (file new.disk))
        by_armed call (Ok x) armed = (planned_ok Fault (nat_lt call 5) x armed.0, tt)
        by_armed call (Err fault) armed = (
          tt,
          λ device. (
            planned_err T (nat_lt call 5) fault armed.0,
            there,
            armed_turn (file old.disk) (file mid) same old.gate old.slot (turned old.facts) call (file new.disk) armed.1,
          ),
        )

  -- what is known goes on to agree with the log
  pub agrees_over : {T : Type 0} → TurnedKeeps
      → ((d : D) (moment : ℕ) (image : List ℕ) → moment ≤ clock d → MayLeave (surface (file d)) image → since d moment image)
      → (old new : CoreView D) (result : Result T Fault) → keeps → MayLeave (surface (file old.disk)) (surface (file old.disk)).seen
      → IsFalse old.stopped → HasTurned keeps obeys file clock since failures plan old new result
      → ∥ AgreesWithLog old.stopped (surface (file old.disk)) old.facts ∥₁ → ∥ AgreesWithLog new.stopped (surface (file new.disk)) old.facts ∥₁
  agrees_over law counts_now old new (Ok x) keep now running h agrees =
      ∣ agrees_kept new.stopped (surface (file new.disk)) (Ok (turned old.facts)) old.facts h.done.1 (h.durable keep)
      (turned-known law old.facts h.regular) ∣₁
  agrees_over law counts_now old new (Err fault) keep now running h agrees = by_cause h.cause h.kept
    where
      still : (new.stopped ≡ old.stopped) × (new.gate ≡ old.gate) × (new.slot ≡ old.slot) × (file new.disk ≡ file old.disk)
          → ∥ AgreesWithLog new.stopped (surface (file new.disk)) old.facts ∥₁
      still same =
          agrees_still old.stopped new.stopped (surface (file old.disk)) (surface (file new.disk)) old.facts old.facts same.0
          (ap surface same.3) refl agrees

      wanting : fault ≡ WantsMemory → fault ≡ Device → ⊥
      wanting is device = cc

      spent : fault ≡ TimeSpent → fault ≡ Device → ⊥
      spent is device = cc

      by_cause : ((fault ≡ Stopped) × IsTrue old.stopped × (new ≡ old)) ⊎ (IsFalse old.stopped
          × IsTurnCause fault (HasNoTurnPlace old.slot old.gate (turned old.facts)) ((failures old.disk < failures new.disk) × IsTrue new.stopped))
          → (fault ≡ Device) ⊎ ((new.stopped ≡ old.stopped) × (new.gate ≡ old.gate) × (new.slot ≡ old.slot) × (file new.disk ≡ file old.disk))
          → ∥ AgreesWithLog new.stopped (surface (file new.disk)) old.facts ∥₁
      by_cause (inl stopped) kept = absurd (false≢true (sym running ∙ stopped.1))
      by_cause (inr (_, inr (inr failed))) kept =
          agrees_unturned file clock since counts_now old.disk new.disk old.stopped new.stopped old.facts old.gate old.slot running now failed.1.1
          (h.any_moment running keep) agrees
      by_cause (inr (_, inl want)) (inr same) = still same
      by_cause (inr (_, inl want)) (inl device) = absurd (wanting want device)
      by_cause (inr (_, inr (inl full))) (inr same) = still same
      by_cause (inr (_, inr (inl full))) (inl device) = absurd (spent full.0 device)
