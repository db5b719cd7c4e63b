-- The calls of a turnover, one behind the other.
use Rattle.std.proofs.Common.{◌≡◌, ◌⊎◌, inl, inr, ℕ, suc, ◌+◌, ◌<◌, ◌≤◌, ◌^◌, List, [], ◌∷◌, length, Result, Ok, Bool, true, false, if◌then◌else◌}
use Rattle.std.proofs.Common.{refl, sym, ap, subst, ◌∙◌, arith}
use Rattle.std.specs.Prelude.{IsTrue, IsErr, nat_lt}
use Rattle.std.specs.List.{AllByRecursion}
use Rattle.units.specs.declared.fault.Fault.{Fault}
use Rattle.record.specs.declared.record.Record.{Record}
use Rattle.spelling.specs.Limits.{IsRecord}
use Rattle.spelling.proofs.Again.{wide64}
use Rattle.disk.specs.declared.plan.FailurePlan.{FailurePlan}
use Rattle.disk.specs.declared.plan.FailurePlan.TheVariants.{AfterWrite}
use Rattle.disk.specs.Image.{Surface, MayLeave, IsSynced, tried_write, after_write, after_sync}
use Rattle.disk.specs.File.{File, wrote, tried, with_change, surface}
use Rattle.disk.specs.Planned.{fails, next, at_write, IsAsPlanned}
use Rattle.frames.specs.Calls.{fails_in_append, appended}
use Rattle.gatelog.specs.ArmedTurn.{fails_in_turnover, turned, IsArmedTurn}
use Rattle.gatelog.specs.Crash.{IsOldOrNew}
use Rattle.gatelog.specs.Frames.{end_from}
use Rattle.gatelog.specs.Areas.{area_bytes, placed_from}
use Rattle.frames.specs.Gate.{open_gate}
use Rattle.gatelog.specs.Log.{scan, ends_at, ends_with}
use Rattle.frames.specs.Placed.{Placed}
use Rattle.gatelog.specs.Slots.{Beginning, slot_count, slot_at, offset_bytes, begins_in}
use Rattle.gatelog.specs.Turns.{MayTurn, IsTurnover, IsLogFrom, IsNextOrNone, with_area, named_new}
use Rattle.frames.proofs.Calls.{first_half, second_half}
use Rattle.gatelog.proofs.ArmedTurn.{failing-calls}
use Rattle.std.proofs.lemmas.Bool.{eq-eqb}
use Rattle.gatelog.proofs.Fresh.{placed-end}
use Rattle.gatelog.proofs.Goes.{gate_within}
use Rattle.gatelog.proofs.Images.{ends_found}
use Rattle.gatelog.proofs.NewAreas.{old-or-new}
use Rattle.gatelog.proofs.Next.{next-goes_on}
use Rattle.gatelog.proofs.Turns.{is-turnover, named-new, grown-long}

-- a log that is synced may be turned over to a slot that is left
pub may-turn : (file : Surface) (gate slot : ℕ) (items : List Record) → IsSynced file → IsTrue (ends_at file.seen gate) → IsNextOrNone file.seen slot
    → slot < slot_count → AllByRecursion IsRecord items → gate < 2 ^ 40 → (es : List Placed) × MayTurn file es gate slot items
may-turn file gate slot items synced whole next within fit small =
    let found = ends_found (scan file.seen) gate whole in (
      found.0,
      record {
        synced = synced;
        found = found.1;
        next = record { within = within; former = next.former; shut = next.shut within };
        items_fit = fit;
        offset_fits = omega (arith, small);
      },
    )

module _ (old : Surface) (es : List Placed) (gate slot : ℕ) (items : List Record) (may : MayTurn old es gate slot items) where
  abbrev IsOld : List ℕ → Type 0
  IsOld = IsLogFrom (begins_in old.seen) (es, gate)

  abbrev IsNew : List ℕ → Type 0
  IsNew = IsLogFrom (record { at = gate + 1; slots = slot + 1 }) (placed_from (gate + 1) items)

  turns : IsTurnover old es gate slot items
  turns = is-turnover old es gate slot items may

  pub within-file : gate + 1 ≤ length old.seen
  within-file = omega (arith, (gate_within old.seen es gate may.found).1)

  -- the write of the area
  module _ (at : ℕ) (bytes : List ℕ) (at-is : at ≡ gate + 1) (bytes-is : bytes ≡ area_bytes items) where
    pub while-first : (image : List ℕ) → MayLeave (tried_write at (length bytes) old) image → IsOldOrNew old.seen gate slot items image
    while-first image left =
        old-or-new old.seen image es gate slot items may.found (inl (turns.call_0 image
        (subst (λ (n : ℕ). MayLeave (tried_write n (length (area_bytes items)) old) image) at-is
        (subst (λ (l : List ℕ). MayLeave (tried_write at (length l) old) image) bytes-is left))))

    pub mid-area : (mid : Surface) → mid ≡ after_write at bytes old → mid ≡ with_area gate items old
    mid-area mid is = is ∙ ap (λ (n : ℕ). after_write n bytes old) at-is ∙ ap (λ (l : List ℕ). after_write (gate + 1) l old) bytes-is

  pub slot-inside : (mid : Surface) (at : ℕ) → mid ≡ with_area gate items old → at ≡ slot_at slot → at + 1 ≤ length mid.seen
  slot-inside mid at mid-is at-is = omega (arith, at-is, ap (λ (f : Surface). length f.seen) mid-is, grown-long old es gate slot items may)

  -- what the last four calls get
  module _ (mid : Surface) (at : ℕ) (offset : List ℕ) (mid-is : mid ≡ with_area gate items old) (at-is : at ≡ slot_at slot)
      (offset-is : offset ≡ offset_bytes (gate + 1)) where
    abbrev While : ℕ → List ℕ → Surface → List ℕ → Type 0
    While n bytes f image =
        MayLeave (tried_write (n + 1) (length bytes) f) image ⊎ MayLeave (tried_write n 1 (after_sync (after_write (n + 1) bytes f))) image

    eight : length (offset_bytes (gate + 1)) ≡ 8
    eight = wide64.len (gate + 1)

    pub while-last : (image : List ℕ) → While at offset mid image → IsOldOrNew old.seen gate slot items image
    while-last image left =
        old-or-new old.seen image es gate slot items may.found
        (by_call (subst (λ (n : ℕ). While n (offset_bytes (gate + 1)) (with_area gate items old) image) at-is
        (subst (λ (l : List ℕ). While at l (with_area gate items old) image) offset-is (subst (λ (f : Surface). While at offset f image) mid-is left))))
      where
        by_call : While (slot_at slot) (offset_bytes (gate + 1)) (with_area gate items old) image
            → IsOld image ⊎ IsNew image
        by_call (inl offset_left) =
            inl (turns.call_1 image (subst (λ (n : ℕ). MayLeave (tried_write (slot_at slot + 1) n (with_area gate items old)) image) eight offset_left))
        by_call (inr gate_left) = turns.call_3 image gate_left

    module _ (new : Surface) (new-is : new ≡ after_sync (after_write at (open_gate ∷ []) (after_sync (after_write (at + 1) offset mid)))) where
      end-is : new ≡ after_sync (named_new slot gate items old)
      end-is =
          new-is
          ∙ ap (λ (n : ℕ). after_sync (after_write n (open_gate ∷ []) (after_sync (after_write (n + 1) offset mid)))) at-is
          ∙ ap (λ (l : List ℕ). after_sync (after_write (slot_at slot) (open_gate ∷ []) (after_sync (after_write (slot_at slot + 1) l mid)))) offset-is
          ∙ ap (λ (f : Surface). after_sync (after_write (slot_at slot) (open_gate ∷ []) (after_sync
          (after_write (slot_at slot + 1) (offset_bytes (gate + 1)) f)))) mid-is

      is-new : IsNew new.seen
      is-new = subst (λ (f : Surface). IsNew f.seen) (sym end-is) (named-new old es gate slot items may)

      pub is-done : IsSynced new × IsNextOrNone new.seen (slot + 1) × IsTrue (ends_at new.seen (end_from (gate + 1) items))
          × IsNew new.seen
      is-done =
          let one : suc slot ≡ slot + 1 = omega arith in (
            subst IsSynced (sym end-is) (record { whole = refl; none = refl; synced = refl }),
            subst (λ (f : Surface). IsNextOrNone f.seen (slot + 1)) (sym end-is)
                (subst (λ (n : ℕ). IsNextOrNone (named_new slot gate items old).seen n) one (next-goes_on old es gate slot items may)),
            ap (λ found. ends_with found (end_from (gate + 1) items)) is-new.read
                ∙ eq-eqb (placed_from (gate + 1) items).1 (end_from (gate + 1) items) (placed-end items (gate + 1)),
            is-new,
          )

-- ---- on a disk that fails by a plan

pub change-is : (failed : Bool) (gate at : ℕ) (items : List Record) (bytes : List ℕ) (old mid : File) → at ≡ gate + 1 → bytes ≡ area_bytes items
    → mid ≡ with_change (if failed then tried at bytes else wrote at bytes) old
    → mid ≡ with_change (if failed then tried (gate + 1) (area_bytes items) else wrote (gate + 1) (area_bytes items)) old
change-is failed gate at items bytes old mid at-is bytes-is is =
    is ∙ ap (λ (n : ℕ). with_change (if failed then tried n bytes else wrote n bytes) old) at-is
    ∙ ap (λ (l : List ℕ). with_change (if failed then tried (gate + 1) l else wrote (gate + 1) l) old) bytes-is

module _ {T : Type 0} (result : Result T Fault) (plan : FailurePlan) (gate slot : ℕ) (items : List Record) (old mid new : File)
    (mid-is : mid ≡ with_change (if fails (at_write plan) then tried (gate + 1) (area_bytes items) else wrote (gate + 1) (area_bytes items)) old) where
  abbrev grown : File
  grown = with_change (wrote (gate + 1) (area_bytes items)) old

  abbrev none : File
  none = with_change (tried (gate + 1) (area_bytes items)) old

  abbrev rest : File
  rest = appended (next (at_write plan)) (slot_at slot) (offset_bytes (gate + 1)) grown

  pub failed-first : fails (at_write plan) ≡ true → IsErr result → new ≡ mid
      → IsAsPlanned (fails_in_turnover plan) result × (new ≡ turned plan slot gate items old)
  failed-first is err same =
      first_half result (fails (at_write plan)) (fails_in_append (next (at_write plan))) new none rest is err
      (same ∙ mid-is ∙ ap (λ (b : Bool). with_change (if b then tried (gate + 1) (area_bytes items) else wrote (gate + 1) (area_bytes items)) old) is)

  pub went-on : (plan' : FailurePlan) (at : ℕ) (offset : List ℕ) → fails (at_write plan) ≡ false → plan' ≡ next (at_write plan) → at ≡ slot_at slot
      → offset ≡ offset_bytes (gate + 1)
      → IsAsPlanned (fails_in_append plan') result → new ≡ appended plan' at offset mid
      → IsAsPlanned (fails_in_turnover plan) result × (new ≡ turned plan slot gate items old)
  went-on plan' at offset is plan-is at-is offset-is planned new-is =
      second_half result (fails (at_write plan)) (fails_in_append (next (at_write plan))) new none rest is
      (subst (λ (p : FailurePlan). IsAsPlanned (fails_in_append p) result) plan-is planned)
      (new-is ∙ ap (λ (p : FailurePlan). appended p at offset mid) plan-is
      ∙ ap (λ (n : ℕ). appended (next (at_write plan)) n offset mid) at-is
      ∙ ap (λ (l : List ℕ). appended (next (at_write plan)) (slot_at slot) l mid) offset-is
      ∙ ap (λ (f : File). appended (next (at_write plan)) (slot_at slot) (offset_bytes (gate + 1)) f)
      (mid-is ∙ ap (λ (b : Bool). with_change (if b then tried (gate + 1) (area_bytes items) else wrote (gate + 1) (area_bytes items)) old) is))

abbrev Found : Type 0
Found = Result (List Placed × ℕ) Fault

abbrev new-log : ℕ → List Record → Found
new-log gate items = Ok (placed_from (gate + 1) items)

abbrev new-beginning : ℕ → ℕ → Beginning
new-beginning gate slot = record { at = gate + 1; slots = slot + 1 }

-- the same for an armed call, in terms of the log
pub armed-turn : {T : Type 0} (result : Result T Fault) (plan : FailurePlan) (es : List Placed) (gate slot : ℕ) (items : List Record) (old new : File)
    → MayTurn (surface old) es gate slot items → (call : ℕ) → plan ≡ AfterWrite call
    → IsAsPlanned (fails_in_turnover plan) result × (new ≡ turned plan slot gate items old)
    → IsAsPlanned (nat_lt call 5) result
    × IsArmedTurn call (scan (surface old).seen) (new-log gate items) (begins_in (surface old).seen) (new-beginning gate slot) new
armed-turn result plan es gate slot items old new may call plan-is planned =
    let told = failing-calls old es gate slot items may call in
    let begun = begins_in (surface old).seen in
    let new-is : new ≡ turned (AfterWrite call) slot gate items old = planned.1 ∙ ap (λ (p : FailurePlan). turned p slot gate items old) plan-is in (
      subst (λ (b : Bool). IsAsPlanned b result) (ap fails_in_turnover plan-is ∙ told.0) planned.0,
      subst (λ (f : File). IsArmedTurn call (scan (surface old).seen) (new-log gate items) begun (new-beginning gate slot) f) (sym new-is)
          (subst (λ (r : Found). IsArmedTurn call r (new-log gate items) begun (new-beginning gate slot) (turned (AfterWrite call) slot gate items old))
          (sym may.found) told.1),
    )
