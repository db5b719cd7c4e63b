-- An append, as its records see it.
use Rattle.std.proofs.Common.{◌≡◌, inl, inr, ℕ, List, [], ◌∷◌, ◌++◌, map, Some, Result, Ok, Err, refl, ap, ◌∙◌, arith}
use Rattle.units.specs.declared.fault.Fault.{Fault}
use Rattle.disk.specs.File.{File, surface}
use Rattle.record.specs.declared.record.Record.{Record}
use Rattle.frames.specs.Placed.{Placed}
use Rattle.gatelog.specs.Crash.{IsOldOrWith}
use Rattle.gatelog.specs.Log.{log, and_entry}
use Rattle.gatelog.specs.Slots.{begins_in}
use Rattle.disk.specs.Image.{MayLeave}
use Rattle.disk.specs.Moments.{LeavesOnly}
use Rattle.disk.proofs.Runs.{and_then}
use Rattle.shard.specs.Logs.{items_of, records_in, and_logged, HoldsOldOrWith, BeginsAsBefore}
use Rattle.std.specs.Prelude.{Bool, true, false, get_or, nat_lt}
use Rattle.disk.specs.declared.plan.Fate.TheVariants.{Old}
use Rattle.disk.specs.Planned.{IsAsPlanned}
use Rattle.gatelog.specs.Armed.{IsArmed}
use Rattle.gatelog.specs.Gates.{is_read, is_left}
use Rattle.gatelog.specs.Armed as gates
use Rattle.frames.proofs.Calls.{planned_err}
use Rattle.shard.specs.Armed.{AreArmed, FailsIn, HasPlace, records_with_if}

items-append : (es : List Placed) (e : Placed) → map (λ p. p.item) (es ++ e ∷ []) ≡ map (λ p. p.item) es ++ e.item ∷ []
items-append [] e = refl
items-append (p ∷ es) e = ap (λ rest. p.item ∷ rest) (items-append es e)

items-and_entry : (entries : Result (List Placed) Fault) (e : Placed) → items_of (and_entry entries e) ≡ and_logged (items_of entries) (Some e.item)
items-and_entry (Ok es) e = ap (λ rs. Ok rs) (items-append es e)
items-and_entry (Err fault) e = refl

module _ (before now : File) (same : now ≡ before) (staged : Placed) (item : Record) (is : staged.item ≡ item) where
  -- the log with the staged record, as records
  pub logged-is : (image : List ℕ) → log image ≡ and_entry (log (surface now).seen) staged
      → records_in image ≡ and_logged (records_in (surface before).seen) (Some item)
  logged-is image with =
      ap items_of with ∙ items-and_entry (log (surface now).seen) staged
      ∙ ap (λ (r : Record). and_logged (records_in (surface now).seen) (Some r)) is
      ∙ ap (λ (f : File). and_logged (records_in (surface f).seen) (Some item)) same

  pub old_or_with : (image : List ℕ) → IsOldOrWith (log (surface now).seen) staged image → HoldsOldOrWith (records_in (surface before).seen) (Some item) image
  old_or_with image (inl old) = inl (ap items_of old ∙ ap (λ (f : File). records_in (surface f).seen) same)
  old_or_with image (inr with) = inr (logged-is image with)

  with-if : (b : Bool) → items_of (gates.with_if b (log (surface now).seen) staged) ≡ records_with_if b (records_in (surface before).seen) item
  with-if true =
      items-and_entry (log (surface now).seen) staged
      ∙ ap (λ (r : Record). and_logged (records_in (surface now).seen) (Some r)) is
      ∙ ap (λ (f : File). and_logged (records_in (surface f).seen) (Some item)) same
  with-if false = ap (λ (f : File). records_in (surface f).seen) same

  -- what a call that is to fail leaves of the records
  pub armed_as : (call : ℕ) (file : File) → IsArmed call (log (surface now).seen) staged file → AreArmed call (records_in (surface before).seen) item file
  armed_as call file armed = record {
    read = ap items_of armed.read ∙ with-if (is_read call);
    left = λ fates. ap items_of (armed.left fates) ∙ with-if (is_left call (get_or fates 0 Old));
  }

  pub fails_in : (T : Type 0) (call gate : ℕ) (file : File) (error : Fault) → HasPlace gate (Some item)
      → IsAsPlanned {T = T} (nat_lt call 4) (Err error) × IsArmed call (log (surface now).seen) staged file
      → FailsIn call gate (records_in (surface before).seen) (Some item) file error
  fails_in T call gate file error place h device = (planned_err T (nat_lt call 4) error h.0, place, armed_as call file h.1)

-- the log begins where it began, over a call that leaves the file as it is, and an append
pub begins_on : {D : Type 0} (file : D → File) (clock : D → ℕ) (since : D → ℕ → List ℕ → Type 0) (old mid new : D) → file mid ≡ file old
    → LeavesOnly clock since old mid (MayLeave (surface (file old)))
    → LeavesOnly clock since mid new (λ image. begins_in image ≡ begins_in (surface (file mid)).seen)
    → LeavesOnly clock since old new (BeginsAsBefore (surface (file old)))
begins_on file clock since old mid new same first second =
    and_then clock since old mid new (MayLeave (surface (file old))) (λ image. begins_in image ≡ begins_in (surface (file mid)).seen)
    (BeginsAsBefore (surface (file old))) first second (λ image left. inl left)
    (λ image is. inr (is ∙ ap (λ (f : File). begins_in (surface f).seen) same))

-- nothing is done to the disk
pub no-time : {D : Type 0} (file : D → File) (clock : D → ℕ) (since : D → ℕ → List ℕ → Type 0)
    → ((d : D) (image : List ℕ) → since d (clock d) image → MayLeave (surface (file d)) image) → (d : D)
    → LeavesOnly clock since d d (MayLeave (surface (file d)))
no-time file clock since only_now d = record {
  later = omega arith;
  each = λ image left. only_now d image left;
  before = λ moment image le left. inl left;
}
