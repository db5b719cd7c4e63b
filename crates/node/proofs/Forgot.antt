-- What a log's facts are once it was opened, and once it forgot.
use Rattle.std.proofs.Common.{◌≡◌, ◌<◌, ◌≤◌, ◌∙◌, ℕ, Bool, true, false, cond, nat_lt, nat_le, List, [], ◌∷◌}
use Rattle.std.proofs.Common.{◌++◌, Option, Some, None, Result, Ok, Err, inl, inr, refl, sym, subst, ap, append_assoc, arith}
use Rattle.std.proofs.lemmas.Bool.Decides.{nat_tests}
use Rattle.std.proofs.lemmas.List.{append-nil}
use Rattle.disk.specs.File.{File, surface}
use Rattle.disk.specs.Image.{Surface}
use Rattle.disk.specs.Moments.{LeavesOnly}
use Rattle.disk.proofs.Runs.{and_then}
use Rattle.units.specs.Limits.{most_rows}
use Rattle.units.specs.declared.fault.Fault.{Fault}
use Rattle.units.specs.declared.fault.Fault.TheVariants.{NotYet}
use Rattle.units.specs.declared.setup.Book.{Book}
use Rattle.units.specs.declared.setup.Book.TheVariants.{Off}
use Rattle.units.specs.declared.setup.Setup.{Setup}
use Rattle.message.specs.declared.message.Envelope.{Envelope}
use Rattle.message.specs.declared.message.Input.{Input}
use Rattle.protocol.specs.Cells.{plan_forget}
use Rattle.protocol.specs.Plan.{idles, serves, start_of_step}
use Rattle.protocol.specs.Rows.{Memory, rebuilt, safe}
use Rattle.protocol.specs.Step.{plan_input, step_within, stepped}
use Rattle.record.specs.Facts.{Facts, learn}
use Rattle.record.specs.declared.record.Record.{Record}
use Rattle.shard.specs.Books.{BookView, HasBookRoom}
use Rattle.shard.specs.Logs.{HoldsOldOrWith, and_logged, records_in}
use Rattle.shard.specs.Moved.{HoldsRenewal}
use Rattle.shard.specs.On.{CoreView, IsDone, step_of}
use Rattle.shard.specs.Opened.{IsTaken, LeavesOpening, next_opening, opening_of}
use Rattle.truetime.specs.Interval.{Interval}
use Rattle.node.specs.InStep.{horizon_for}
use Rattle.node.specs.Renewed.{GoesOnFrom, HasOpenedFacts, HasTriedOne, HoldsMore, IsRenewed, kept_of, with_horizon}
use Rattle.node.specs.declared.renewing.Past.{Past}

-- what is taken up are the facts of a log that was opened
pub taken_up : (setup : Setup) (image : List ℕ) (facts : Facts) → IsTaken setup (records_in image) facts → HasOpenedFacts image facts
taken_up setup image facts = go (records_in image) refl
  where
    go : (r : Result (List Record) Fault) → records_in image ≡ r → IsTaken setup r facts → HasOpenedFacts image facts
    go (Ok records) read taken = (records, read, taken.1)
    go (Err fault) read taken = absurd taken

-- an opening leaves the log of before, and maybe more
pub opened_more : (disk : Surface) (facts : Facts) → HasOpenedFacts disk.seen facts → (image : List ℕ) → LeavesOpening disk image → HoldsMore disk image
opened_more disk facts log image (inl may) = inl may
opened_more disk facts log image (inr (inl same)) =
    inr (log.0, [], log.1, same ∙ log.1 ∙ ap (λ (rs : List Record). Ok rs) (sym (append-nil log.0)))
opened_more disk facts log image (inr (inr more)) =
    inr (log.0, next_opening log.0 ∷ [], log.1, more ∙ ap (λ r. and_logged r (opening_of r)) log.1)

pub opened_on : (seen after : List ℕ) (facts : Facts) → HasOpenedFacts seen facts
    → records_in after ≡ and_logged (records_in seen) (opening_of (records_in seen)) → GoesOnFrom seen after
opened_on seen after facts log read =
    (log.0, next_opening log.0 ∷ [], log.1, read ∙ ap (λ r. and_logged r (opening_of r)) log.1)

-- and so does a record that is logged after it
pub logged_more : (disk : Surface) (seen : List ℕ) (logged : Option Record) → GoesOnFrom disk.seen seen → (image : List ℕ)
    → HoldsOldOrWith (records_in seen) logged image → HoldsMore disk image
logged_more disk seen logged on image (inl same) = inr (on.0, on.1, on.2, same ∙ on.3)
logged_more disk seen None on image (inr more) = inr (on.0, on.1, on.2, more ∙ ap (λ r. and_logged r None) on.3)
logged_more disk seen (Some r) on image (inr more) =
    inr (on.0, on.1 ++ r ∷ [], on.2, more ∙ ap (λ rs. and_logged rs (Some r)) on.3 ∙ ap (λ (rs : List Record). Ok rs) (append_assoc on.0 on.1 (r ∷ [])))

-- what is left of the former file, from the opening to the horizon
pub former : {D : Type 0} (file : D → File) (clock : D → ℕ) (since : D → ℕ → List ℕ → Type 0) (disk : D) (old new : CoreView D)
    → LeavesOnly clock since disk old.disk (HoldsMore (surface (file disk))) → GoesOnFrom (surface (file disk)).seen (surface (file old.disk)).seen
    → HasTriedOne file clock since old new → LeavesOnly clock since disk new.disk (HoldsMore (surface (file disk)))
former file clock since disk old new opened on (inl same) =
    subst (λ d. LeavesOnly clock since disk d (HoldsMore (surface (file disk)))) (sym same) opened
former file clock since disk old new opened on (inr tried) =
    and_then clock since disk old.disk new.disk (HoldsMore (surface (file disk)))
    (HoldsOldOrWith (records_in (surface (file old.disk)).seen) tried.0) (HoldsMore (surface (file disk))) opened tried.1 (λ image is. is)
    (logged_more (surface (file disk)) (surface (file old.disk)).seen tried.0 on)

-- a horizon that is not above that of the facts changes nothing
pub kept_low : (at : ℕ) (facts : Facts) → at ≤ facts.horizon → facts ≡ with_horizon at facts
kept_low at facts low = by_test (nat_lt facts.horizon at) refl
  where
    by_test : (above : Bool) → nat_lt facts.horizon at ≡ above → facts ≡ cond above (learn facts (Record.Horizon at)) facts
    by_test true is = absurd (grind (arith, nat_tests))
    by_test false is = refl

-- one that is above it is learnt
pub kept_high : (at : ℕ) (facts : Facts) → facts.horizon < at → learn facts (Record.Horizon at) ≡ with_horizon at facts
kept_high at facts high = by_test (nat_lt facts.horizon at) refl
  where
    by_test : (above : Bool) → nat_lt facts.horizon at ≡ above
        → learn facts (Record.Horizon at) ≡ cond above (learn facts (Record.Horizon at)) facts
    by_test true is = refl
    by_test false is = absurd (grind (arith, nat_tests))

-- a shard that keeps no book has room in it
pub roomy : (kept : Book) (book : Option BookView) → kept ≡ Off → HasBookRoom kept book
roomy kept book is = subst (λ b. HasBookRoom b book) (sym is) tt

-- the horizon that was chosen is that of a log which was just opened
pub kept_as : (chosen : Option Past) (past : Past) (memory : Memory) (facts new : Facts) (at : ℕ) → chosen ≡ Some past → memory ≡ rebuilt facts
    → at ≡ horizon_for (safe memory) past.now.earliest past.micros → new ≡ with_horizon at facts → new ≡ kept_of chosen facts
kept_as chosen past memory facts new at is same here so =
    so ∙ ap (λ a. with_horizon a facts) (here ∙ ap (λ m. horizon_for (safe m) past.now.earliest past.micros) same)
    ∙ ap (λ c. kept_of c facts) (sym is)

module _ {D : Type 0} (old new : CoreView D) (now : Interval) (at : ℕ) where
  -- the step that raises the horizon has just that record
  pub forgot : (out : List Envelope) → old.facts.horizon < at → at ≤ safe old.memory → IsDone (step_of old now (Input.Forget at)) old new out
      → new.facts ≡ with_horizon at old.facts
  unfolding step_within plan_input plan_forget
  forgot out high low done = by_tests (nat_lt (safe old.memory) at) refl (nat_le at old.facts.horizon) refl done ∙ kept_high at old.facts high
    where
      by_tests : (above : Bool) → nat_lt (safe old.memory) at ≡ above → (same : Bool) → nat_le at old.facts.horizon ≡ same
          → IsDone (stepped old.memory (cond above (Err NotYet)
          (cond same (Ok (idles (start_of_step most_rows old.setup old.facts old.memory)))
          (Ok (serves (Some (Record.Horizon at)) old.memory.last))))) old new out
          → new.facts ≡ learn old.facts (Record.Horizon at)
      by_tests true is same so did = absurd did
      by_tests false is true so did = absurd (grind (arith, nat_tests))
      by_tests false is false so did = did.0

-- the renewal of a log that was opened, and kept so much of its past
pub renewed : (past : Option Past) (image : List ℕ) (disk : Surface) (facts new : Facts) → HasOpenedFacts image facts → new ≡ kept_of past facts
    → HoldsRenewal disk new → IsRenewed past image disk
renewed past image disk facts new log kept holds =
    (log.0, log.1, subst (λ (f : Facts). HoldsRenewal disk f) (kept ∙ ap (λ f. kept_of past f) log.2) holds)
