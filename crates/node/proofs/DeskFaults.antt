-- For which reasons alone a desk refuses.
use Rattle.std.proofs.Common.{◌≡◌, ℕ, ◌≤◌, ⊎_elim, Bool, true, false, cond, nat_lt, List, Option, Result, Ok, Err, IfErr, refl, sym, subst, arith}
use Rattle.std.specs.Prelude.{IsTrue}
use Rattle.std.proofs.lemmas.Bool.Decides.{nat_tests}
use Rattle.units.specs.declared.fault.Fault.{Fault}
use Rattle.units.specs.declared.fault.Fault.TheVariants.{Memory as WantsMemory, Device, Stopped, TimeSpent, BookFull, Future, NotYet}
use Rattle.units.specs.declared.setup.Setup.{Setup}
use Rattle.units.specs.Limits.{most_rows}
use Rattle.disk.specs.declared.plan.FailurePlan.{FailurePlan}
use Rattle.disk.specs.File.{File}
use Rattle.message.specs.declared.message.Envelope.{Envelope}
use Rattle.message.specs.declared.message.Input.{Input}
use Rattle.truetime.specs.Interval.{Interval}
use Rattle.protocol.specs.Rows.{Memory, safe}
use Rattle.protocol.specs.Plan.{Before, Plan, Planned, start_of_step}
use Rattle.protocol.specs.Cells.{plan_advance, plan_forget}
use Rattle.protocol.specs.Refusals.{Owns, OwnRefusals, is_own}
use Rattle.protocol.specs.Step.{plan_input, step_within, stepped}
use Rattle.shard.specs.Books.{BookView}
use Rattle.shard.specs.Booked.{IsFullCause}
use Rattle.shard.specs.On.{CoreView, IsCause}
use Rattle.shard.proofs.Booked.{room-or-full}
use Rattle.node.specs.DeskFaults.{refuses_turnover, refuses_horizon, refuses_advance, refuses_input}
use Rattle.node.specs.InStep.{HasTaken}

-- it is of a set
abbrev pub IsOf : (Fault → Bool) → Fault → Type 0
IsOf set fault = IsTrue (set fault)

-- what a turnover is refused for, a horizon is
pub as_horizon : (fault : Fault) → IsTrue (refuses_turnover fault) → IsTrue (refuses_horizon fault)
as_horizon BookFull of = refl
as_horizon _ of = of

-- the set has what may refuse each input, whatever its step says
record HasCauses (set : Fault → Bool) : Type 0 where
  memory : IsOf set WantsMemory
  spent : IsOf set TimeSpent
  device : IsOf set Device
  stopped : IsOf set Stopped
  full : IsOf set BookFull

module _ (set : Fault → Bool) (causes : HasCauses set) where
  same : (why fault : Fault) → fault ≡ why → IsOf set why → IsOf set fault
  same why fault e of = subst (IsOf set) (sym e) of

  by_cause : (stopped : Bool) (memory : Memory) (plan : Planned) → IfErr plan (IsOf set) → (fault : Fault) (full failed : Type 0)
      → IsCause stopped (stepped memory plan) fault full failed → IsOf set fault
  by_cause true memory plan own fault full failed e = same Stopped fault e causes.stopped
  by_cause false memory (Err why) own fault full failed e = same why fault e own
  by_cause false memory (Ok p) own fault full failed cause =
      ⊎_elim (λ e. same WantsMemory fault e causes.memory)
      (λ else. ⊎_elim (λ spent. same TimeSpent fault spent.0 causes.spent) (λ broke. same Device fault broke.0 causes.device) else) cause

  by_full : (stopped : Bool) (gate : ℕ) (memory : Memory) (plan : Planned) → IfErr plan (IsOf set) → (fault : Fault)
      → IsFullCause stopped gate (stepped memory plan) fault → IsOf set fault
  by_full true gate memory plan own fault e = same Stopped fault e causes.stopped
  by_full false gate memory (Err why) own fault e = same why fault e own
  by_full false gate memory (Ok p) own fault cause =
      ⊎_elim (λ near. same WantsMemory fault near.0 causes.memory)
      (λ else. ⊎_elim (λ spent. same TimeSpent fault spent.0 causes.spent) (λ full. same BookFull fault full.0 causes.full) else) cause

  -- an input is refused for one of these
  taken_or : {D : Type 0} (keeps obeys : Type 0) (file : D → File) (clock : D → ℕ) (since : D → ℕ → List ℕ → Type 0) (failures : D → ℕ)
      (plan : D → FailurePlan) (old new : CoreView D) (book after : Option BookView) (now : Interval) (i : Input) (result : Result (List Envelope) Fault)
      → IfErr (plan_input old.setup (start_of_step most_rows old.setup old.facts old.memory) now i) (IsOf set)
      → HasTaken keeps obeys file clock since failures plan old new book after now i result → IfErr result (IsOf set)
  unfolding step_within
  taken_or keeps obeys file clock since failures plan old new book after now i (Ok out) own taken = tt
  taken_or keeps obeys file clock since failures plan old new book after now i (Err fault) own taken =
      let planned = plan_input old.setup (start_of_step most_rows old.setup old.facts old.memory) now i in
      ⊎_elim (λ room. by_cause old.stopped old.memory planned own fault _ _ (taken.stepped room).cause)
      (λ full. by_full old.stopped old.gate old.memory planned own fault (taken.crowded full).1) (room-or-full old.setup.book book)

of_inputs : HasCauses refuses_input
of_inputs = record { memory = refl; spent = refl; device = refl; stopped = refl; full = refl }

of_advances : HasCauses refuses_advance
of_advances = record { memory = refl; spent = refl; device = refl; stopped = refl; full = refl }

of_horizons : HasCauses refuses_horizon
of_horizons = record { memory = refl; spent = refl; device = refl; stopped = refl; full = refl }

-- what its step refuses an input for
own_of : (fault : Fault) → is_own fault ≡ true → IsOf refuses_input fault
own_of WantsMemory own = refl
own_of Device own = refl
own_of Stopped own = refl
own_of BookFull own = refl
own_of _ own = own

owned : (plan : Planned) → Owns plan → IfErr plan (IsOf refuses_input)
owned (Ok p) own = tt
owned (Err why) own = own_of why own

own_advance : (setup : Setup) (b : Before) (now : Interval) (to : ℕ) → IfErr (plan_input setup b now (Input.Advance to)) (IsOf refuses_advance)
unfolding plan_input plan_advance
own_advance setup b now to = by_test (nat_lt now.latest to) _
  where
    by_test : (beyond : Bool) (p : Plan) → IfErr (cond beyond (Err Future) (Ok p)) (IsOf refuses_advance)
    by_test true p = refl
    by_test false p = tt

own_forget : (setup : Setup) (b : Before) (now : Interval) (at : ℕ) → at ≤ safe b.memory
    → IfErr (plan_input setup b now (Input.Forget at)) (IsOf refuses_horizon)
unfolding plan_input plan_forget
own_forget setup b now at low = by_test (nat_lt (safe b.memory) at) refl _ _ _
  where
    by_test : (above : Bool) → nat_lt (safe b.memory) at ≡ above → (old : Bool) (p q : Plan)
        → IfErr (cond above (Err NotYet) (cond old (Ok p) (Ok q))) (IsOf refuses_horizon)
    by_test true is old p q = absurd (grind (arith, nat_tests))
    by_test false is true p q = tt
    by_test false is false p q = tt

module _ {D : Type 0} (keeps obeys : Type 0) (file : D → File) (clock : D → ℕ) (since : D → ℕ → List ℕ → Type 0) (failures : D → ℕ)
    (plan : D → FailurePlan) (old new : CoreView D) (book after : Option BookView) (now : Interval) (result : Result (List Envelope) Fault) where
  pub taken_or_refused : (i : Input) → OwnRefusals → HasTaken keeps obeys file clock since failures plan old new book after now i result
      → IfErr result (IsOf refuses_input)
  taken_or_refused i law taken =
      let b = start_of_step most_rows old.setup old.facts old.memory in
      taken_or refuses_input of_inputs keeps obeys file clock since failures plan old new book after now i result
      (owned (plan_input old.setup b now i) (law old.setup b now i)) taken

  pub advanced_or_refused : (to : ℕ) → HasTaken keeps obeys file clock since failures plan old new book after now (Input.Advance to) result
      → IfErr result (IsOf refuses_advance)
  advanced_or_refused to taken =
      taken_or refuses_advance of_advances keeps obeys file clock since failures plan old new book after now (Input.Advance to) result
      (own_advance old.setup (start_of_step most_rows old.setup old.facts old.memory) now to) taken

  pub forgot_or_refused : (at : ℕ) → at ≤ safe old.memory
      → HasTaken keeps obeys file clock since failures plan old new book after now (Input.Forget at) result → IfErr result (IsOf refuses_horizon)
  forgot_or_refused at low taken =
      taken_or refuses_horizon of_horizons keeps obeys file clock since failures plan old new book after now (Input.Forget at) result
      (own_forget old.setup (start_of_step most_rows old.setup old.facts old.memory) now at low) taken
