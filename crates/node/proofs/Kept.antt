-- A step of the core keeps its desk in step.
use Rattle.std.proofs.Common.{◌≡◌, ℕ, ◌≤◌, Option, Some, None, List, ◌++◌, Result, Ok, Err, IfOk, IfErr, refl, ap, sym, subst, ◌∙◌, ◌⊎◌, inl, inr, arith}
use Rattle.std.specs.Prelude.{IsFalse}
use Rattle.std.proofs.Math.Logic.{∥∥₁_elim, ∥∥₁_map}
use Rattle.std.proofs.Props.{props}
use Rattle.disk.specs.File.{File}
use Rattle.truetime.specs.Interval.{Interval}
use Rattle.units.specs.declared.fault.Fault.{Fault}
use Rattle.message.specs.declared.message.Envelope.{Envelope}
use Rattle.message.specs.declared.message.Input.{Input}
use Rattle.record.specs.Facts.{Facts, learn}
use Rattle.record.specs.declared.record.Record.{Record}
use Rattle.protocol.specs.Rows.{Memory, safe}
use Rattle.units.specs.Limits.{most_rows}
use Rattle.protocol.specs.Plan.{Plan, Planned, start_of_step, carried}
use Rattle.protocol.specs.Sound.{IsSound}
use Rattle.protocol.specs.Step.{IsInLimit, facts_after, plan_input, step_within, stepped}
use Rattle.shard.specs.On.{CoreView, IsDone, StandsAsBefore, step_of}
use Rattle.shard.specs.Look.{safe_at}
use Rattle.board.specs.declared.entry.BoardEntry.{BoardEntry}
use Rattle.protocol.specs.Showable.{IsShowable, WritesAscend, KeepsShowable, StepKeepsShowable, added}
use Rattle.node.specs.InStep.{InStep}
use Rattle.node.proofs.InStep.{count_kept, same_kept, lawful_kept}
use Rattle.protocol.proofs.Serves.{grows}

-- a record does not lower the horizon
pub horizon_rises : (facts : Facts) (logged : Option Record) → facts.horizon ≤ (facts_after facts logged).horizon
unfolding learn
horizon_rises facts None = omega arith
horizon_rises facts (Some (Record.Opened epoch)) = omega arith
horizon_rises facts (Some (Record.Ceiling at)) = omega arith
horizon_rises facts (Some (Record.Horizon at)) = omega arith
horizon_rises facts (Some (Record.Prepare p)) = omega arith
horizon_rises facts (Some (Record.Commit c)) = omega arith
horizon_rises facts (Some (Record.Abort t)) = omega arith
horizon_rises facts (Some (Record.Outcome t outcome)) = omega arith
horizon_rises facts (Some (Record.Base epoch floor horizon)) = omega arith
horizon_rises facts (Some (Record.Version install)) = omega arith
horizon_rises facts (Some (Record.Settled txn at parts)) = omega arith
horizon_rises facts (Some (Record.Closed txn coordinator outcome)) = omega arith
horizon_rises facts (Some (Record.Retired below)) = omega arith

module _ {D : Type 0} (file : D → File) (old new : CoreView D) (now : Interval) (i : Input) (law : StepKeepsShowable) (limit : IsInLimit i)
    (ordered : WritesAscend i)
    (sound : ∥ IsSound old.setup.shard old.facts old.memory ∥₁) (orderly : IsShowable old.facts old.memory) where
  -- nothing changed, or a plan was carried out
  abbrev Went : Type 0
  Went = ((new.facts ≡ old.facts) × (new.memory ≡ old.memory))
      ⊎ ((p : Plan) × (plan_input old.setup (start_of_step most_rows old.setup old.facts old.memory) now i ≡ Ok p) ×
      (new.facts ≡ facts_after old.facts p.logged) × (new.memory ≡ carried p old.memory))

  by_plan : (plan : Planned) (out : List Envelope) → plan_input old.setup (start_of_step most_rows old.setup old.facts old.memory) now i ≡ plan
      → IsDone (stepped old.memory plan) old new out → Went
  by_plan (Err fault) out e done = absurd done
  by_plan (Ok p) out e done = inr (p, e, done.0, done.1)

  went : (result : Result (List Envelope) Fault) → IfOk result (λ out. IsFalse old.stopped × IsFalse new.stopped × IsDone (step_of old now i) old new out)
      → IfErr result (StandsAsBefore file old new) → Went
  unfolding step_within
  went (Err fault) done kept = inl (kept.0, kept.1)
  went (Ok out) done kept = by_plan (plan_input old.setup (start_of_step most_rows old.setup old.facts old.memory) now i) out refl done.2

  serves : (p : Plan) → plan_input old.setup (start_of_step most_rows old.setup old.facts old.memory) now i ≡ Ok p
      → ∥ KeepsShowable old.facts old.memory p.logged (carried p old.memory) ∥₁
  serves p e = ∥∥₁_map sound (λ s. law most_rows old.setup old.facts old.memory now i p limit ordered s orderly e)

  in_step_after : (handed : ℕ) (es : List BoardEntry) → InStep old.facts.installs (safe old.memory) handed old.facts.horizon es → Went
      → InStep new.facts.installs (safe new.memory) handed new.facts.horizon es
  in_step_after handed es step (inl same) =
      subst (λ (f : Facts). InStep f.installs (safe new.memory) handed f.horizon es) (sym same.0)
      (subst (λ (m : Memory). InStep old.facts.installs (safe m) handed old.facts.horizon es) (sym same.1) step)
  in_step_after handed es step (inr w) =
      let s = serves w.0 w.1 in
      let news = added old.facts w.0.logged in
      let behind : new.facts.installs ≡ old.facts.installs ++ news = ap (λ (f : Facts). f.installs) w.2 ∙ grows old.facts w.0.logged in
      let raised : old.facts.horizon ≤ new.facts.horizon = omega (arith, horizon_rises old.facts w.0.logged, ap (λ (f : Facts). f.horizon) w.2) in
      let up : safe old.memory ≤ safe new.memory = subst (λ (m : Memory). safe old.memory ≤ safe m) (sym w.3) (∥∥₁_elim s (hlevel props) (λ x. x.rises)) in
      record {
        count = count_kept old.facts.installs news new.facts.installs handed old.facts.horizon es behind step.count step.same;
        same = same_kept old.facts.installs news new.facts.installs handed old.facts.horizon es behind step.count step.same new.facts.horizon raised;
        lawful = lawful_kept old.facts.installs news new.facts.installs handed old.facts.horizon es behind step.count step.same (safe old.memory) step.lawful step.safe
            (∥∥₁_elim s (hlevel props) (λ x. x.above)) (∥∥₁_elim s (hlevel props) (λ x. x.order));
        safe = omega (arith, step.safe, up);
        horizon = omega (arith, step.horizon, raised);
      }

  pub kept_in_step : (result : Result (List Envelope) Fault) (handed : ℕ) (es : List BoardEntry) → IfOk result
      (λ out. IsFalse old.stopped × IsFalse new.stopped × IsDone (step_of old now i) old new out) → IfErr result (StandsAsBefore file old new)
      → InStep old.facts.installs (safe_at old) handed old.facts.horizon es → InStep new.facts.installs (safe_at new) handed new.facts.horizon es
  kept_in_step result handed es done kept step = in_step_after handed es step (went result done kept)
