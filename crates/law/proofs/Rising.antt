-- A step logs promises and decisions above all that was served, and the greatest timestamp does not fall.
use Rattle.std.proofs.Common.{ℕ, ◌+◌, ◌≡◌, ◌≤◌, ◌<◌, max, min, nat_lt, Bool, true, false, cond, Option, Some, None, Ok, arith, subst, sym}
use Rattle.units.specs.ById.{IsById}
use Rattle.units.specs.declared.setup.Setup.{Setup}
use Rattle.truetime.specs.Interval.{Interval}
use Rattle.record.specs.Facts.{Facts}
use Rattle.record.specs.declared.record.Record.{Record}
use Rattle.message.specs.declared.message.Input.{Input}
use Rattle.protocol.specs.Rows.{Memory}
use Rattle.protocol.specs.Plan.{time_limit, Plan, Before, start_of_step}
use Rattle.protocol.specs.Cells.{ceiling_for}
use Rattle.protocol.specs.Step.{plan_input}
use Rattle.protocol.proofs.KeptFacts.{raised_up}
use Rattle.protocol.proofs.PlanShapes.{shape_of}
use Rattle.protocol.proofs.Shapes.{Shape, ShapeOf, Answers, IsEnd, IsAbort, IsClose, IsSettle, IsLock, IsWait, IsPromise, IsDecision, Acts, IsAdvance}
use Rattle.protocol.proofs.Shapes.{IsForget, IsRetire}
use Rattle.law.proofs.Quiet.{IsAbove}

-- what is logged is above a time
abbrev pub LoggedAbove : ℕ → Option Record → Type 0
LoggedAbove at None = Unit {0}
LoggedAbove at (Some r) = IsAbove at r

-- the greatest timestamp stays at a time or above it, and what is logged is above it
abbrev pub Rises : ℕ → Plan → Type 0
Rises at p = (at ≤ p.last) × LoggedAbove at p.logged

module _ (at : ℕ) (b : Before) (low : at ≤ b.memory.last) where
  above : (s : ℕ) → b.memory.last < s → (at ≤ max b.memory.last s) × (at < s)
  above s up = (omega (arith, low, up), omega (arith, low, up))

  by_shape : (p : Plan) → Shape b p → Rises at p
  by_shape p (Answers out e) = subst (Rises at) (sym e) (low, tt)
  by_shape p (IsEnd t out s e) = subst (Rises at) (sym e) (low, tt)
  by_shape p (IsAbort t out s e) = subst (Rises at) (sym e) (low, tt)
  by_shape p (IsClose t n c s held outcome out found k e) = subst (Rises at) (sym e) (let up = raised_up b.memory.last outcome in omega (arith, low, up), tt)
  by_shape p (IsSettle t s ps held out found e) = subst (Rises at) (sym e) (low, tt)
  by_shape p (IsLock t ended needs phase out l e) = subst (Rises at) (sym e) (low, tt)
  by_shape p (IsWait t needs phase out w e) = subst (Rises at) (sym e) (low, tt)
  by_shape p (IsPromise t ended c s rs ws out l e) = subst (Rises at) (sym e) (above s l.above)
  by_shape p (IsDecision t ended needs s ps rs ws out l e) = subst (Rises at) (sym e) (above s l.above)

  -- a ceiling says nothing of what is promised
  ceiling_too : (floor stride s : ℕ) → LoggedAbove at (ceiling_for floor stride s)
  ceiling_too floor stride s = by_test (nat_lt floor s) (min (s + stride) time_limit)
    where
      by_test : (high : Bool) (c : ℕ) → LoggedAbove at (cond high (Some (Record.Ceiling c)) None)
      by_test true c = tt
      by_test false c = tt

  by_shape_of : (i : Input) (p : Plan) → ShapeOf b i p → Rises at p
  by_shape_of i p (Acts shape) = by_shape p shape
  by_shape_of i p (IsAdvance stride s k e) = subst (Rises at) (sym e) (omega (arith, low), ceiling_too b.facts.floor stride s)
  by_shape_of i p (IsForget s k served higher e) = subst (Rises at) (sym e) (low, tt)
  by_shape_of i p (IsRetire below k none up e) = subst (Rises at) (sym e) (low, tt)

pub rising : (rows at : ℕ) (setup : Setup) (f : Facts) (m : Memory) (now : Interval) (i : Input) (p : Plan) → IsById (λ r. r.txn) m.rows
    → plan_input setup (start_of_step rows setup f m) now i ≡ Ok p → at ≤ m.last → Rises at p
rising rows at setup f m now i p up e low =
    by_shape_of at (start_of_step rows setup f m) low i p (shape_of rows setup f m now i p up e)
