-- What a step installs is above the versions of its keys.
use Rattle.std.proofs.Common.{◌≡◌, ℕ, ◌≤◌, Bool, true, false, nat_lt, List, Option, Some, None, refl, sym, subst, arith}
use Rattle.std.specs.Prelude.{IsTrue}
use Rattle.units.specs.Ids.{Id}
use Rattle.units.specs.Versions.{above_versions}
use Rattle.units.specs.declared.lock.Lock.{Lock}
use Rattle.record.specs.Facts.{recorded}
use Rattle.record.specs.declared.record.Record.{Record}
use Rattle.message.specs.declared.message.Input.{Input}
use Rattle.protocol.specs.Rows.{IsPrepared, IsDecided, find_row}
use Rattle.protocol.specs.Plan.{Plan, Before, start_of_step}
use Rattle.protocol.specs.Cells.{is_outcome_for, ceiling_for}
use Rattle.protocol.specs.Sound.{writes_standing, InstallsAbove}
use Rattle.protocol.proofs.Agreement.{Sound, PromiseOf, promise_of, DecisionOf, decision_of, not_below}
use Rattle.protocol.proofs.PlanShapes.{shape_of}
use Rattle.protocol.proofs.RowChanges.{row_as, by_id-claims}
use Rattle.protocol.proofs.Shapes.{Shape, Answers, IsEnd, IsAbort, IsClose, IsSettle, IsLock, IsWait, IsPromise, IsDecision, ShapeOf, Acts, IsAdvance, IsForget, IsRetire}
use Rattle.protocol.proofs.AboveVersions.{above_later}

-- what is installed by a record that is logged is above
abbrev LogAbove : Before → Option Record → Type 0
LogAbove b (Some (Record.Outcome t (Some s))) = IsTrue (above_versions b.facts.installs s (writes_standing (recorded b.facts t)))
LogAbove b (Some (Record.Outcome t None)) = Unit {0}
LogAbove b (Some (Record.Opened epoch)) = Unit {0}
LogAbove b (Some (Record.Ceiling at)) = Unit {0}
LogAbove b (Some (Record.Horizon at)) = Unit {0}
LogAbove b (Some (Record.Retired below)) = Unit {0}
LogAbove b (Some (Record.Prepare p)) = Unit {0}
LogAbove b (Some (Record.Commit c)) = Unit {0}
LogAbove b (Some (Record.Abort t)) = Unit {0}
LogAbove b (Some (Record.Base epoch floor horizon)) = Unit {0}
LogAbove b (Some (Record.Version install)) = Unit {0}
LogAbove b (Some (Record.Settled t at parts)) = Unit {0}
LogAbove b (Some (Record.Closed t coordinator outcome)) = Unit {0}
LogAbove b None = Unit {0}

Above : Before → Plan → Type 0
Above b p = LogAbove b p.logged

above_close : (b : Before) (t : Id) (n c at : ℕ) (held : List Lock) (outcome : Option ℕ) → Sound b
    → find_row b.memory.rows t ≡ Some (row_as t held (IsPrepared c at)) → is_outcome_for n c at outcome ≡ true → LogAbove b (Some (Record.Outcome t outcome))
above_close b t n c at held None sound found k = tt
above_close b t n c at held (Some s) sound found k =
    let made : PromiseOf b t held c at = promise_of b t held c at sound found in
    let h : at ≤ s = not_below n c at s k in
    let e : made.promise.at ≡ at = made.stamp in
    subst (λ st. IsTrue (above_versions b.facts.installs s (writes_standing st))) (sym made.is)
    (above_later b.facts.installs made.promise.at s made.promise.writes (omega (arith, h, e)) made.stands_by.above)

above_settle : (b : Before) (t : Id) (at : ℕ) (ps : List ℕ) (held : List Lock) → Sound b → find_row b.memory.rows t ≡ Some (row_as t held (IsDecided at ps))
    → LogAbove b (Some (Record.Outcome t (Some at)))
above_settle b t at ps held sound found =
    let made : DecisionOf b t held at ps = decision_of b t held at ps sound found in
    let e : made.decision.at ≡ at = made.stamp in
    subst (λ st. IsTrue (above_versions b.facts.installs at (writes_standing st))) (sym made.is)
    (above_later b.facts.installs made.decision.at at made.decision.writes (omega (arith, e)) made.stands_by.above)

above : (b : Before) (p : Plan) → Sound b → Shape b p → Above b p
unfolding Above
above b p sound (Answers out e) = subst (Above b) (sym e) tt
above b p sound (IsEnd t out s e) = subst (Above b) (sym e) tt
above b p sound (IsAbort t out fresh e) = subst (Above b) (sym e) tt
above b p sound (IsClose t n c at held outcome out found k e) = subst (Above b) (sym e) (above_close b t n c at held outcome sound found k)
above b p sound (IsSettle t at ps held out found e) = subst (Above b) (sym e) (above_settle b t at ps held sound found)
above b p sound (IsLock t ended needs phase out l e) = subst (Above b) (sym e) tt
above b p sound (IsWait t needs phase out w e) = subst (Above b) (sym e) tt
above b p sound (IsPromise t ended c at rs ws out l e) = subst (Above b) (sym e) tt
above b p sound (IsDecision t ended needs at ps rs ws out l e) = subst (Above b) (sym e) tt

above_ceiling : (b : Before) (high : Bool) (stride at : ℕ) → nat_lt b.facts.floor at ≡ high → LogAbove b (ceiling_for b.facts.floor stride at)
above_ceiling b true stride at e = rw e tt
above_ceiling b false stride at e = rw e tt

above_of : (b : Before) (i : Input) (p : Plan) → Sound b → ShapeOf b i p → Above b p
unfolding Above
above_of b i p sound (Acts shape) = above b p sound shape
above_of b i p sound (IsAdvance stride at k e) = subst (Above b) (sym e) (above_ceiling b _ stride at refl)
above_of b i p sound (IsForget at k low high e) = subst (Above b) (sym e) tt
above_of b i p sound (IsRetire below k none up e) = subst (Above b) (sym e) tt

pub installs_above : InstallsAbove
unfolding Above
installs_above rows setup facts memory now i p t s sound e logged =
    let b : Before = start_of_step rows setup facts memory in
    subst (LogAbove b) logged
    (above_of b i p sound (shape_of rows setup facts memory now i p (by_id-claims memory.rows sound.table.order) e))
