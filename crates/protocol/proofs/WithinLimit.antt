-- A step keeps the rows within the limit of the table.
use Rattle.std.proofs.Common.{◌≡◌, ℕ, suc, ◌<◌, ◌≤◌, Bool, true, false, ◌&&◌, not, nat_le, List, length, refl, sym, ap, subst, ◌∙◌, arith}
use Rattle.std.specs.List.{AllByRecursion, list_any}
use Rattle.std.proofs.lemmas.Bool.Decides.{nat_tests}
use Rattle.units.specs.Ids.{Id, same_id}
use Rattle.units.specs.ById.{IsById}
use Rattle.message.specs.declared.message.Input.{Input}
use Rattle.protocol.specs.Rows.{Row, with_row, without_rows}
use Rattle.protocol.specs.Plan.{Plan, Before, start_of_step, after_change, carried}
use Rattle.protocol.specs.Sound.{StaysWithin}
use Rattle.protocol.proofs.RowChanges.{short-without_row, short-without_rows, length-with_row, length-with_row_same, any-without_rows, by_id-without_rows}
use Rattle.protocol.proofs.Shapes.{Shape, Answers, IsEnd, IsAbort, IsClose, IsSettle, IsLock, IsWait, IsPromise, IsDecision, ShapeOf, Acts, IsAdvance, IsForget, IsRetire}
use Rattle.protocol.proofs.Choices.{others_gone}
use Rattle.protocol.proofs.PlanShapes.{shape_of}

-- there is room, or there is a row already
below : (capacity count : ℕ) → (nat_le capacity count && not false) ≡ false → count < capacity
below capacity count e = grind (arith, nat_tests)

put_within : (capacity : ℕ) (rows : List Row) (us : List Id) (r : Row) → IsById (λ q. q.txn) rows → length rows ≤ capacity
    → (nat_le capacity (length rows) && not (list_any (λ q. same_id q.txn r.txn) rows)) ≡ false → AllByRecursion (λ u. same_id u r.txn ≡ false) us
    → length (with_row (without_rows rows us) r) ≤ capacity
put_within capacity rows us r up fits room others = by_test (list_any (λ q. same_id q.txn r.txn) rows) refl
  where
    left : List Row
    left = without_rows rows us

    by_test : (there : Bool) → list_any (λ q. same_id q.txn r.txn) rows ≡ there → length (with_row left r) ≤ capacity
    by_test true e =
        let same : length (with_row left r) ≡ length left =
        length-with_row_same left r (by_id-without_rows rows us up) (any-without_rows rows us r.txn others ∙ e) in
        let short : length left ≤ length rows = short-without_rows rows us in
        omega (arith, same, short, fits)
    by_test false e =
        let free : length rows < capacity = below capacity (length rows) (ap (λ c. nat_le capacity (length rows) && not c) (sym e) ∙ room) in
        let more : length (with_row left r) ≤ suc (length left) = length-with_row left r in
        let short : length left ≤ length rows = short-without_rows rows us in
        omega (arith, more, short, free)

-- the rows after a plan are within the limit
Within : Before → Plan → Type 0
Within b p = length (carried p b.memory).rows ≤ b.capacity

within : (b : Before) (p : Plan) → IsById (λ r. r.txn) b.memory.rows → length b.memory.rows ≤ b.capacity → Shape b p → Within b p
unfolding Within carried after_change
within b p up fits (Answers out e) = subst (Within b) (sym e) fits
within b p up fits (IsEnd t out s e) = subst (Within b) (sym e) (omega (arith, fits, short-without_row b.memory.rows t))
within b p up fits (IsAbort t out s e) = subst (Within b) (sym e) (omega (arith, fits, short-without_row b.memory.rows t))
within b p up fits (IsClose t n c at held outcome out found k e) = subst (Within b) (sym e) (omega (arith, fits, short-without_row b.memory.rows t))
within b p up fits (IsSettle t at ps held out found e) = subst (Within b) (sym e) (omega (arith, fits, short-without_row b.memory.rows t))
within b p up fits (IsLock t ended needs phase out l e) =
    subst (Within b) (sym e) (put_within b.capacity b.memory.rows ended _ up fits l.room (others_gone b.memory.rows t ended l.cleared.gone))
within b p up fits (IsWait t needs phase out w e) =
    subst (Within b) (sym e) (put_within b.capacity b.memory.rows _ _ up fits w.room (others_gone b.memory.rows t _ w.gone))
within b p up fits (IsPromise t ended c at rs ws out l e) =
    subst (Within b) (sym e) (put_within b.capacity b.memory.rows ended _ up fits l.room (others_gone b.memory.rows t ended l.cleared.gone))
within b p up fits (IsDecision t ended needs at ps rs ws out l e) =
    subst (Within b) (sym e) (put_within b.capacity b.memory.rows ended _ up fits l.room (others_gone b.memory.rows t ended l.cleared.gone))

within_of : (b : Before) (i : Input) (p : Plan) → IsById (λ r. r.txn) b.memory.rows → length b.memory.rows ≤ b.capacity → ShapeOf b i p → Within b p
unfolding Within carried after_change
within_of b i p up fits (Acts shape) = within b p up fits shape
within_of b i p up fits (IsAdvance stride at k e) = subst (Within b) (sym e) fits
within_of b i p up fits (IsForget at k low high e) = subst (Within b) (sym e) fits
within_of b i p up fits (IsRetire below k none rising e) = subst (Within b) (sym e) fits

pub stays_within : StaysWithin
unfolding Within
stays_within rows setup facts memory now i p up fits e =
    within_of (start_of_step rows setup facts memory) i p up fits (shape_of rows setup facts memory now i p up e)
