-- Rows of different ids that are all found among others are no more than these.
use Rattle.std.proofs.Common.{◌≡◌, ◌<◌, ◌≤◌, Bool, true, false, not, cond, ◌||◌, List, [], ◌∷◌, length, ◌∙◌, arith}
use Rattle.std.specs.List.{AllByRecursion, list_any}
use Rattle.units.specs.Ids.{Id, same_id, older}
use Rattle.units.specs.ById.{IsById}
use Rattle.units.proofs.ByIdLaws.{has-without_other, later_are_younger}
use Rattle.units.proofs.IdLaws.{older_not_same}
use Rattle.protocol.specs.Rows.{Row, without_row}
use Rattle.protocol.proofs.RowChanges.{short-without_row}

-- some row has the id
abbrev pub has_row : List Row → Id → Bool
has_row rows t = list_any (λ q. same_id q.txn t) rows

-- without the row of an id there are fewer
pub shorter-without_row : (rows : List Row) (t : Id) → has_row rows t ≡ true → length (without_row rows t) < length rows
shorter-without_row [] t e = cc
shorter-without_row (q ∷ qs) t e = by_test (same_id q.txn t) e (short-without_row qs t) (shorter-without_row qs t)
  where
    by_test : (b : Bool) → (b || has_row qs t) ≡ true → length (without_row qs t) ≤ length qs → (has_row qs t ≡ true → length (without_row qs t) < length qs)
        → length (cond (not b) (q ∷ without_row qs t) (without_row qs t)) < length (q ∷ qs)
    by_test true k short rest = omega (arith, short)
    by_test false k short rest = omega (arith, rest k)

pub no_more : (xs rows : List Row) → IsById (λ r. r.txn) xs → AllByRecursion (λ x. has_row rows x.txn ≡ true) xs → length xs ≤ length rows
no_more [] rows up there = omega arith
no_more (x ∷ xs) rows up there =
    let rest = no_more xs (without_row rows x.txn) up.1 (still xs (later_are_younger (λ (r : Row). r.txn) x xs up) there.1) in
    let fewer = shorter-without_row rows x.txn there.0 in
    omega (arith, rest, fewer)
  where
    still : (ys : List Row) → AllByRecursion (λ (y : Row). older x.txn y.txn ≡ true) ys → AllByRecursion (λ (y : Row). has_row rows y.txn ≡ true) ys
        → AllByRecursion (λ (y : Row). has_row (without_row rows x.txn) y.txn ≡ true) ys
    still [] young there = tt
    still (y ∷ ys) young there =
        (has-without_other (λ (q : Row). q.txn) rows y.txn x.txn (older_not_same x.txn y.txn young.0) ∙ there.0, still ys young.1 there.1)
