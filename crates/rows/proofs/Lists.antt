-- The list of rows stays in order and within its limit.
use Rattle.std.proofs.Common.{◌+◌, ◌<◌, ◌≤◌, Bool, true, false, not, cond, List, [], ◌∷◌, length, arith, filter}
use Rattle.units.specs.Limits.{most_rows}
use Rattle.units.specs.Ids.{Id, same_id, older}
use Rattle.units.specs.ById.{with_member}
use Rattle.units.proofs.ByIdLaws.{by_id-keep, by_id-with}
use Rattle.rows.specs.declared.row.Row.{Row}
use Rattle.rows.specs.CodeRows.{IsRowList, txn_of, without_txn, put_in}

-- fewer members, or as many
pub length-keep : {A : Type 0} (p : A → Bool) (xs : List A) → length (filter p xs) ≤ length xs
length-keep p [] = omega arith
length-keep p (x ∷ xs) = by_test (p x) (length-keep p xs)
  where
    by_test : (b : Bool) → length (filter p xs) ≤ length xs → length (cond b (x ∷ filter p xs) (filter p xs)) ≤ length (x ∷ xs)
    by_test true e = omega (arith, e)
    by_test false e = omega (arith, e)

-- one more, or as many
pub length-with : {A : Type 0} (id : A → Id) (xs : List A) (y : A) → length (with_member id xs y) ≤ length xs + 1
length-with id [] y = omega arith
length-with id (x ∷ xs) y = by_tests (same_id (id x) (id y)) (older (id x) (id y)) (length-with id xs y)
  where
    by_tests : (a b : Bool) → length (with_member id xs y) ≤ length xs + 1
        → length (cond a (y ∷ xs) (cond b (x ∷ with_member id xs y) (y ∷ x ∷ xs))) ≤ length (x ∷ xs) + 1
    by_tests true b e = omega (arith, e)
    by_tests false true e = omega (arith, e)
    by_tests false false e = omega (arith, e)

pub row_list-without : (rows : List Row) (t : Id) → IsRowList rows → IsRowList (without_txn rows t)
row_list-without rows t is = record {
  order = by_id-keep txn_of (λ r. not (same_id (txn_of r) t)) rows is.order;
  few = omega (arith, length-keep (λ r. not (same_id (txn_of r) t)) rows, is.few);
}

pub row_list-put : (rows : List Row) (r : Row) → length rows < most_rows → IsRowList rows → IsRowList (put_in rows r)
row_list-put rows r room is = record {
  order = by_id-with txn_of rows r is.order;
  few = omega (arith, length-with txn_of rows r, room);
}
