use Rattle.std.proofs.Common.{◌≡◌, drop, slice_get}
use Rattle.units.specs.Lists.{gather}
use Rattle.rows.specs.CodeRows.{stamp_if_prepared}
use Rattle.rows.proofs.list.RowList.nth_prepared.Given as goal

abbrev pub invariant-loop-row : goal.invariant-loop-row
invariant-loop-row l = slice_get (gather stamp_if_prepared (drop l.row-index l.row-items)) l.left ≡ slice_get (gather stamp_if_prepared l.self) l.n
