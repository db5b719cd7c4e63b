use Rattle.std.proofs.Common.{take}
use Rattle.units.specs.Lists.{gather}
use Rattle.rows.specs.CodeRows.{stamp_if_decided}
use Rattle.rows.specs.RowTable.{IsEarliest}
use Rattle.rows.proofs.list.RowList.earliest_decided.Given as goal

abbrev pub invariant-loop-row : goal.invariant-loop-row
invariant-loop-row l = IsEarliest (gather stamp_if_decided (take l.row-index l.row-items)) l.earliest
