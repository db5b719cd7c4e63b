-- The text has the rows of the pairs that were read.
use Rattle.std.proofs.Common.{◌≡◌, take}
use Rattle.pairs.specs.Rows.{rows_of}
use Rattle.pairs.proofs.commas.rows_of.Given as goal

abbrev pub invariant-loop-pair : goal.invariant-loop-pair
invariant-loop-pair l = l.text.items ≡ rows_of (take l.pair-index l.pairs)
