-- The text has the lines of the pairs that were read.
use Rattle.std.proofs.Common.{◌≡◌, take, string_bytes}
use Rattle.pairs.specs.Rows.{lines_of}
use Rattle.pairs.proofs.lines.lines_of.Given as goal

abbrev pub invariant-loop-pair : goal.invariant-loop-pair
invariant-loop-pair l = string_bytes l.text ≡ lines_of (take l.pair-index l.pairs)
