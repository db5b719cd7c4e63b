-- The bytes that were looked at show themselves.
use Rattle.std.proofs.Common.{◌≡◌, take, true}
use Rattle.std.specs.List.{list_all}
use Rattle.pairs.specs.Rows.{shows_itself}
use Rattle.pairs.proofs.commas.show_themselves.Given as goal

abbrev pub invariant-loop-byte : goal.invariant-loop-byte
invariant-loop-byte l = list_all shows_itself (take l.byte-index l.bytes) ≡ true
