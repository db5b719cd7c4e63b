use Rattle.std.proofs.Common.{◌≡◌, ◌+◌, ◌≤◌, ◌*◌, length, take}
use Rattle.std.specs.Prelude.{flat_map}
use Rattle.spelling.specs.Grammar.{write_spelling}
use Rattle.spelling.proofs.length.writes_len.Given as goal

abbrev pub invariant-loop-write : goal.invariant-loop-write
invariant-loop-write l = record {
  total : l.total ≡ 2 + length (flat_map write_spelling (take l.write-index l.write-items));
  most : l.total ≤ 2 + 4164 * l.write-index;
}
