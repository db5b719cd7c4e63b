use Rattle.std.proofs.Common.{◌≡◌, ◌+◌, ◌≤◌, ◌*◌, length, take}
use Rattle.std.specs.Prelude.{flat_map}
use Rattle.spelling.specs.Grammar.{key_spelling}
use Rattle.spelling.proofs.length.keys_len.Given as goal

abbrev pub invariant-loop-key : goal.invariant-loop-key
invariant-loop-key l = record {
  total : l.total ≡ 2 + length (flat_map key_spelling (take l.key-index l.key-items));
  most : l.total ≤ 2 + 65 * l.key-index;
}
