use Rattle.std.proofs.Common.{◌≡◌, ◌++◌, length, take}
use Rattle.std.specs.Int.{w16, to_be_bytes}
use Rattle.std.specs.Prelude.{flat_map}
use Rattle.std.specs.List.{AllByRecursion}
use Rattle.spelling.specs.Grammar.{write_spelling}
use Rattle.spelling.specs.Limits.{IsWrite}
use Rattle.spelling.proofs.writing.put_writes.Given as goal

abbrev pub invariant-loop-write : goal.invariant-loop-write
invariant-loop-write l = record {
  bytes : l.out.items ≡ l.fn.out.items ++ (to_be_bytes w16 (length l.writes) ++ flat_map write_spelling (take l.write-index l.writes));
  fits : AllByRecursion IsWrite (take l.write-index l.writes);
}
