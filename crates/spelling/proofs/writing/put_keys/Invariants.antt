use Rattle.std.proofs.Common.{◌≡◌, ◌++◌, length, take}
use Rattle.std.specs.Int.{w16, to_be_bytes}
use Rattle.std.specs.Prelude.{flat_map}
use Rattle.std.specs.List.{AllByRecursion}
use Rattle.spelling.specs.Grammar.{key_spelling}
use Rattle.spelling.specs.Limits.{IsKey}
use Rattle.spelling.proofs.writing.put_keys.Given as goal

abbrev pub invariant-loop-key : goal.invariant-loop-key
invariant-loop-key l = record {
  bytes : l.out.items ≡ l.fn.out.items ++ (to_be_bytes w16 (length l.keys) ++ flat_map key_spelling (take l.key-index l.keys));
  fits : AllByRecursion IsKey (take l.key-index l.keys);
}
