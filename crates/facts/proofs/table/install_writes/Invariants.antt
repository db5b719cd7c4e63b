use Rattle.std.proofs.Common.{◌≡◌, ◌+◌, ◌++◌, vec_len, vec_capacity, length}
use Rattle.units.specs.Versions.{versions}
use Rattle.facts.proofs.table.install_writes.Given as goal

abbrev pub invariant-loop-write : goal.invariant-loop-write
invariant-loop-write l = record {
  items : l.installs.items ≡ l.fn.installs.items ++ versions l.yielded l.at;
  len : vec_len l.installs ≡ vec_len l.fn.installs + length l.yielded;
  room : vec_capacity l.installs ≡ vec_capacity l.fn.installs;
}
