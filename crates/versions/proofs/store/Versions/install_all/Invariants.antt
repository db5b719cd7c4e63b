use Rattle.std.proofs.Common.{◌≡◌, ◌+◌, ◌++◌, length}
use Rattle.units.specs.Versions.{versions}
use Rattle.versions.specs.Ordered.{all_installed}
use Rattle.versions.proofs.store.Versions.install_all.Given as goal

abbrev pub invariant-loop-write : goal.invariant-loop-write
invariant-loop-write l = record {
  installs : l.self.installs ≡ all_installed l.fn.self.installs (versions l.yielded l.at);
  room : l.self.room + length l.yielded ≡ l.fn.self.room;
  whole : l.yielded ++ l.write-iterator.rest.items ≡ l.fn.writes;
}
