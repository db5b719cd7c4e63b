use Rattle.std.proofs.Common.{◌≡◌, ◌++◌, take}
use Rattle.lives.specs.Spots.{AreSpots}
use Rattle.lives.proofs.run_shard.push_copies.Given as goal

abbrev pub invariant-loop-install : goal.invariant-loop-install
invariant-loop-install l = record {
  all : l.installs.items ≡ l.initial.installs.items ++ take l.install-index l.more;
  spots : AreSpots l.initial.installs.items l.initial.spots.entries → AreSpots l.installs.items l.spots.entries;
}
