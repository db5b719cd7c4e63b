-- The keys of the versions that were read.
use Rattle.std.proofs.Common.{◌≡◌, take}
use Rattle.showing.specs.Stats.{keys_of}
use Rattle.showing.proofs.stats.count_keys.Given as goal

abbrev pub invariant-loop-install : goal.invariant-loop-install
invariant-loop-install l = l.keys.keys ≡ keys_of (take l.install-index l.installs)
