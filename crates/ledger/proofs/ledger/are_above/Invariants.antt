use Rattle.std.proofs.Common.{◌≡◌, drop}
use Rattle.units.specs.Versions.{above_versions}
use Rattle.ledger.proofs.ledger.are_above.Given as goal

-- the writes that are left tell
abbrev pub invariant-loop-write : goal.invariant-loop-write
invariant-loop-write l =
    above_versions l.installs l.at (drop l.write-index l.writes) ≡ above_versions l.installs l.at l.writes
