-- What a contract sees of a rebuild.
use Rattle.std.specs.Prelude.{List, reverse}
use Rattle.units.specs.declared.setup.Setup.{Setup}
use Rattle.frames.specs.Placed.{Placed}
use Rattle.recovery.specs.declared.rebuilding.Rebuild.{Rebuild}

-- the entries that it took, the first first
abbrev pub taken_by : Rebuild → List Placed
taken_by r = reverse r.entries.entries

-- what its shard is told
abbrev pub setup_of : Rebuild → Setup
setup_of r = r.setup
