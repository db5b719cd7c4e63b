-- What contracts see of an opening that takes entries.
use Rattle.std.specs.Prelude.{List}
use Rattle.units.specs.declared.setup.Setup.{Setup}
use Rattle.frames.specs.Placed.{Placed}
use Rattle.recovery.specs.Taken.{taken_by, setup_of}
use Rattle.shard.specs.declared.opening.Opening.{Opening}

abbrev pub entries_in : Opening → List Placed
entries_in opening = taken_by opening.rebuild

abbrev pub told_to : Opening → Setup
told_to opening = setup_of opening.rebuild
