-- The records that are left, behind the last id of those that were read.
use Rattle.std.proofs.Common.{◌≡◌, drop}
use Rattle.units.specs.Lists.{gather}
use Rattle.record.specs.Records.{as_retired, last_id, retired_of}
use Rattle.inspector.proofs.retired.retired_of.Given as goal

abbrev pub invariant-loop-item : goal.invariant-loop-item
invariant-loop-item l = last_id l.found (gather as_retired (drop l.item-index l.log)) ≡ retired_of l.log
