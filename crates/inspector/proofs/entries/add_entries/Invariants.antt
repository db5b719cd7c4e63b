use Rattle.std.proofs.Common.{◌≡◌, ◌++◌, drop}
use Rattle.units.specs.Lists.{gather}
use Rattle.inspector.specs.Entries.{about_in}
use Rattle.inspector.proofs.entries.add_entries.Given as goal

abbrev pub invariant-loop-item : goal.invariant-loop-item
invariant-loop-item l = l.found.items ++ gather (about_in l.shard) (drop l.item-index l.log) ≡ l.initial.found.items ++ gather (about_in l.shard) l.log
