use Rattle.std.proofs.Common.{◌≡◌, take}
use Rattle.recovery.specs.Taken.{taken_by, setup_of}
use Rattle.recovery.proofs.whole.rebuild.Given as goal

abbrev pub invariant-loop-entry : goal.invariant-loop-entry
invariant-loop-entry l = record {
  setup : setup_of l.made ≡ l.fn.setup;
  taken : taken_by l.made ≡ take l.entry-index l.entries;
}
