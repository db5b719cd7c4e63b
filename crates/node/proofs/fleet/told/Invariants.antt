use Rattle.std.proofs.Common.{◌≡◌, ◌≤◌, ◌++◌, length, map}
use Rattle.node.specs.Together.{AreSetups}
use Rattle.node.proofs.fleet.told.Given as goal

abbrev pub invariant-loop-disk : goal.invariant-loop-disk
invariant-loop-disk g l = record {
  disks : map (λ one. one.0) l.told.items ++ l.disk-iterator.rest.items ≡ l.fn.disks.items;
  setups : AreSetups l.splits l.stride 0 l.told.items;
  few : length l.told.items ≤ 16;
}
