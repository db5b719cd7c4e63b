use Rattle.std.proofs.Common.{◌≡◌, ◌++◌, [], List, length}
use Rattle.std.specs.List.{AllZip}
use Rattle.board.specs.Dealing.{AreDealt, lists_of}
use Rattle.board.specs.Views.{Viewing}
use Rattle.node.specs.Dealt.{HasViewers}
use Rattle.node.specs.Together.{IsOpenedOver}
use Rattle.node.proofs.fleet.all_opened.Given as goal

abbrev pub invariant-loop-one : goal.invariant-loop-one
invariant-loop-one g l = record {
  viewers : length l.opened.viewers.by_worker.items ≡ length l.fn.viewers.by_worker.items;
  dealt :
      (all : List Viewing) → AllZip (HasViewers (length l.fn.viewers.by_worker.items)) l.yielded all → AreDealt [] (lists_of l.fn.viewers)
      → AreDealt all (lists_of l.opened.viewers);
  passed : l.yielded ++ l.one-iterator.rest.items ≡ l.fn.made.items;
  opened : IsOpenedOver l.yielded (length l.opened.nodes.items) l.opened.epoch l.opened.last;
}
