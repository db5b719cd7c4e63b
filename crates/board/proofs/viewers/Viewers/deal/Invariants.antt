-- Those who were given a viewer, and those who wait for one.
use Rattle.std.proofs.Common.{List, length}
use Rattle.board.specs.Dealing.{AreDealt, lists_of}
use Rattle.board.specs.Views.{AreViewers, Viewing}
use Rattle.board.proofs.Dealing.{AreGiven}
use Rattle.board.proofs.viewers.Viewers.deal.Given as goal

abbrev pub invariant-loop-own : goal.invariant-loop-own
invariant-loop-own l =
    (all : List Viewing) (one : Viewing) → AreDealt all (lists_of l.fn.self) → AreViewers (length l.fn.self.by_worker.items) one l.fn.viewers.items
    → AreGiven (λ own. own.items) all one l.own-items l.own-index l.viewers.items
