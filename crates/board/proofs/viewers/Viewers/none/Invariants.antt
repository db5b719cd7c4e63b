use Rattle.std.proofs.Common.{◌≡◌, [], All, length}
use Rattle.board.proofs.viewers.Viewers.none.Given as goal

abbrev pub invariant-loop-worker : goal.invariant-loop-worker
invariant-loop-worker l = record { many : length l.by_worker.items ≡ l._worker; empty : All (λ own. own.items ≡ []) l.by_worker.items }
