use Rattle.std.proofs.Common.{◌≡◌, []}
use Rattle.std.proofs.lemmas.List.Elements.{All-map}
use Rattle.board.proofs.viewers.Viewers.none.Goals as goal

pub returns-clause-empty : goal.returns-clause-empty
returns-clause-empty c = All-map (λ own. own ≡ []) (λ own. own.items) c.loop-worker.by_worker.items c.loop-worker.invariant.empty
