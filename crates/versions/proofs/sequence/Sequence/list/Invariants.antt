use Rattle.std.proofs.Common.{◌≡◌, ◌++◌, map, drop}
use Rattle.versions.specs.Pieces.{joined}
use Rattle.versions.proofs.sequence.Sequence.list.Given as goal

abbrev pub invariant-loop-piece : goal.invariant-loop-piece
invariant-loop-piece l = l.list.items ++ map (λ s. s.place) (joined (drop l.piece-index l.piece-items)) ≡ map (λ s. s.place) (joined l.piece-items)
