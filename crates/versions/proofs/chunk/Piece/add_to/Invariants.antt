use Rattle.std.proofs.Common.{◌≡◌, ◌++◌, map, take}
use Rattle.versions.proofs.chunk.Piece.add_to.Given as goal

abbrev pub invariant-loop-spot : goal.invariant-loop-spot
invariant-loop-spot l = l.list.items ≡ l.fn.list.items ++ map (λ s. s.place) (take l.spot-index l.spot-items)
