-- The pairs are those of the keys that were read, as the view told them.
use Rattle.std.proofs.Common.{◌≡◌, map, take}
use Rattle.moving.specs.Exports.{AreTold}
use Rattle.moving.proofs.exporting.pairs_of.Given as goal

abbrev pub invariant-loop-key : goal.invariant-loop-key
invariant-loop-key g l =
    (map (λ pair. pair.key) l.pairs.items ≡ take l.key-index l.keys)
    × (l.view.at ≡ l.fn.view.at)
    × (l.view.shared.now.splits ≡ l.fn.view.shared.now.splits)
    × AreTold l.fn.view.shared.now.splits l.fn.view.at l.fn.view.viewers.now.items l.pairs.items l.view.viewers.now.items
