-- Transactions have put all that came, and so many pairs are counted.
use Rattle.std.proofs.Common.{◌≡◌, ◌++◌, List, length}
use Rattle.std.specs.List.{All}
use Rattle.pairs.specs.declared.pair.Pair.{Pair}
use Rattle.moving.specs.Imports.{IsPut, pairs_in}
use Rattle.moving.proofs.importing.import.Given as goal

abbrev pub invariant-loop-batch : goal.invariant-loop-batch
invariant-loop-batch g l =
    (l.client.run ≡ l.fn.client.run)
    × ((batches : List (List Pair)) × All (IsPut l.fn.client.run) batches
    × (l.imported ≡ length (pairs_in batches))
    × (g.P.Pairs.given l.source ≡ g.P.Pairs.given l.fn.source ++ pairs_in batches))
