-- The batch is what the text gave since.
use Rattle.std.proofs.Common.{◌≡◌, ◌++◌}
use Rattle.moving.proofs.importing.next_batch.Given as goal

abbrev pub invariant-loop-pair : goal.invariant-loop-pair
invariant-loop-pair g l = g.P.Pairs.given l.source ≡ g.P.Pairs.given l.fn.source ++ l.batch.items
