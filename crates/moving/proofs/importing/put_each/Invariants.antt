-- The pairs that were read are put.
use Rattle.std.proofs.Common.{take}
use Rattle.moving.specs.Imports.{HasPut}
use Rattle.moving.proofs.importing.put_each.Given as goal

abbrev pub invariant-loop-pair : goal.invariant-loop-pair
invariant-loop-pair g l = HasPut (take l.pair-index l.pairs) l.fn.tx.session.client l.tx.session.client
