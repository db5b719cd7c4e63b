use Rattle.std.proofs.Common.{arith}
use Rattle.rows.specs.CodeRows.{txn_of}
use Rattle.units.proofs.ByIdLaws.{place_within}
use Rattle.units.proofs.ByIdHalves.{place_by_halves}
use Rattle.rows.proofs.list.place.Goals as goal

pub returns-clause-place : goal.returns-clause-place
returns-clause-place c = place_by_halves txn_of c.args.rows.now c.args.txn c.first_from.result
    c.requires.order c.requires.row c.first_from.ensures.parted

pub returns-clause-within : goal.returns-clause-within
returns-clause-within c =
    let at = returns-clause-place c in
    omega (arith, at, place_within txn_of c.args.rows.now c.args.txn c.requires.row)
