use Rattle.std.proofs.Common.{◌∙◌, ap}
use Rattle.units.specs.Locks.{holds}
use Rattle.rows.specs.RowTable.{RowTable}
use Rattle.protocol.specs.Rows.{held_in}
use Rattle.rows.proofs.Ties.{held_is}
use Rattle.rows.proofs.rows.Rows.holds.Goals as goal

pub returns : goal.returns
returns c =
    c.holds.ensures ∙ ap (λ h. holds h c.args.key.now) (held_is c.self.inside.rows c.self.inside.locks c.args.txn c.self.invariant)
    ∙ ap (λ (t : RowTable). holds (held_in t.rows c.args.txn) c.args.key.now) c.self.view_is
