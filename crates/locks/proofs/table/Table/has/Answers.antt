use Rattle.std.proofs.Common.{◌∙◌, ap, is_some}
use Rattle.units.proofs.ByIdHalves.{found_or_not}
use Rattle.locks.specs.Table.{has_claim}
use Rattle.locks.proofs.table.Table.has.Goals as goal

pub returns-in-Some : goal.returns-in-Some
returns-in-Some c =
    ap is_some c.in-Some.ensures ∙ found_or_not (λ d. d.txn) c.self.inside.claims c.args.txn ∙ ap (λ t. has_claim t c.args.txn) c.self.view_is

pub returns-in-None : goal.returns-in-None
returns-in-None c =
    ap is_some c.in-None.ensures ∙ found_or_not (λ d. d.txn) c.self.inside.claims c.args.txn ∙ ap (λ t. has_claim t c.args.txn) c.self.view_is
