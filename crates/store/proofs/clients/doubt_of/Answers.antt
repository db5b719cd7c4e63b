use Rattle.std.proofs.Common.{sym, ◌∙◌}
use Rattle.units.proofs.IdLaws.{same_id-is}
use Rattle.store.proofs.clients.doubt_of.Goals as goal

pub returns-then-eq : goal.returns-then-eq
returns-then-eq c = sym c.txn.ensures ∙ same_id-is c.txn.result c.args.id (sym c.eq.ensures ∙ c.if-eq.true)
