use Rattle.rows.specs.CodeRows.{may_abort}
use Rattle.rows.proofs.Ties.{passes_seen, passes_there}
use Rattle.rows.proofs.Steps.{left}
use Rattle.rows.proofs.rows.Rows.abort.Goals as goal

pub take-row-requires : goal.take-row-requires
take-row-requires c = passes_there may_abort c.self.inside.rows c.args.txn
    (passes_seen may_abort c.self.inside.rows c.self.inside.locks c.args.txn c.self.view_is c.requires.may)

pub invariant_of-self : goal.invariant_of-self
invariant_of-self c = (left c.self.inside.locks c.release.new.table c.take-row.ensures c.self.invariant c.self.view_is c.release.ensures).tied

pub returns-clause-rows : goal.returns-clause-rows
returns-clause-rows c = (left c.self.inside.locks c.release.new.table c.take-row.ensures c.self.invariant c.self.view_is c.release.ensures).rows_are
