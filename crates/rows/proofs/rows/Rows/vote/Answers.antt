use Rattle.std.proofs.Common.{ap}
use Rattle.rows.specs.States.{CollectingState}
use Rattle.rows.specs.CodeRows.{is_collecting}
use Rattle.rows.proofs.Ties.{passes_seen, found_passes, passes_there}
use Rattle.rows.proofs.Steps.{taken, absent_out}
use Rattle.rows.proofs.Transitions.{voted, who_collects}
use Rattle.rows.proofs.rows.Rows.vote.Goals as goal

pub take-requires : goal.take-requires
take-requires c = passes_there is_collecting c.self.inside.rows c.args.txn
    (passes_seen is_collecting c.self.inside.rows c.self.inside.locks c.args.txn c.self.view_is c.requires)

pub put-requires-clause-absent : goal.put-requires-clause-absent
put-requires-clause-absent c = absent_out c.vote.result.token.txn c.in-Collecting.ensures (ap (λ (z : CollectingState). z.token.txn) c.vote.ensures)

pub put-requires-clause-room : goal.put-requires-clause-room
put-requires-clause-room c = (taken c.in-Collecting.ensures).space

pub unreachable-requires : goal.unreachable-requires
unreachable-requires c = who_collects c.take.result (found_passes is_collecting c.self.inside.rows c.args.txn c.take.result c.take.ensures.row
    (passes_seen is_collecting c.self.inside.rows c.self.inside.locks c.args.txn c.self.view_is c.requires)) c.in_default.not-Collecting

pub invariant_of-self : goal.invariant_of-self
invariant_of-self c =
    (voted c.put.new.self c.self.inside.locks c.vote.result c.args.from c.args.at c.in-Collecting.ensures c.self.invariant c.self.view_is c.put.ensures
    c.vote.ensures).tied

pub returns : goal.returns
returns c =
    (voted c.put.new.self c.self.inside.locks c.vote.result c.args.from c.args.at c.in-Collecting.ensures c.self.invariant c.self.view_is c.put.ensures
    c.vote.ensures).rows_are
