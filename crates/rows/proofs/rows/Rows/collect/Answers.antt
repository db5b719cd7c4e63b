use Rattle.std.proofs.Common.{ap}
use Rattle.rows.specs.States.{CollectingState}
use Rattle.rows.specs.CodeRows.{is_idle}
use Rattle.rows.proofs.Ties.{passes_seen}
use Rattle.rows.proofs.Steps.{taken, absent_out, has_its_claim, idle_reads}
use Rattle.rows.proofs.Transitions.{collected}
use Rattle.rows.proofs.rows.Rows.collect.Goals as goal

pub take_reading-reading-requires : goal.take_reading-reading-requires
take_reading-reading-requires c =
    idle_reads c.self.inside.rows c.args.txn (passes_seen is_idle c.self.inside.rows c.self.inside.locks c.args.txn c.self.view_is c.requires)

pub collect-collecting-requires : goal.collect-collecting-requires
collect-collecting-requires c = has_its_claim c.self.inside.locks c.take_reading-reading.ensures c.self.invariant

pub put-requires-clause-absent : goal.put-requires-clause-absent
put-requires-clause-absent c = absent_out c.collect-collecting.result.token.txn c.take_reading-reading.ensures
    (ap (λ (z : CollectingState). z.token.txn) c.collect-collecting.ensures.state)

pub put-requires-clause-room : goal.put-requires-clause-room
put-requires-clause-room c = (taken c.take_reading-reading.ensures).space

pub invariant_of-self : goal.invariant_of-self
invariant_of-self c = (collected c.put.new.self c.self.inside.locks c.collect-collecting.new.table c.collect-collecting.result c.args.gathering
    c.take_reading-reading.ensures c.self.invariant c.self.view_is
    c.requires c.put.ensures c.collect-collecting.ensures.state c.collect-collecting.ensures.table).tied

pub returns : goal.returns
returns c = (collected c.put.new.self c.self.inside.locks c.collect-collecting.new.table c.collect-collecting.result c.args.gathering
    c.take_reading-reading.ensures c.self.invariant c.self.view_is
    c.requires c.put.ensures c.collect-collecting.ensures.state c.collect-collecting.ensures.table).rows_are
