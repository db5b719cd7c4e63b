use Rattle.std.proofs.Common.{◌∙◌, ap}
use Rattle.units.specs.Ids.{Id}
use Rattle.locks.specs.Table.{Token}
use Rattle.rows.specs.States.{PreparedState, is_prepare_of}
use Rattle.rows.specs.CodeRows.{is_idle}
use Rattle.rows.proofs.Ties.{passes_seen}
use Rattle.rows.proofs.Steps.{taken, out_txn, absent_out, has_its_claim, idle_reads, prepared_token}
use Rattle.rows.proofs.Transitions.{prepared}
use Rattle.rows.proofs.rows.Rows.prepare.Goals as goal

pub take_reading-reading-requires : goal.take_reading-reading-requires
take_reading-reading-requires c =
    idle_reads c.self.inside.rows c.args.txn (passes_seen is_idle c.self.inside.rows c.self.inside.locks c.args.txn c.self.view_is c.requires.idle)

pub prepare-prepared-requires-clause-mine : goal.prepare-prepared-requires-clause-mine
prepare-prepared-requires-clause-mine c = ap (λ (i : Id). is_prepare_of i c.args.logged) (out_txn c.take_reading-reading.ensures) ∙ c.requires.mine

pub prepare-prepared-requires-clause-claim : goal.prepare-prepared-requires-clause-claim
prepare-prepared-requires-clause-claim c = has_its_claim c.self.inside.locks c.take_reading-reading.ensures c.self.invariant

pub put-requires-clause-absent : goal.put-requires-clause-absent
put-requires-clause-absent c =
    absent_out c.prepare-prepared.result.0.token.txn c.take_reading-reading.ensures (ap (λ (z : PreparedState). z.token.txn) c.prepare-prepared.ensures.state
    ∙ ap (λ (k : Token). k.txn) (prepared_token c.take_reading-reading.result.token c.args.logged))

pub put-requires-clause-room : goal.put-requires-clause-room
put-requires-clause-room c = (taken c.take_reading-reading.ensures).space

pub invariant_of-self : goal.invariant_of-self
invariant_of-self c = (prepared c.put.new.self c.self.inside.locks c.prepare-prepared.new.table c.prepare-prepared.result.0 c.args.logged
    c.take_reading-reading.ensures c.self.invariant c.self.view_is c.requires.idle c.requires.mine c.put.ensures c.prepare-prepared.ensures.state
    c.prepare-prepared.ensures.table).tied

pub returns-clause-rows : goal.returns-clause-rows
returns-clause-rows c = (prepared c.put.new.self c.self.inside.locks c.prepare-prepared.new.table c.prepare-prepared.result.0 c.args.logged
    c.take_reading-reading.ensures c.self.invariant c.self.view_is c.requires.idle c.requires.mine c.put.ensures c.prepare-prepared.ensures.state
    c.prepare-prepared.ensures.table).rows_are
