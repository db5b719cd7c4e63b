use Rattle.std.proofs.Common.{◌∙◌, ap}
use Rattle.units.specs.Ids.{Id}
use Rattle.locks.specs.Table.{Token}
use Rattle.rows.specs.States.{DecidedState, is_commit_of}
use Rattle.rows.specs.CodeRows.{may_decide}
use Rattle.rows.proofs.Ties.{passes_seen, found_passes, passes_there}
use Rattle.rows.proofs.Steps.{taken, out_txn, absent_out, has_its_claim, decided_token}
use Rattle.rows.proofs.Transitions.{decided, decided_by_votes, who_decides}
use Rattle.rows.proofs.rows.Rows.decide.Goals as goal

pub take-requires : goal.take-requires
take-requires c = passes_there may_decide c.self.inside.rows c.args.txn
    (passes_seen may_decide c.self.inside.rows c.self.inside.locks c.args.txn c.self.view_is c.requires.may)

pub unreachable-requires : goal.unreachable-requires
unreachable-requires c = who_decides c.take.result (found_passes may_decide c.self.inside.rows c.args.txn c.take.result c.take.ensures.row
    (passes_seen may_decide c.self.inside.rows c.self.inside.locks c.args.txn c.self.view_is c.requires.may))
    c.in_default.not-Reading c.in_default.not-Collecting

pub decide-decided-requires-clause-mine : goal.decide-decided-requires-clause-mine
decide-decided-requires-clause-mine c = ap (λ (i : Id). is_commit_of i c.args.logged) (out_txn c.in-Reading.ensures) ∙ c.requires.mine

pub decide-decided-requires-clause-claim : goal.decide-decided-requires-clause-claim
decide-decided-requires-clause-claim c = has_its_claim c.self.inside.locks c.in-Reading.ensures c.self.invariant

pub put-requires-clause-absent : goal.put-requires-clause-absent
put-requires-clause-absent c =
    absent_out c.decide-decided.result.0.token.txn c.in-Reading.ensures (ap (λ (z : DecidedState). z.token.txn) c.decide-decided.ensures.state
    ∙ ap (λ (k : Token). k.txn) (decided_token c.in-Reading.reading.token c.args.logged))

pub put-requires-clause-room : goal.put-requires-clause-room
put-requires-clause-room c = (taken c.in-Reading.ensures).space

pub invariant_of-self : goal.invariant_of-self
invariant_of-self c = (decided c.put.new.self c.self.inside.locks c.decide-decided.new.table c.decide-decided.result.0 c.args.logged
    c.in-Reading.ensures c.self.invariant c.self.view_is c.requires.may c.requires.mine c.put.ensures c.decide-decided.ensures.state
    c.decide-decided.ensures.table).tied

pub returns-in-Reading-clause-rows : goal.returns-in-Reading-clause-rows
returns-in-Reading-clause-rows c = (decided c.put.new.self c.self.inside.locks c.decide-decided.new.table c.decide-decided.result.0 c.args.logged
    c.in-Reading.ensures c.self.invariant c.self.view_is c.requires.may c.requires.mine c.put.ensures c.decide-decided.ensures.state
    c.decide-decided.ensures.table).rows_are

pub decide-decided-requires-in-Collecting : goal.decide-decided-requires-in-Collecting
decide-decided-requires-in-Collecting c = ap (λ (i : Id). is_commit_of i c.args.logged) (out_txn c.in-Collecting.ensures) ∙ c.requires.mine

pub put-requires-in-Collecting-clause-absent : goal.put-requires-in-Collecting-clause-absent
put-requires-in-Collecting-clause-absent c = absent_out c.decide-decided-in-Collecting.result.0.token.txn c.in-Collecting.ensures
    (ap (λ (z : DecidedState). z.token.txn) c.decide-decided-in-Collecting.ensures.state
    ∙ ap (λ (k : Token). k.txn) (decided_token c.in-Collecting.collecting.token c.args.logged))

pub put-requires-in-Collecting-clause-room : goal.put-requires-in-Collecting-clause-room
put-requires-in-Collecting-clause-room c = (taken c.in-Collecting.ensures).space

pub invariant_of-self-in-Collecting : goal.invariant_of-self-in-Collecting
invariant_of-self-in-Collecting c = (decided_by_votes c.put-in-Collecting.new.self c.self.inside.locks c.decide-decided-in-Collecting.result.0 c.args.logged
    c.in-Collecting.ensures c.self.invariant c.self.view_is c.requires.mine c.put-in-Collecting.ensures c.decide-decided-in-Collecting.ensures.state).tied

pub returns-in-Collecting-clause-rows : goal.returns-in-Collecting-clause-rows
returns-in-Collecting-clause-rows c = (decided_by_votes c.put-in-Collecting.new.self c.self.inside.locks c.decide-decided-in-Collecting.result.0 c.args.logged
    c.in-Collecting.ensures c.self.invariant c.self.view_is c.requires.mine c.put-in-Collecting.ensures c.decide-decided-in-Collecting.ensures.state).rows_are
