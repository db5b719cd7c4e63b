use Rattle.std.proofs.Common.{true, [], Option, subst, sym}
use Rattle.protocol.specs.Rows.{Row, Standing}
use Rattle.protocol.specs.Cells.{plan_cell}
use Rattle.protocol.specs.Table.{go_on_cell}
use Rattle.memory.specs.RowTable.{needs_by}
use Rattle.memory.specs.Carry.{Asks}
use Rattle.memory.specs.Kept.{IsPlanned, start_of}
use Rattle.shard.proofs.inputs.resume_of.Goals as goal

pub resume_read-requires : goal.resume_read-requires
resume_read-requires c =
    subst (λ (o : Option Row). Asks c.args.state.now.memory.rows c.args.txn [] (needs_by o) true) c.in-WaitsRead.ensures.row c.requires

pub resume_prepare-requires : goal.resume_prepare-requires
resume_prepare-requires c =
    subst (λ (o : Option Row). Asks c.args.state.now.memory.rows c.args.txn [] (needs_by o) true) c.in-WaitsPrepare.ensures.row c.requires

pub resume_commit-requires : goal.resume_commit-requires
resume_commit-requires c =
    subst (λ (o : Option Row). Asks c.args.state.now.memory.rows c.args.txn [] (needs_by o) true) c.in-WaitsCommit.ensures.row c.requires

pub returns-in-WaitsRead-clause-planned : goal.returns-in-WaitsRead-clause-planned
returns-in-WaitsRead-clause-planned c =
    let k = c.args.state.now in
    let earliest = c.args.now.now.earliest in
    subst (λ (s : Standing). IsPlanned k (plan_cell (start_of k) (go_on_cell earliest c.args.txn s)) c.resume_read.result)
    (sym c.in-WaitsRead.ensures.standing) (c.resume_read.ensures.planned earliest)
