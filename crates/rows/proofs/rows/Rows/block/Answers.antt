use Rattle.std.proofs.Common.{◌∙◌, List}
use Rattle.units.specs.Ids.{Id}
use Rattle.units.specs.Locks.{Claim, is_free, wounded}
use Rattle.rows.specs.CodeRows.{is_reading}
use Rattle.rows.proofs.Ties.{passes_seen}
use Rattle.rows.proofs.Steps.{taken, absent_out, asked, has_its_claim}
use Rattle.rows.proofs.Rooms.{room_fits}
use Rattle.rows.proofs.Transitions.{waits_with}
use Rattle.rows.proofs.rows.Rows.block.Goals as goal

pub take_reading-reading-requires : goal.take_reading-reading-requires
take_reading-reading-requires c = passes_seen is_reading c.self.inside.rows c.self.inside.locks c.args.txn c.self.view_is c.requires.reading

pub block-reading-requires-clause-claim : goal.block-reading-requires-clause-claim
block-reading-requires-clause-claim c = has_its_claim c.self.inside.locks c.take_reading-reading.ensures c.self.invariant

pub block-reading-requires-clause-quiet : goal.block-reading-requires-clause-quiet
block-reading-requires-clause-quiet c =
    asked (λ (l : List Claim) (i : Id). wounded l i c.args.needs.now) c.self.inside.locks c.take_reading-reading.ensures c.self.invariant c.self.view_is
    ∙ c.requires.quiet

pub block-reading-requires-clause-blocked : goal.block-reading-requires-clause-blocked
block-reading-requires-clause-blocked c =
    asked (λ (l : List Claim) (i : Id). is_free l i c.args.needs.now) c.self.inside.locks c.take_reading-reading.ensures c.self.invariant c.self.view_is
    ∙ c.requires.blocked

pub block-reading-requires-clause-room : goal.block-reading-requires-clause-room
block-reading-requires-clause-room c =
    room_fits c.self.inside.locks c.args.needs.now c.take_reading-reading.ensures c.self.invariant c.self.view_is c.requires.room

pub put-requires-clause-absent : goal.put-requires-clause-absent
put-requires-clause-absent c = absent_out c.block-reading.result.token.txn c.take_reading-reading.ensures c.block-reading.ensures.txn

pub put-requires-clause-room : goal.put-requires-clause-room
put-requires-clause-room c = (taken c.take_reading-reading.ensures).space

pub invariant_of-self : goal.invariant_of-self
invariant_of-self c = (waits_with c.put.new.self c.self.inside.locks c.block-reading.new.table c.block-reading.result c.args.wait c.args.needs.now
    c.take_reading-reading.ensures c.self.invariant c.self.view_is c.put.ensures c.block-reading.ensures.txn c.block-reading.ensures.wait c.requires.needs
    c.block-reading.ensures.table).tied

pub returns : goal.returns
returns c = (waits_with c.put.new.self c.self.inside.locks c.block-reading.new.table c.block-reading.result c.args.wait c.args.needs.now
    c.take_reading-reading.ensures c.self.invariant c.self.view_is c.put.ensures c.block-reading.ensures.txn c.block-reading.ensures.wait c.requires.needs
    c.block-reading.ensures.table).rows_are
