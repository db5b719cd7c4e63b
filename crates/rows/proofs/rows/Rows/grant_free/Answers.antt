use Rattle.std.proofs.Common.{◌∙◌, List}
use Rattle.units.specs.Ids.{Id}
use Rattle.units.specs.Locks.{Claim, is_free}
use Rattle.rows.specs.CodeRows.{is_reading}
use Rattle.rows.proofs.Ties.{passes_seen}
use Rattle.rows.proofs.Steps.{taken, absent_out, asked, has_its_claim}
use Rattle.rows.proofs.Rooms.{room_fits}
use Rattle.rows.proofs.Transitions.{granted_more}
use Rattle.rows.proofs.rows.Rows.grant_free.Goals as goal

pub take_reading-reading-requires : goal.take_reading-reading-requires
take_reading-reading-requires c = passes_seen is_reading c.self.inside.rows c.self.inside.locks c.args.txn c.self.view_is c.requires.reading

pub grant-reading-requires-clause-claim : goal.grant-reading-requires-clause-claim
grant-reading-requires-clause-claim c = has_its_claim c.self.inside.locks c.take_reading-reading.ensures c.self.invariant

pub grant-reading-requires-clause-free : goal.grant-reading-requires-clause-free
grant-reading-requires-clause-free c =
    asked (λ (l : List Claim) (i : Id). is_free l i c.args.needs.now) c.self.inside.locks c.take_reading-reading.ensures c.self.invariant c.self.view_is
    ∙ c.requires.free

pub grant-reading-requires-clause-room : goal.grant-reading-requires-clause-room
grant-reading-requires-clause-room c =
    room_fits c.self.inside.locks c.args.needs.now c.take_reading-reading.ensures c.self.invariant c.self.view_is c.requires.room

pub put-requires-clause-absent : goal.put-requires-clause-absent
put-requires-clause-absent c = absent_out c.grant-reading.result.token.txn c.take_reading-reading.ensures c.grant-reading.ensures.txn

pub put-requires-clause-room : goal.put-requires-clause-room
put-requires-clause-room c = (taken c.take_reading-reading.ensures).space

pub invariant_of-self : goal.invariant_of-self
invariant_of-self c = (granted_more c.put.new.self c.self.inside.locks c.grant-reading.new.table c.grant-reading.result c.args.needs.now
    c.take_reading-reading.ensures c.self.invariant c.self.view_is c.put.ensures c.grant-reading.ensures.txn c.grant-reading.ensures.wait
    c.grant-reading.ensures.table).tied

pub returns : goal.returns
returns c = (granted_more c.put.new.self c.self.inside.locks c.grant-reading.new.table c.grant-reading.result c.args.needs.now
    c.take_reading-reading.ensures c.self.invariant c.self.view_is c.put.ensures c.grant-reading.ensures.txn c.grant-reading.ensures.wait
    c.grant-reading.ensures.table).rows_are
