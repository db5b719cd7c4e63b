use Rattle.std.proofs.Common.{◌≤◌, ◌+◌, ◌∙◌, sym, subst, length, OnOk, ℕ}
use Rattle.rows.specs.CodeRows.{is_reading}
use Rattle.protocol.specs.Rows.{held_in}
use Rattle.rows.specs.declared.row.Row.TheVariants.{Reading}
use Rattle.rows.proofs.Ties.{passes_seen}
use Rattle.rows.proofs.Steps.{taken, out_txn, absent_out, has_its_claim}
use Rattle.rows.proofs.Rooms.{room_put, held_seen}
use Rattle.rows.proofs.Transitions.{given_room}
use Rattle.rows.proofs.rows.Rows.make_room.Goals as goal

pub take_reading-reading-requires : goal.take_reading-reading-requires
take_reading-reading-requires c = passes_seen is_reading c.self.inside.rows c.self.inside.locks c.args.txn c.self.view_is c.requires

pub make_room-made-requires : goal.make_room-made-requires
make_room-made-requires c = has_its_claim c.self.inside.locks c.take_reading-reading.ensures c.self.invariant

pub put-requires-clause-absent : goal.put-requires-clause-absent
put-requires-clause-absent c = absent_out c.make_room-made.new.self.token.txn c.take_reading-reading.ensures c.make_room-made.ensures.txn

pub put-requires-clause-room : goal.put-requires-clause-room
put-requires-clause-room c = (taken c.take_reading-reading.ensures).space

pub invariant_of-self : goal.invariant_of-self
invariant_of-self c = (given_room c.put.new.self c.self.inside.locks c.make_room-made.new.self c.take_reading-reading.ensures c.self.invariant c.self.view_is
    c.put.ensures c.make_room-made.ensures.txn c.make_room-made.ensures.wait).tied

pub returns-clause-rows : goal.returns-clause-rows
returns-clause-rows c =
    (given_room c.put.new.self c.self.inside.locks c.make_room-made.new.self c.take_reading-reading.ensures c.self.invariant c.self.view_is
    c.put.ensures c.make_room-made.ensures.txn c.make_room-made.ensures.wait).rows_are

pub returns-clause-room : goal.returns-clause-room
returns-clause-room c =
    let held = held_seen c.self.inside.locks c.take_reading-reading.ensures c.self.invariant c.self.view_is in
    let spare = room_put c.take_reading-reading.new.self c.put.new.self c.self.inside.locks c.args.txn
    (Reading c.make_room-made.new.self) c.put.ensures (c.make_room-made.ensures.txn ∙ out_txn c.take_reading-reading.ensures) in
    subst (λ (n : ℕ). OnOk c.make_room-made.result (length (held_in c.args.self.now.rows c.args.txn) + c.args.more ≤ n)) (sym spare)
    (subst (λ (n : ℕ). OnOk c.make_room-made.result (n + c.args.more ≤ c.make_room-made.new.self.token.room)) held c.make_room-made.ensures.room)
