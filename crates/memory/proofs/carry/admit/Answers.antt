use Rattle.std.proofs.Common.{◌≡◌, ◌∙◌, sym, subst, None}
use Rattle.protocol.specs.Rows.{find_row}
use Rattle.memory.specs.Served.{IsHolding}
use Rattle.memory.proofs.Carried.{none_found, some_found, asks_reading, put_reads, put_and_gone, holding_admitted}
use Rattle.memory.proofs.carry.admit.Goals as goal

pub make_room-requires : goal.make_room-requires
make_room-requires c =
    let there = some_found c.find.result _ _ c.find.ensures (sym c.is_some.ensures ∙ c.if-is_some.true) in
    asks_reading c.args.rows.now.rows c.args.txn _ there.1 c.requires

pub make_room-requires-2 : goal.make_room-requires-2
make_room-requires-2 c = put_reads c.args.rows.now.rows c.admit.new.self.rows c.args.txn _ c.in_ok-admit.ensures.ok

pub end-requires : goal.end-requires
end-requires c = put_reads c.args.rows.now.rows c.make_room-2.new.self.rows c.args.txn _ (c.make_room-2.ensures.rows ∙ c.in_ok-admit.ensures.ok)

pub returns-in-Ok-clause-undo : goal.returns-in-Ok-clause-undo
returns-in-Ok-clause-undo c = put_reads c.args.rows.now.rows c.make_room-2.new.self.rows c.args.txn _ (c.make_room-2.ensures.rows ∙ c.in_ok-admit.ensures.ok)

pub returns-in-Ok-clause-holding : goal.returns-in-Ok-clause-holding
returns-in-Ok-clause-holding c =
    let none : find_row c.args.rows.now.rows c.args.txn ≡ None = none_found c.find.result _ _ c.find.ensures (sym c.is_some.ensures ∙ c.if-is_some.false) in
    λ holds same. holding_admitted holds c.args.rows.now.rows c.make_room-2.new.self.rows c.args.txn c.laws.ensures.order same none
    (c.make_room-2.ensures.rows ∙ c.in_ok-admit.ensures.ok)

pub returns-in-Err-clause-kept : goal.returns-in-Err-clause-kept
returns-in-Err-clause-kept c =
    let none : find_row c.args.rows.now.rows c.args.txn ≡ None = none_found c.find.result _ _ c.find.ensures (sym c.is_some.ensures ∙ c.if-is_some.false) in
    c.end.ensures.rows ∙ put_and_gone c.args.rows.now.rows c.make_room-2.new.self.rows c.args.txn _ _
    (c.make_room-2.ensures.rows ∙ c.in_ok-admit.ensures.ok) none

pub returns-in-Err-clause-holding : goal.returns-in-Err-clause-holding
returns-in-Err-clause-holding c =
    let none : find_row c.args.rows.now.rows c.args.txn ≡ None = none_found c.find.result _ _ c.find.ensures (sym c.is_some.ensures ∙ c.if-is_some.false) in
    let back = c.end.ensures.rows ∙ put_and_gone c.args.rows.now.rows c.make_room-2.new.self.rows c.args.txn _ _
    (c.make_room-2.ensures.rows ∙ c.in_ok-admit.ensures.ok) none in
    λ holds same. subst (IsHolding holds) (sym back) same
