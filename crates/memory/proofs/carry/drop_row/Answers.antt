use Rattle.std.proofs.Common.{◌∙◌, sym, subst}
use Rattle.safetime.specs.Safe.{Times}
use Rattle.memory.specs.Served.{IsHolding}
use Rattle.memory.proofs.Carried.{not_found, gone_already, holding_gone, holding_left}
use Rattle.memory.proofs.carry.drop_row.Goals as goal

pub returns-then-is_none-clause-rows : goal.returns-then-is_none-clause-rows
returns-then-is_none-clause-rows c =
    sym (gone_already c.args.rows.now.rows c.args.txn (not_found c.find.result _ _ _ c.find.ensures c.is_none.ensures c.if-is_none.true))

pub returns-in-Some-clause-holding : goal.returns-in-Some-clause-holding
returns-in-Some-clause-holding c =
    subst (λ (times : Times). IsHolding times.holds c.close.new.self.rows) (sym c.lift.ensures)
    (holding_gone c.args.times.now.holds c.args.rows.now.rows c.close.new.self.rows c.args.txn c.in-Some.at c.laws.ensures.order c.requires.holding
    (sym c.held_at.ensures ∙ c.in-Some.is) c.close.ensures.rows)

pub returns-in-None-clause-holding : goal.returns-in-None-clause-holding
returns-in-None-clause-holding c =
    holding_left c.args.times.now.holds c.args.rows.now.rows c.abort.new.self.rows c.args.txn c.laws.ensures.order c.requires.holding
    (sym c.held_at.ensures ∙ c.in-None.is) c.abort.ensures.rows
