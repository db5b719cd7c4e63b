use Rattle.safetime.proofs.Orders as orders
use Rattle.safetime.proofs.laws.order_does_not_matter.Goals as goal

pub returns-clause-order : goal.returns-clause-order
returns-clause-order c = orders.order_does_not_matter

pub returns-clause-hold : goal.returns-clause-hold
returns-clause-hold c = orders.hold_adds_one

pub returns-clause-lift : goal.returns-clause-lift
returns-clause-lift c = orders.lift_takes_one
