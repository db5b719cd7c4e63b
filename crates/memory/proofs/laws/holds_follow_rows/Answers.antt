use Rattle.memory.proofs.Served as served
use Rattle.memory.proofs.laws.holds_follow_rows.Goals as goal

pub returns-clause-safe : goal.returns-clause-safe
returns-clause-safe c = served.holding_safe

pub returns-clause-hold_put : goal.returns-clause-hold_put
returns-clause-hold_put c = served.holding_with

pub returns-clause-none_put : goal.returns-clause-none_put
returns-clause-none_put c = served.holding_with_none

pub returns-clause-hold_taken : goal.returns-clause-hold_taken
returns-clause-hold_taken c = served.holding_without

pub returns-clause-none_taken : goal.returns-clause-none_taken
returns-clause-none_taken c = served.holding_without_none

pub returns-clause-few : goal.returns-clause-few
returns-clause-few c = served.holds_few
