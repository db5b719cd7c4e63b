use Rattle.gatelog.proofs.ArmedTurn as laws
use Rattle.slots.proofs.laws.failing_calls.Goals as goal

pub returns : goal.returns
returns c = laws.failing-calls
