use Rattle.accounts.proofs.BySessions.{sessions_leave_enough}
use Rattle.accounts.proofs.laws.sessions_leave_enough.Goals as goal

pub returns : goal.returns
returns c = sessions_leave_enough
