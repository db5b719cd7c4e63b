use Rattle.std.proofs.Common.{sym}
use Rattle.record.proofs.record.Record.copy.Goals as goal

pub returns-in-Opened-clause-same : goal.returns-in-Opened-clause-same
returns-in-Opened-clause-same c = sym c.in-Opened.is

pub returns-in-Ceiling-clause-same : goal.returns-in-Ceiling-clause-same
returns-in-Ceiling-clause-same c = sym c.in-Ceiling.is

pub returns-in-Abort-clause-same : goal.returns-in-Abort-clause-same
returns-in-Abort-clause-same c = sym c.in-Abort.is

pub returns-in-Outcome-clause-same : goal.returns-in-Outcome-clause-same
returns-in-Outcome-clause-same c = sym c.in-Outcome.is

pub returns-in-Horizon-clause-same : goal.returns-in-Horizon-clause-same
returns-in-Horizon-clause-same c = sym c.in-Horizon.is

pub returns-in-Base-clause-same : goal.returns-in-Base-clause-same
returns-in-Base-clause-same c = sym c.in-Base.is

pub returns-in-Settled-clause-same : goal.returns-in-Settled-clause-same
returns-in-Settled-clause-same c = sym c.in-Settled.is

pub returns-in-Closed-clause-same : goal.returns-in-Closed-clause-same
returns-in-Closed-clause-same c = sym c.in-Closed.is
