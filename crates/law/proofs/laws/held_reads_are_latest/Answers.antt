use Rattle.law.proofs.Passing.{held_reads_are_latest}
use Rattle.law.proofs.laws.held_reads_are_latest.Goals as goal

pub returns : goal.returns
returns c = held_reads_are_latest
