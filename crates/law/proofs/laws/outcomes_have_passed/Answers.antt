use Rattle.law.proofs.Instants.{installed_in_the_past}
use Rattle.law.proofs.Passing.{commits_are_above_arrival, outcomes_have_passed}
use Rattle.law.proofs.laws.outcomes_have_passed.Goals as goal

pub returns-clause-logged : goal.returns-clause-logged
returns-clause-logged c = outcomes_have_passed

pub returns-clause-installed : goal.returns-clause-installed
returns-clause-installed c = installed_in_the_past

pub returns-clause-decided : goal.returns-clause-decided
returns-clause-decided c = commits_are_above_arrival
