use Rattle.world.proofs.EveryRun.{is_steady}
use Rattle.law.proofs.Passing.{shards_are_of_their_logs}
use Rattle.law.proofs.laws.shards_are_of_their_logs.Goals as goal

pub returns-clause-records : goal.returns-clause-records
returns-clause-records c = is_steady

pub returns-clause-rows : goal.returns-clause-rows
returns-clause-rows c = shards_are_of_their_logs
