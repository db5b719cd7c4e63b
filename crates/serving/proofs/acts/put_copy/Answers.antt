use Rattle.std.proofs.Common.{rules}
use Rattle.serving.proofs.acts.put_copy.Goals as goal

pub returns-clause-wrote : goal.returns-clause-wrote
returns-clause-wrote g c = search rules
