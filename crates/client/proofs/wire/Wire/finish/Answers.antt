use Rattle.client.proofs.Refusals.{not_closed}
use Rattle.client.proofs.wire.Wire.finish.Goals as goal

pub returns-in-Ok-clause-refused : goal.returns-in-Ok-clause-refused
returns-in-Ok-clause-refused g c = λ why. not_closed _ _ _ _ c.close.result c.close.ensures.4
