use Rattle.slots.proofs.Rows as laws
use Rattle.slots.proofs.laws.fresh_has_next.Goals as goal

pub returns : goal.returns
returns c = laws.fresh-has-next
