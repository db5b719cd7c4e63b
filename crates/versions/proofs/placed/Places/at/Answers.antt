use Rattle.std.proofs.Common.{◌∙◌, sym}
use Rattle.versions.proofs.Orders.{at_time_by}
use Rattle.versions.proofs.placed.Places.at.Goals as goal

pub returns : goal.returns
returns c = c.value_at.ensures ∙ sym (at_time_by c.requires.0 c.args.installs.now c.args.self.now c.requires.2 c.args.key.now c.args.at c.requires.1)
