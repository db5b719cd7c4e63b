use Rattle.std.proofs.Common.{◌∙◌, sym}
use Rattle.versions.proofs.Orders.{above_by}
use Rattle.versions.proofs.placed.Places.takes.Goals as goal

pub returns : goal.returns
returns c = c.is_above.ensures ∙ sym (above_by c.requires.0 c.args.installs.now c.args.self.now c.requires.1 c.args.key.now c.args.at)
