use Rattle.std.proofs.Common.{◌∙◌, sym}
use Rattle.versions.proofs.Orders.{latest_by}
use Rattle.versions.proofs.placed.Places.latest.Goals as goal

pub returns : goal.returns
returns c = c.latest.ensures ∙ sym (latest_by c.requires.0 c.args.installs.now c.args.self.now c.requires.1 c.args.key.now)
