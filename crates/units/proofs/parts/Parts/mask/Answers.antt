use Rattle.std.proofs.Common.{sym, ap, ◌∙◌}
use Rattle.units.specs.Masks.{mask_of}
use Rattle.units.specs.Parts.{mask_again}
use Rattle.units.proofs.parts.Parts.mask.Goals as goal

pub returns-clause-value : goal.returns-clause-value
returns-clause-value c = sym (mask_again c.self.inside.mask c.self.invariant.1) ∙ ap mask_of c.self.view_is
