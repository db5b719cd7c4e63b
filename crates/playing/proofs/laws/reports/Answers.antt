use Rattle.playing.proofs.Consistent.{consistent}
use Rattle.playing.proofs.laws.reports.Goals as goal

pub returns : goal.returns
returns c = consistent c.sound_is_yes.ensures
