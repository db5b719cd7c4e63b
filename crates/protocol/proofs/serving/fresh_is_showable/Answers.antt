use Rattle.std.proofs.Common.{refl}
use Rattle.record.specs.Computing.{computing}
use Rattle.protocol.specs.Showable.{rises_by_key}
use Rattle.protocol.proofs.serving.fresh_is_showable.Goals as goal

pub returns : goal.returns
unfolding computing rises_by_key
returns c = record { entries = refl; rows = refl; installs = refl }
