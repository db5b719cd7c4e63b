use Rattle.world.specs.World.{areas_of}
use Rattle.lives.proofs.run.Run.finish.Goals as goal

pub returns-in-Ok-clause-done : goal.returns-in-Ok-clause-done
unfolding areas_of
returns-in-Ok-clause-done c w h = (h.output.bag, c.in-Ok.ensures.logs w.config 0 w.shards h.shards.standing, h.output.lines)
