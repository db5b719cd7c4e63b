use Rattle.std.proofs.Common.{refl, ap}
use Rattle.world.specs.Among.{is_among}
use Rattle.world.specs.World.{start}
use Rattle.lives.proofs.run.Run.start.Goals as goal

pub returns-in-Ok-clause-started : goal.returns-in-Ok-clause-started
unfolding start
returns-in-Ok-clause-started c = record {
  sessions = c.none.ensures;
  shards = record { splits_are = refl; standing = c.in-Ok.ensures.filled };
  output = record { bag = c.new.ensures.0; told = λ t. ap (λ ids. is_among ids t) c.new.ensures.1; lines = c.new.ensures.2; event = c.new.ensures.3 };
  time = refl;
}
