use Rattle.std.proofs.Common.{refl}
use Rattle.record.specs.Accepted.{followed}
use Rattle.showing.proofs.following.learn_followed.Goals as goal

pub loop-entry-init : goal.loop-entry-init
unfolding followed
loop-entry-init c = record {
  shard = c.new-facts.ensures.shard;
  known = c.new-facts.ensures.facts;
  stage = c.new-facts.ensures.stage;
  followed = refl;
  rest = refl;
}
