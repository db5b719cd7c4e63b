use Rattle.std.proofs.Common.{refl}
use Rattle.showing.proofs.files.tell_log.Goals as goal

pub returns-clause-told : goal.returns-clause-told
returns-clause-told g c = (
  record {
    name = c.args.log.now;
    numbers = c.in_ok-stats.stats.numbers;
    in_doubt = c.in_ok-stats.stats.in_doubt.items;
  },
  refl,
  c.in_ok-push.ensures.items,
  c.in_ok-push_log.ensures.text,
  c.in_ok-stats.ensures.named,
)
