use Rattle.std.proofs.Common.{refl}
use Rattle.showing.proofs.files.tell_log_json.Goals as goal

pub returns-clause-told : goal.returns-clause-told
returns-clause-told g c =
    let log = c.in_ok-push_log_json.ensures.text in (
      record {
        told = record {
          name = c.args.log.now;
          numbers = c.in_ok-stats.stats.numbers;
          in_doubt = c.in_ok-stats.stats.in_doubt.items;
        };
        text = log.0;
        is = log.1;
      },
      refl,
      c.in_ok-push.ensures.items,
      log.2,
      c.in_ok-stats.ensures.named,
    )
