use Rattle.std.proofs.Common.{rules}
use Rattle.showing.proofs.stats_json.push_doubt.Goals as goal

pub returns-clause-doubt : goal.returns-clause-doubt
returns-clause-doubt c = (c.in_ok-dated.ensures.dated.0, search rules)
