use Rattle.std.proofs.Common.{rules, string_bytes}
use Rattle.showing.proofs.stats_json.push_doubts.Goals as goal

pub returns-clause-rest : goal.returns-clause-rest
returns-clause-rest c = (string_bytes c.in_ok-doubts.doubts, c.in_ok-doubts.ensures.doubts, search rules)
