use Rattle.std.proofs.Common.{rules}
use Rattle.showing.proofs.history_json.push_line.Goals as goal

pub returns-clause-line : goal.returns-clause-line
returns-clause-line c = (c.in_ok-dated.ensures.dated.0, search rules)
