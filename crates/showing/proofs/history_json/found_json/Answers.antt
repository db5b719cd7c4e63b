use Rattle.std.proofs.Common.{rules}
use Rattle.showing.proofs.history_json.found_json.Goals as goal

pub returns-clause-text : goal.returns-clause-text
returns-clause-text c = (c.in_ok-asked.ensures.text.0, search rules)
