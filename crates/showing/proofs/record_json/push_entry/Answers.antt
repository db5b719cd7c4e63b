use Rattle.std.proofs.Common.{rules, string_bytes}
use Rattle.showing.proofs.record_json.push_entry.Goals as goal

pub returns-clause-line : goal.returns-clause-line
returns-clause-line c = (string_bytes c.in_ok-words.words, search rules)
