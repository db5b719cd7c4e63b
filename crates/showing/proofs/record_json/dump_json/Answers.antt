use Rattle.std.proofs.Common.{string_bytes}
use Rattle.showing.proofs.record_json.dump_json.Goals as goal

pub returns-clause-text : goal.returns-clause-text
returns-clause-text c = (string_bytes c.in_ok-text.text, c.in_ok-text.ensures.lines, c.in_ok-push_end.ensures.end)
