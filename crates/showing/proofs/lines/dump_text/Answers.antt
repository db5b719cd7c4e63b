use Rattle.std.proofs.Common.{rules, ◌∙◌, map, string_bytes}
use Rattle.showing.proofs.Ends.{offsets_seen}
use Rattle.showing.proofs.lines.dump_text.Goals as goal

pub returns-clause-text : goal.returns-clause-text
returns-clause-text c = (
  map (λ t. (t.0, string_bytes t.1)) c.in_ok-told.told.items,
  offsets_seen (λ s. string_bytes s) c.in_ok-told.told.items ∙ c.in_ok-told.ensures.offsets,
  search rules,
)
