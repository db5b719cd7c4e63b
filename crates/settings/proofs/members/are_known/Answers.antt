use Rattle.std.proofs.Common.{◌∙◌}
use Rattle.settings.proofs.Documents.{knows_keys}
use Rattle.settings.proofs.members.are_known.Goals as goal

pub returns : goal.returns
returns c = c.have_known_names.ensures ∙ knows_keys c.args.table.now.entries
