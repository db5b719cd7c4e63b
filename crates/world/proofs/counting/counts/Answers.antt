use Rattle.std.proofs.Common.{sym, ap, ◌∙◌}
use Rattle.record.specs.History.{history}
use Rattle.world.specs.World.{line_counts}
use Rattle.world.proofs.Decides.{decided_is}
use Rattle.world.proofs.counting.counts.Goals as goal

pub returns-in-Read : goal.returns-in-Read
returns-in-Read c logs decided =
    c.contains.ensures ∙ decided c.in-Read.txn ∙ sym (decided_is logs c.in-Read.txn) ∙ ap (line_counts (history logs)) (sym c.in-Read.is)
