use Rattle.std.proofs.Common.{rules}
use Rattle.std.proofs.lemmas.Fn.{filter_same}
use Rattle.record.specs.History.{history}
use Rattle.world.specs.World.{line_counts}
use Rattle.world.proofs.counting.counting_by.Goals as goal

pub returns : goal.returns
returns c logs decided =
    filter_same _ (line_counts (history logs)) _ (λ x b f' k. search rules) _ _ c.retain.ensures.filtered
