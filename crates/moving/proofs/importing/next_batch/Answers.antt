use Rattle.std.proofs.Common.{◌∙◌, ◌++◌, ◌∷◌, [], ap, append_assoc}
use Rattle.std.specs.Option.{option_to_list}
use Rattle.moving.proofs.importing.next_batch.Goals as goal

pub returns-in-Err : goal.returns-in-Err
returns-in-Err g c = (
  c.loop-pair.batch.items ++ c.in-Some.pair ∷ [],
  c.in_ok-pair.ensures ∙ ap (λ found. g.P.Pairs.given c.loop-pair.source ++ option_to_list found) c.in-Some.is
      ∙ ap (λ given. given ++ c.in-Some.pair ∷ []) c.loop-pair.invariant ∙ append_assoc _ c.loop-pair.batch.items (c.in-Some.pair ∷ []),
)
