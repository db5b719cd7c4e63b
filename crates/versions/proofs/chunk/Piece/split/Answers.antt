use Rattle.std.proofs.Common.{◌∙◌, ◌++◌, ◌-◌, List, take, drop, length, ap, arith}
use Rattle.std.proofs.lemmas.List.{take_all, length-drop}
use Rattle.versions.specs.declared.chunk.Spot.{Spot}
use Rattle.versions.proofs.chunk.Piece.split.Goals as goal

pub returns-clause-upper : goal.returns-clause-upper
returns-clause-upper c =
    let spots = c.deref.result.now in
    c.in-Ok.ensures.items
    ∙ ap (λ (l : List Spot). l ++ take (length spots - 512) (drop 512 spots)) c.truncate.ensures.items
    ∙ take_all (length spots - 512) (drop 512 spots) (omega (arith, length-drop 512 spots))
    ∙ ap (λ (l : List Spot). drop 512 l) (c.deref.ensures.value ∙ c.self.view_is)
