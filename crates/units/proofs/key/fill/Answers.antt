use Rattle.std.proofs.Common.{drop, length, ◌++◌, ◌∙◌, ap}
use Rattle.std.proofs.lemmas.List.{drop-replicate}
use Rattle.units.proofs.key.fill.Goals as goal

pub returns : goal.returns
returns c =
    let n = length c.args.bytes.now in
    ap (λ s. s ++ drop n c.args.row.now) c.copy_from_slice.ensures.after
    ∙ ap (λ r. c.args.bytes.now ++ r) (ap (drop n) c.requires.zeros ∙ drop-replicate n 64 0)
