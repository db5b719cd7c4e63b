use Rattle.std.proofs.Common.{◌∙◌, ◌<◌, ap, arith, length}
use Rattle.std.proofs.lemmas.Bool.Decides.{nat_tests}
use Rattle.inspector.specs.Versions.{PlacedWrite}
use Rattle.inspector.proofs.VersionLaws.{last_at}
use Rattle.inspector.proofs.versions.last_of.Goals as goal

pub returns : goal.returns
returns c =
    let some : 0 < length c.args.versions.now = grind (arith, nat_tests, c.if-is_empty.false, c.is_empty.ensures) in
    c.as_ref.ensures.value
    ∙ ap (λ (v : PlacedWrite). v.write.value) (c.last.view_is ∙ c.index-versions-versions.is)
    ∙ last_at c.args.versions.now c.index-versions-versions.result some
