use Rattle.std.proofs.Common.{◌∙◌, nat_cmp, refl}
use Rattle.std.specs.Cmp.Lexicographic.{slice_cmp}
use Rattle.units.proofs.KeyOrder.{before_by, same_by, before_then}
use Rattle.units.proofs.writes.Install.is_before.Goals as goal

pub returns : goal.returns
returns c =
    let one = c.args.self.now in
    let next = c.args.next.now in
    let order = slice_cmp nat_cmp one.key next.key in
    c.lt.ensures ∙ before_then order _ _ one.at next.at (before_by one.key next.key order refl) (same_by one.key next.key order refl)
