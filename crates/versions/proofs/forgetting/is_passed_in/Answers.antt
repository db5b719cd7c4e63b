use Rattle.std.proofs.Common.{◌≡◌, ◌+◌, ◌<◌, length, get_or, ◌∙◌, arith}
use Rattle.versions.specs.Arranged.{arranged, no_install}
use Rattle.versions.proofs.Arranged.{arranged_at, length_arranged}
use Rattle.versions.proofs.Passed.{passed_by_next}
use Rattle.versions.proofs.forgetting.is_passed_in.Goals as goal

pub returns : goal.returns
returns c =
    let installs = c.args.installs.now in
    let places = c.args.order.now in
    let at = c.args.at in
    let this = c.index-installs-order.result in
    let next = c.index-installs-order-2.result in
    let lt : at + 1 < length places = omega (arith, c.if-at-order.false) in
    let here = arranged_at installs places at this no_install c.requires.within c.requires.at c.index-installs-order.is in
    let behind = arranged_at installs places (at + 1) next no_install c.requires.within lt c.index-installs-order-2.is in
    c.passes.ensures
    ∙ passed_by_next c.args.horizon (arranged installs places) at this next (omega (arith, length_arranged installs places, lt)) here behind
