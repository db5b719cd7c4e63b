use Rattle.std.proofs.Common.{◌≡◌, ℕ, ◌+◌, ◌<◌, length, get_or, ap, ◌∙◌, arith}
use Rattle.versions.specs.Arranged.{arranged, no_install}
use Rattle.versions.proofs.Arranged.{arranged_at, length_arranged}
use Rattle.versions.proofs.Passed.{passed_by_next}
use Rattle.versions.proofs.forgetting.is_passed.Goals as goal

pub returns : goal.returns
returns c =
    let installs = c.args.installs.now in
    let places = c.args.places.now.places in
    let at = c.args.at in
    let this = c.index-installs-get.result in
    let next = c.index-installs-get-2.result in
    let lt : at + 1 < length places = omega (arith, c.if-at-len.false, c.len-len.ensures) in
    let this_is = c.index-installs-get.is ∙ ap (λ (p : ℕ). get_or installs p this) c.get.ensures in
    let next_is = c.index-installs-get-2.is ∙ ap (λ (p : ℕ). get_or installs p next) c.get-2.ensures in
    let here = arranged_at installs places at this no_install c.requires.within c.requires.at this_is in
    let behind = arranged_at installs places (at + 1) next no_install c.requires.within lt next_is in
    c.passes.ensures
    ∙ passed_by_next c.args.horizon (arranged installs places) at this next (omega (arith, length_arranged installs places, lt)) here behind
