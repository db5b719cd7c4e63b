use Rattle.std.proofs.Common.{◌∙◌, ◌-◌, sym, ap, arith}
use Rattle.std.proofs.lemmas.List.{get_or_default}
use Rattle.versions.specs.Arranged.{arranged, no_install}
use Rattle.versions.specs.Ordered.{is_not_after}
use Rattle.versions.proofs.Arranged.{length_arranged}
use Rattle.versions.proofs.Halves.{count_at, before_passes}
use Rattle.versions.proofs.search.count.Goals as goal

pub returns-then-is_not_after_at-clause-before : goal.returns-then-is_not_after_at-clause-before
returns-then-is_not_after_at-clause-before c =
    let t = arranged c.args.installs.now c.args.places.now.places in
    let long = length_arranged c.args.installs.now c.args.places.now.places in
    let last = c.len-len.result - 1 in
    λ k d lt. before_passes c.args.key.now c.args.at t last c.requires.order (omega (arith, long, c.len-len.ensures, c.if-len-gt0.true))
    (λ d.
    ap (is_not_after c.args.key.now c.args.at)
    (get_or_default t last d no_install (omega (arith, long, c.len-len.ensures, c.if-len-gt0.true)))
    ∙ sym c.is_not_after_at.ensures.value ∙ c.if-is_not_after_at.true) k d (omega (arith, lt, c.if-len-gt0.true))

pub returns-then-is_not_after_at-clause-count : goal.returns-then-is_not_after_at-clause-count
returns-then-is_not_after_at-clause-count c =
    let t = arranged c.args.installs.now c.args.places.now.places in
    let long = length_arranged c.args.installs.now c.args.places.now.places in
    count_at c.args.key.now c.args.at t c.len-len.result (omega (arith, long, c.len-len.ensures)) (returns-then-is_not_after_at-clause-before c)
    (λ k d le lt. absurd (omega (arith, le, lt, long, c.len-len.ensures)))
