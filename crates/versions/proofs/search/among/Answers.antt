use Rattle.std.proofs.Common.{◌∙◌, ℕ, ◌-◌, ◌<◌, get_or, length, sym, ap, arith}
use Rattle.std.proofs.lemmas.List.{get_or_default}
use Rattle.versions.specs.Arranged.{arranged, no_install}
use Rattle.versions.specs.Ordered.{is_not_after}
use Rattle.versions.proofs.Arranged.{arranged_at, length_arranged}
use Rattle.versions.proofs.Halves.{count_at, before_passes}
use Rattle.versions.proofs.Heads.{greater_from}
use Rattle.versions.proofs.search.among.Goals as goal

pub returns-then-is_not_after-clause-before : goal.returns-then-is_not_after-clause-before
returns-then-is_not_after-clause-before c =
    let installs = c.args.installs.now in
    let places = c.args.places.now.places in
    let t = arranged installs places in
    let last = c.first_above-end.result - 1 in
    let there : last < length places = omega (arith, c.first_above-end.ensures.within, c.if-end-gt0.true) in
    let one = c.index-installs-get.result in
    let is = arranged_at installs places last one no_install c.requires.within there
    (c.index-installs-get.is ∙ ap (λ (p : ℕ). get_or installs p one) c.get.ensures) in
    λ k d lt. before_passes c.args.key.now c.args.at t last c.requires.order (omega (arith, there, length_arranged installs places)) (λ d.
    ap (is_not_after c.args.key.now c.args.at) (get_or_default t last d no_install (omega (arith, there, length_arranged installs places)) ∙ is)
    ∙ sym c.is_not_after.ensures.value ∙ c.if-is_not_after.true) k d (omega (arith, lt, c.if-end-gt0.true))

pub returns-then-is_not_after-clause-after : goal.returns-then-is_not_after-clause-after
returns-then-is_not_after-clause-after c =
    let places = c.args.places.now.places in
    let t = arranged c.args.installs.now places in
    let long = length_arranged c.args.installs.now places in
    greater_from c.args.places.now.prefix t c.args.places.now.heads c.args.key.now c.first_above-end.result c.args.at
    c.requires.heads c.requires.order c.requires.bytes
    (λ more. omega (arith, c.first_above-end.ensures.above (omega (arith, more, long)), c.requires.head))

pub returns-then-is_not_after-clause-count : goal.returns-then-is_not_after-clause-count
returns-then-is_not_after-clause-count c =
    let t = arranged c.args.installs.now c.args.places.now.places in
    let long = length_arranged c.args.installs.now c.args.places.now.places in
    count_at c.args.key.now c.args.at t c.first_above-end.result (omega (arith, long, c.first_above-end.ensures.within))
    (returns-then-is_not_after-clause-before c) (returns-then-is_not_after-clause-after c)

pub before-requires-clause-behind : goal.before-requires-clause-behind
before-requires-clause-behind c =
    let places = c.args.places.now.places in
    let t = arranged c.args.installs.now places in
    let long = length_arranged c.args.installs.now places in
    greater_from c.args.places.now.prefix t c.args.places.now.heads c.args.key.now c.first_above-end.result c.args.at
    c.requires.heads c.requires.order c.requires.bytes
    (λ more. omega (arith, c.first_above-end.ensures.above (omega (arith, more, long)), c.requires.head))
