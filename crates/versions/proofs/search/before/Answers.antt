use Rattle.std.proofs.Common.{◌∙◌, ℕ, ◌+◌, ◌-◌, ◌/◌, ◌<◌, ◌≤◌, get_or, length, sym, ap, arith}
use Rattle.std.proofs.lemmas.List.{get_or_default}
use Rattle.versions.specs.Arranged.{arranged, no_install}
use Rattle.versions.specs.Ordered.{is_not_after}
use Rattle.versions.proofs.Arranged.{arranged_at, length_arranged}
use Rattle.versions.proofs.Halves.{count_at, up_to_after, before_passes, after_passes}
use Rattle.versions.proofs.Heads.{smaller_up_to}
use Rattle.versions.proofs.search.before.Goals as goal

pub loop-low-init : goal.loop-low-init
loop-low-init c =
    let places = c.args.places.now.places in
    let heads = c.args.places.now.heads in
    let prefix = c.args.places.now.prefix in
    let key = c.args.key.now in
    let t = arranged c.args.installs.now places in
    let long = length_arranged c.args.installs.now places in
    let low = c.first_at-low.ensures in
    let le : c.first_at-low.result ≤ length t = omega (arith, low.within, long) in
    let before = smaller_up_to prefix t heads key c.first_at-low.result c.args.at c.requires.heads c.requires.order
    le c.requires.bytes (λ some. omega (arith, low.below some, c.requires.head)) in
    record {
      within = up_to_after key c.args.at t c.first_at-low.result c.args.end le before c.requires.behind;
      end = c.requires.end;
      before = before;
      after = c.requires.behind;
    }

pub loop-low-preserved-then-is_not_after : goal.loop-low-preserved-then-is_not_after
loop-low-preserved-then-is_not_after c =
    let i = c.loop-low.invariant in
    let installs = c.args.installs.now in
    let places = c.args.places.now.places in
    let t = arranged installs places in
    let middle = c.loop-low.low + (c.loop-low.high - c.loop-low.low) / 2 in
    let within : middle < c.loop-low.high = omega arith in
    let there : middle < length places = omega (arith, within, i.end) in
    let one = c.index-installs-get.result in
    let is = arranged_at installs places middle one no_install c.requires.within there
    (c.index-installs-get.is ∙ ap (λ (p : ℕ). get_or installs p one) c.get.ensures) in
    record {
      within = omega arith;
      end = i.end;
      before = before_passes c.args.key.now c.args.at t middle c.requires.order (omega (arith, there, length_arranged installs places)) (λ d.
          ap (is_not_after c.args.key.now c.args.at) (get_or_default t middle d no_install (omega (arith, there, length_arranged installs places)) ∙ is)
          ∙ sym c.is_not_after.ensures.value ∙ c.if-is_not_after.true);
      after = i.after;
    }

pub loop-low-preserved : goal.loop-low-preserved
loop-low-preserved c =
    let i = c.loop-low.invariant in
    let installs = c.args.installs.now in
    let places = c.args.places.now.places in
    let t = arranged installs places in
    let middle = c.loop-low.low + (c.loop-low.high - c.loop-low.low) / 2 in
    let within : middle < c.loop-low.high = omega arith in
    let there : middle < length places = omega (arith, within, i.end) in
    let one = c.index-installs-get.result in
    let is = arranged_at installs places middle one no_install c.requires.within there
    (c.index-installs-get.is ∙ ap (λ (p : ℕ). get_or installs p one) c.get.ensures) in
    record {
      within = omega arith;
      end = omega (arith, i.end);
      before = i.before;
      after = after_passes c.args.key.now c.args.at t middle c.requires.order (omega (arith, there, length_arranged installs places)) (λ d.
          ap (is_not_after c.args.key.now c.args.at) (get_or_default t middle d no_install (omega (arith, there, length_arranged installs places)) ∙ is)
          ∙ sym c.is_not_after.ensures.value ∙ c.if-is_not_after.false);
    }

pub returns-clause-count : goal.returns-clause-count
returns-clause-count c =
    let i = c.loop-low.invariant in
    count_at c.args.key.now c.args.at (arranged c.args.installs.now c.args.places.now.places) c.loop-low.low
    (omega (arith, i.within, i.end, length_arranged c.args.installs.now c.args.places.now.places)) i.before (λ k d le lt. i.after k d (omega arith) lt)
