use Rattle.std.proofs.lemmas.List.{get_or_default}
use Rattle.versions.specs.Arranged.{no_install}
use Rattle.std.proofs.Common.{◌∙◌, ◌+◌, ◌-◌, ◌/◌, ◌<◌, sym, ap, arith}
use Rattle.versions.specs.Arranged.{arranged}
use Rattle.versions.specs.Ordered.{is_not_after}
use Rattle.versions.proofs.Arranged.{length_arranged}
use Rattle.versions.proofs.Halves.{count_at, before_passes, after_passes, half_fits, half_needs, none_left}
use Rattle.versions.proofs.search.find.Goals as goal

pub overflow_add-probes : goal.overflow_add-probes
overflow_add-probes c = omega (arith, (c.loop-low.invariant.fits 64 c.loop-low.invariant.all).1)

pub loop-low-preserved-then-is_not_after_at : goal.loop-low-preserved-then-is_not_after_at
loop-low-preserved-then-is_not_after_at c =
    let i = c.loop-low.invariant in
    let t = arranged c.args.installs.now c.args.places.now.places in
    let middle = c.loop-low.low + (c.loop-low.high - c.loop-low.low) / 2 in
    let within : middle < c.loop-low.high = omega arith in
    record {
      within = omega arith;
      end = i.end;
      before = before_passes c.args.key.now c.args.at t middle c.requires.order
          (omega (arith, i.end, length_arranged c.args.installs.now c.args.places.now.places)) (λ d.
          ap (is_not_after c.args.key.now c.args.at)
          (get_or_default t middle d no_install (omega (arith, i.end, length_arranged c.args.installs.now c.args.places.now.places)))
          ∙ sym c.is_not_after_at.ensures.value ∙ c.if-is_not_after_at.true);
      after = i.after;
      all = i.all;
      fits = half_fits _ (c.loop-low.high - c.loop-low.low) c.loop-low.probes _ i.fits (omega arith) (omega arith);
      needed = half_needs _ (c.loop-low.high - c.loop-low.low) c.loop-low.probes _ i.needed (omega arith);
      counted = omega (arith, i.counted, c.is_not_after_at.ensures.counted);
    }

pub loop-low-preserved : goal.loop-low-preserved
loop-low-preserved c =
    let i = c.loop-low.invariant in
    let t = arranged c.args.installs.now c.args.places.now.places in
    let middle = c.loop-low.low + (c.loop-low.high - c.loop-low.low) / 2 in
    let within : middle < c.loop-low.high = omega arith in
    record {
      within = omega arith;
      end = omega (arith, i.end);
      before = i.before;
      after = after_passes c.args.key.now c.args.at t middle c.requires.order
          (omega (arith, i.end, length_arranged c.args.installs.now c.args.places.now.places)) (λ d.
          ap (is_not_after c.args.key.now c.args.at)
          (get_or_default t middle d no_install (omega (arith, i.end, length_arranged c.args.installs.now c.args.places.now.places)))
          ∙ sym c.is_not_after_at.ensures.value ∙ c.if-is_not_after_at.false);
      all = i.all;
      fits = half_fits _ (c.loop-low.high - c.loop-low.low) c.loop-low.probes _ i.fits (omega arith) (omega arith);
      needed = half_needs _ (c.loop-low.high - c.loop-low.low) c.loop-low.probes _ i.needed (omega arith);
      counted = omega (arith, i.counted, c.is_not_after_at.ensures.counted);
    }

pub returns-clause-count : goal.returns-clause-count
returns-clause-count c =
    let i = c.loop-low.invariant in
    count_at c.args.key.now c.args.at (arranged c.args.installs.now c.args.places.now.places) c.loop-low.low
    (omega (arith, i.within, i.end, length_arranged c.args.installs.now c.args.places.now.places)) i.before (λ k d le lt. i.after k d (omega arith) lt)

pub returns-clause-before : goal.returns-clause-before
returns-clause-before c = c.loop-low.invariant.before

pub returns-clause-after : goal.returns-clause-after
returns-clause-after c = λ k d le lt. c.loop-low.invariant.after k d (omega (arith, c.loop-low.invariant.within)) lt

pub returns-clause-fewest : goal.returns-clause-fewest
returns-clause-fewest c = λ digits le.
    let i = c.loop-low.invariant in
    let now = i.needed digits le in
    none_left now.0 c.loop-low.probes digits now.1 (omega (arith, now.2, c.loop-low-test.false))
