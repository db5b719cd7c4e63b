use Rattle.std.proofs.Common.{◌∙◌, ◌-◌, ◌+◌, min, ap, map, drop}
use Rattle.units.specs.Lists.{least_with}
use Rattle.safetime.proofs.Least.{least_next}
use Rattle.safetime.proofs.safe_below.Goals as goal

pub loop-at-preserved : goal.loop-at-preserved
loop-at-preserved c =
    ap (λ s. least_with s (map (λ at. at - 1) (drop (c.loop-at.at-index + 1) c.args.holds.now)))
    (c.earlier-safe.ensures ∙ ap (min c.loop-at.safe) c.before-in-loop-at.ensures)
    ∙ least_next c.loop-at.safe c.at-item.result c.args.holds.now c.loop-at.at-index c.loop-at-test.true c.at-item.is
    ∙ c.loop-at.invariant
