use Rattle.std.proofs.Common.{◌∙◌, ap, flat_map, ◌+◌, ◌-◌}
use Rattle.units.specs.Lists.{numbered}
use Rattle.inspector.specs.Entries.{logs_from}
use Rattle.inspector.specs.Tallies.{after, decisions_here, fits_all}
use Rattle.inspector.proofs.Numbers.{tally_number}
use Rattle.inspector.proofs.whole.tally_of.Goals as goal

pub loop-number-preserved : goal.loop-number-preserved
loop-number-preserved c =
    let es = c.args.entries.now in
    let n = c.loop-number.number in
    let fits = fits_all (logs_from c.args.count 0 es) c.args.txn in
    ap (λ tally. after fits tally (flat_map (λ q. decisions_here c.args.txn q.0 q.1) (numbered (n + 1) (logs_from (c.args.count - (n + 1)) (n + 1) es))))
    c.in_ok-tally.ensures.after
    ∙ tally_number fits c.loop-number.tally c.args.txn c.args.count n es c.loop-number-test.true
    ∙ c.loop-number.invariant
