use Rattle.std.proofs.Common.{◌∙◌, sym}
use Rattle.record.specs.Whole.{Decision, fits_decision}
use Rattle.inspector.specs.Entries.{log_numbered}
use Rattle.inspector.proofs.FitsByRecord.{log_by_records}
use Rattle.inspector.proofs.Numbers.{all_numbered_step, all_numbered_stop}
use Rattle.inspector.proofs.whole.each_fits.Goals as goal

pub returns-then-not-log_fits : goal.returns-then-not-log_fits
returns-then-not-log_fits c =
    let es = c.args.entries.now in
    let n = c.loop-number.number in
    let d : Decision = record { shard = c.args.shard; commit = c.args.commit.now } in
    all_numbered_stop (fits_decision c.args.txn d) c.args.count n es c.loop-number-test.true
    (log_by_records c.args.txn d n (log_numbered n es) ∙ sym c.log_fits.ensures ∙ c.if-not-log_fits.true)
    ∙ c.loop-number.invariant

pub loop-number-preserved : goal.loop-number-preserved
loop-number-preserved c =
    let es = c.args.entries.now in
    let n = c.loop-number.number in
    let d : Decision = record { shard = c.args.shard; commit = c.args.commit.now } in
    all_numbered_step (fits_decision c.args.txn d) c.args.count n es c.loop-number-test.true
    (log_by_records c.args.txn d n (log_numbered n es) ∙ sym c.log_fits.ensures ∙ c.if-not-log_fits.false)
    ∙ c.loop-number.invariant
