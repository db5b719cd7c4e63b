use Rattle.std.proofs.Common.{subst, sym}
use Rattle.std.specs.Prelude.{string_bytes}
use Rattle.drive.specs.Told.{IsUndriven, IsUnjudged}
use Rattle.drive.proofs.Outcomes.{counted_in, unjudged_in}
use Rattle.drive.proofs.shards.drive_over.Goals as goal

pub returns-in_ok-text_of-in-Ok-clause-told : goal.returns-in_ok-text_of-in-Ok-clause-told
returns-in_ok-text_of-in-Ok-clause-told g c =
    record {
      counts = c.in-Ok.driven.summary.counts;
      lines = c.in-Ok.driven.lines.items;
      summary = c.in_ok-text_of-in-Ok.ensures.text;
      tally = c.in-Ok.ensures.told;
    }

pub returns-in_ok-text_of-in-Ok-clause-judged : goal.returns-in_ok-text_of-in-Ok-clause-judged
returns-in_ok-text_of-in-Ok-clause-judged g c =
    let driven = c.in-Ok.driven in
    record {
      counts = driven.summary.counts;
      lines = driven.lines.items;
      disks = driven.disks.items;
      summary = c.in_ok-text_of-in-Ok.ensures.text;
      tally = c.in-Ok.ensures.told;
      count = c.in-Ok.ensures.disks;
      judged = c.in-Ok.ensures.verdict;
    }

pub returns-in-Err-clause-counted : goal.returns-in-Err-clause-counted
returns-in-Err-clause-counted g c =
    counted_in string_bytes _ c.in-Err.none.counts c.told_without.result.text c.in-Err.ensures.counted c.told_without.ensures.text

pub returns-in-Err-clause-unjudged : goal.returns-in-Err-clause-unjudged
returns-in-Err-clause-unjudged g c =
    unjudged_in string_bytes IsUnjudged c.in-Err.none.counts c.told_without.result.text c.in-Err.none.fault c.told_without.result.fault
    c.in-Err.ensures.unjudged c.told_without.ensures.text c.told_without.ensures.fault

pub returns-in-Err-clause-undriven : goal.returns-in-Err-clause-undriven
returns-in-Err-clause-undriven g c = subst IsUndriven (sym c.told_without.ensures.fault) c.in-Err.ensures.undriven
