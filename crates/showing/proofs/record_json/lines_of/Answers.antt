use Rattle.std.proofs.Common.{string_bytes}
use Rattle.showing.proofs.JsonLines.{entry_more}
use Rattle.showing.proofs.record_json.lines_of.Goals as goal

pub loop-entry-preserved : goal.loop-entry-preserved
loop-entry-preserved c =
    let line = c.in_ok-push_entry.ensures.line in
    entry_more c.args.entries.now c.loop-entry.entry-index c.entry-item.result line.0 (string_bytes c.loop-entry.text) (string_bytes c.push_entry.new.text)
    c.loop-entry-test.true c.entry-item.is c.loop-entry.invariant line.1
