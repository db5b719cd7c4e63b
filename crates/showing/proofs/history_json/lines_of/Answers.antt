use Rattle.std.proofs.Common.{string_bytes}
use Rattle.showing.proofs.JsonLines.{write_more}
use Rattle.showing.proofs.history_json.lines_of.Goals as goal

pub loop-write-preserved : goal.loop-write-preserved
loop-write-preserved c =
    let line = c.in_ok-push_line.ensures.line in
    write_more c.args.told.now c.loop-write.write-index c.write-item.result line.0 (string_bytes c.loop-write.text) (string_bytes c.push_line.new.text)
    c.loop-write-test.true c.write-item.is c.loop-write.invariant line.1
