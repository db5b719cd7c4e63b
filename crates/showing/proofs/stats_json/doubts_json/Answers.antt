use Rattle.std.proofs.Common.{[], refl, rules, string_bytes}
use Rattle.showing.proofs.JsonLines.{doubt_more}
use Rattle.showing.proofs.stats_json.doubts_json.Goals as goal

pub loop-doubt-init : goal.loop-doubt-init
loop-doubt-init c = (record { rows = []; told = refl; whole = c.new-text.ensures.bytes }, refl)

pub loop-doubt-preserved : goal.loop-doubt-preserved
loop-doubt-preserved c =
    let so_far = c.loop-doubt.invariant in
    let one = c.in_ok-push_doubt.ensures.doubt in
    doubt_more c.args.doubts.now c.loop-doubt.doubt-index c.doubt-item.result one.0 c.loop-doubt.mark.now (string_bytes c.loop-doubt.text)
    (string_bytes c.push_str.new.self) (string_bytes c.push_doubt.new.text) c.loop-doubt-test.true c.doubt-item.is so_far.0 so_far.1 (search rules) one.1
