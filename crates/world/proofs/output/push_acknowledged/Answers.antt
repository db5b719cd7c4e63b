use Rattle.std.proofs.Common.{◌≡◌, ◌++◌, append-nil, ap, sym, ◌∙◌}
use Rattle.world.specs.Told.{ack_in}
use Rattle.world.proofs.Adding.{added}
use Rattle.world.proofs.output.push_acknowledged.Goals.{in-Some+in_ok-push, in_default}
use Rattle.world.proofs.output.push_acknowledged.Goals as goal

pub loop-envelope-preserved : goal.loop-envelope-preserved
loop-envelope-preserved c =
    let before = c.loop-envelope.lines.items in
    let one = ack_in c.args.told.now.keys c.args.event c.envelope-item.result in
    let more : c.match-acknowledged.lines.items ≡ before ++ one = elim c.match-acknowledged.branch [
      | in-Some+in_ok-push w ↦ ap (λ lines. lines.items) w.lines-is ∙ w.in_ok-push.ensures.items ∙ ap (λ l. before ++ l) w.in-Some.ensures
      | in_default w ↦ ap (λ lines. lines.items) w.lines-is ∙ sym (append-nil before) ∙ ap (λ l. before ++ l) w.in_default.ensures
    ] in
    added (ack_in c.args.told.now.keys c.args.event) c.args.out.now c.loop-envelope.envelope-index c.envelope-item.result c.args.lines.now.items
    before c.match-acknowledged.lines.items c.loop-envelope-test.true c.envelope-item.is c.loop-envelope.invariant more
