use Rattle.std.proofs.Common.{◌<◌, ◌∙◌, ◌++◌, ◌∷◌, [], ap, length, arith, rules}
use Rattle.playing.proofs.Playings.{next_played, none_next, none_played}
use Rattle.playing.proofs.plays.play_all.Goals as goal

pub loop-number-init : goal.loop-number-init
loop-number-init c config h = none_played config c.args.run.now c.args.replies.now.items c.args.counts.now.items h c.requires.none

pub returns-in_err-reply : goal.returns-in_err-reply
returns-in_err-reply c config h =
    let n = c.loop-number.number in
    let within : n < length c.args.events.now = omega (arith, c.loop-number-test.true) in
    none_next config c.args.events.now n c.index-events-number.result within c.index-events-number.is c.loop-number.run c.take.new.self
    c.loop-number.replies.items c.loop-number.counts.items
    (c.loop-number.invariant config h) c.in_err-reply.field-0.0 c.from_residual-in_err-reply.result
    c.reserve.new.self.items c.reserve-in-loop-number.new.self.items
    (search rules) c.in_err-reply.ensures

pub loop-number-preserved : goal.loop-number-preserved
loop-number-preserved c config h =
    let n = c.loop-number.number in
    let within : n < length c.args.events.now = omega (arith, c.loop-number-test.true) in
    next_played config c.args.events.now n c.index-events-number.result within c.index-events-number.is c.loop-number.run c.take.new.self
    c.loop-number.replies.items c.loop-number.counts.items
    (c.loop-number.invariant config h) c.in_ok-reply.reply
    (length c.as_slice.result.now) c.push_reserved.new.self.items c.push_reserved-in-loop-number.new.self.items
    (c.push_reserved.ensures.items ∙ ap (λ rs. rs ++ c.in_ok-reply.reply ∷ []) c.in_ok-reserve.ensures.items)
    (c.push_reserved-in-loop-number.ensures.items ∙ ap (λ ns. ns ++ length c.as_slice.result.now ∷ []) c.in_ok-reserve-2.ensures.items)
    (ap length c.as_slice.ensures) c.in_ok-reply.ensures
