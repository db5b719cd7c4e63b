use Rattle.std.proofs.Common.{refl, sym, ap, ◌∙◌, subst, slice_get}
use Rattle.std.specs.Option.{option_copied}
use Rattle.lives.specs.Runs.{ComesAfter}
use Rattle.lives.specs.declared.run.Run.{Run}
use Rattle.lives.proofs.Replying.{for_session, for_shard, message_comes, nobody_comes}
use Rattle.lives.proofs.run.Run.deliver.Goals as goal

pub returns-in_default : goal.returns-in_default
returns-in_default c w h steady =
    nobody_comes w c.args.self.now c.args.self.now h c.args.number c.args.now (slice_get w.bag c.args.number)
    (ap (λ b. slice_get b c.args.number) (sym h.output.bag) ∙ sym c.nth.ensures ∙ ap option_copied c.in_default.is)

pub returns-in-Shard : goal.returns-in-Shard
returns-in-Shard c w h steady =
    subst (λ a. ComesAfter a c.act_at.new.self c.act_at.result)
    (sym (for_shard w c.args.number c.in-Shard.shard c.args.now c.in-Some.envelope.now
    (ap (λ b. slice_get b c.args.number) (sym h.output.bag) ∙ sym c.nth.ensures ∙ ap option_copied c.in-Some.is) c.in-Shard.is))
    (c.act_at.ensures w h steady)

pub returns-in-Session : goal.returns-in-Session
returns-in-Session c w h steady =
    let old : Run = c.args.self.now in
    let new : Run = record { sessions = c.take_message-heard.new.self; shards = old.shards; output = c.reply_line.new.self; time = old.time } in
    subst (λ a. ComesAfter a new c.reply_line.result)
    (sym (for_session w c.args.number c.in-Session.field-0 c.args.now c.in-Some.envelope.now
    (ap (λ b. slice_get b c.args.number) (sym h.output.bag) ∙ sym c.nth.ensures ∙ ap option_copied c.in-Some.is) c.in-Session.is))
    (message_comes w old new h c.in-Some.envelope.now.message c.take_message-heard.result c.reply_line.result
    (c.take_message-heard.ensures w h.sessions) c.reply_line.ensures refl refl)
