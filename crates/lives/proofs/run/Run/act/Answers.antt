use Rattle.std.proofs.Common.{Some, None, refl, sym, ap, ◌∙◌, subst}
use Rattle.world.specs.World.{acts}
use Rattle.disk.specs.declared.plan.Fate.{Fate}
use Rattle.lives.specs.Fleet.{CrashesAt, IsOrderlyAt, crash_within, looked}
use Rattle.lives.specs.Runs.{ComesAfter}
use Rattle.lives.specs.declared.run.Run.{Run}
use Rattle.lives.proofs.Acts.{of_session}
use Rattle.lives.proofs.Replying.{acts_come, crash_comes, crash_in_comes, look_comes, looks, orderly_at}
use Rattle.lives.proofs.run.Run.act.Goals as goal

pub returns-in-Deliver : goal.returns-in-Deliver
unfolding acts
returns-in-Deliver c time w h steady may =
    subst (λ a. ComesAfter a c.deliver.new.self c.deliver.result) (sym (ap (acts w) c.in-Deliver.is)) (c.deliver.ensures w h steady)

pub returns-in-At : goal.returns-in-At
unfolding acts
returns-in-At c time w h steady may =
    subst (λ a. ComesAfter a c.act_at.new.self c.act_at.result) (sym (ap (acts w) c.in-At.is)) (c.act_at.ensures w h steady)

pub returns-in-Crash : goal.returns-in-Crash
unfolding acts
returns-in-Crash c time w h steady may =
    let old : Run = c.args.self.now in
    let new : Run = record { sessions = old.sessions; shards = c.crash.new.self; output = old.output; time = old.time } in
    let n = c.in-Crash.shard in
    let bag = c.as_slice-bag.ensures ∙ h.output.bag in
    subst (λ a. ComesAfter a new c.crash.result) (sym (ap (acts w) c.in-Crash.is))
    (crash_comes w old new h n c.crash.result
    (subst (λ b. CrashesAt w.config (crash_within w.config b n None Fate.Old) w.shards n new.shards c.crash.result) bag
    (c.crash.ensures w.config w.shards h.shards
    (λ call doing within. subst (λ b. IsOrderlyAt w.config b w.shards n doing) (sym bag) (orderly_at w old new h n doing steady)))) refl refl refl)

pub returns-in-CrashIn : goal.returns-in-CrashIn
unfolding acts
returns-in-CrashIn c time w h steady may =
    let old : Run = c.args.self.now in
    let new : Run = record { sessions = old.sessions; shards = c.crash-in-CrashIn.new.self; output = old.output; time = old.time } in
    let v = c.in-CrashIn in
    let bag = c.as_slice-bag-in-CrashIn.ensures ∙ h.output.bag in
    subst (λ a. ComesAfter a new c.crash-in-CrashIn.result) (sym (ap (acts w) v.is))
    (crash_in_comes w old new h v.shard v.call v.fate v.doing c.crash-in-CrashIn.result
    (subst (λ b. CrashesAt w.config (crash_within w.config b v.shard (Some (v.call, v.doing)) v.fate) w.shards v.shard new.shards c.crash-in-CrashIn.result) bag
    (c.crash-in-CrashIn.ensures w.config w.shards h.shards
    (λ call doing within. subst (λ b. IsOrderlyAt w.config b w.shards v.shard doing) (sym bag) (orderly_at w old new h v.shard doing steady)))) refl refl refl)

pub returns-in-FailIn : goal.returns-in-FailIn
unfolding acts
returns-in-FailIn c time w h steady may =
    subst (λ a. ComesAfter a c.act_at-in-FailIn.new.self c.act_at-in-FailIn.result) (sym (ap (acts w) c.in-FailIn.is)) (c.act_at-in-FailIn.ensures w h steady)

pub returns-in-Look : goal.returns-in-Look
unfolding acts
returns-in-Look c time w h steady may =
    let old : Run = c.args.self.now in
    let new : Run = record { sessions = old.sessions; shards = old.shards; output = c.look.new.output; time = old.time } in
    let v = c.in-Look in
    subst (λ a. ComesAfter a new c.look.result) (sym (ap (acts w) v.is ∙ looks w v.shard None v.key v.at))
    (look_comes w old new h v.key v.at (looked w.config w.shards v.shard None v.key v.at) c.look.result (c.look.ensures w h.shards h.output) refl refl refl)

pub returns-in-View : goal.returns-in-View
unfolding acts
returns-in-View c time w h steady may =
    let old : Run = c.args.self.now in
    let new : Run = record { sessions = old.sessions; shards = old.shards; output = c.look-in-View.new.output; time = old.time } in
    let v = c.in-View in
    subst (λ a. ComesAfter a new c.look-in-View.result) (sym (ap (acts w) v.is ∙ looks w v.shard (Some v.number) v.key v.at))
    (look_comes w old new h v.key v.at (looked w.config w.shards v.shard (Some v.number) v.key v.at) c.look-in-View.result
    (c.look-in-View.ensures w h.shards h.output) refl refl refl)

pub returns-in_default : goal.returns-in_default
returns-in_default c time w h steady may =
    let old : Run = c.args.self.now in
    let new : Run = record { sessions = c.act.new.self; shards = old.shards; output = c.act.new.output; time = old.time } in
    let d = c.in_default in
    acts_come w old new h (acts w c.args.act.now) c.act.result
    (c.act.ensures time w h.sessions h.output may
    (of_session c.args.act.now d.not-Deliver d.not-At d.not-Look d.not-View d.not-Crash d.not-CrashIn d.not-FailIn)) refl refl
