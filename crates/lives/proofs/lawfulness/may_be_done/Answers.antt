use Rattle.std.proofs.Common.{◌≡◌, Some, sym, ap, ◌∙◌}
use Rattle.world.specs.Lawful.{may_act}
use Rattle.lives.specs.Fleet.{act_shard, known_of}
use Rattle.lives.proofs.Acts.{has_no_shard}
use Rattle.lives.proofs.Fleets.{has_view}
use Rattle.lives.proofs.lawfulness.may_be_done.Goals as goal

pub returns-in-View : goal.returns-in-View
unfolding may_act
returns-in-View c w n of known bag =
    let v = c.in-View in
    let there : Some v.field-0 ≡ Some n = sym (ap act_shard v.is) ∙ of in
    let same : n ≡ v.field-0 = cc in
    has_view w.shards v.field-0 v.number c.args.known (known ∙ ap (known_of w.shards) same) ∙ sym (ap (may_act w c.args.time) v.is)

pub returns-in_default : goal.returns-in_default
returns-in_default c w n of known bag =
    let d = c.in_default in
    absurd (has_no_shard c.args.act.now n of d.not-At d.not-Look d.not-View d.not-Crash d.not-CrashIn d.not-FailIn)
