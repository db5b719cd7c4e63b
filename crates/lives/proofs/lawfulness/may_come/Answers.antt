use Rattle.std.proofs.Common.{sym, ap, ◌∙◌}
use Rattle.world.specs.Lawful.{may_act}
use Rattle.lives.proofs.Acts.{has_shard}
use Rattle.lives.proofs.lawfulness.may_come.Goals as goal

pub returns-in-Read : goal.returns-in-Read
unfolding may_act
returns-in-Read c w hosts bag none = c.has-in-Read.ensures w.config.splits w.clients hosts ∙ sym (ap (may_act w c.args.time) c.in-Read.is)

pub returns-in-Write : goal.returns-in-Write
unfolding may_act
returns-in-Write c w hosts bag none = c.has-in-Write.ensures w.config.splits w.clients hosts ∙ sym (ap (may_act w c.args.time) c.in-Write.is)

pub returns-in_default : goal.returns-in_default
returns-in_default c w hosts bag none =
    let d = c.in_default in
    absurd (has_shard c.args.act.now none d.not-Begin d.not-Read d.not-Write d.not-Close d.not-Quit d.not-Deliver)
