use Rattle.std.proofs.Common.{◌∙◌}
use Rattle.std.proofs.Math.Logic.{∥∥₁_elim}
use Rattle.std.proofs.Props.{props}
use Rattle.shard.proofs.Groups.{looks_stay}
use Rattle.shard.proofs.halted.Halted.value_at.Goals as goal

pub returns : goal.returns
returns g c =
    let h = c.args.self.now in
    c.value_at.ensures
    ∙ looks_stay h.served c.args.at h.versions h.state.facts.installs c.args.key.now c.requires.served (∥∥₁_elim h.since (hlevel props) (λ s. s.above))
