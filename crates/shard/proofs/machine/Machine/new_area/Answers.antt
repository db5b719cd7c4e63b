use Rattle.std.proofs.Math.Logic.{∥∥₁_elim}
use Rattle.ledger.proofs.Props.{regular-prop}
use Rattle.shard.proofs.machine.Machine.new_area.Goals as goal

pub renew-requires : goal.renew-requires
renew-requires g c =
    let m = c.args.self.now in
    record { regular = ∥∥₁_elim m.lasting (regular-prop m.state.facts) (λ l. l.regular) }
