use Rattle.std.proofs.Math.Logic.{∥∥₁_elim}
use Rattle.ledger.proofs.Props.{lasting-prop}
use Rattle.shard.proofs.shard_core.Core.is_sound.Goals as goal

pub returns-clause-lasting : goal.returns-clause-lasting
returns-clause-lasting g c =
    let m = c.args.self.now.machine in ∥∥₁_elim m.lasting (lasting-prop m.state.facts) (λ l. l)
