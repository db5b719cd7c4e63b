use Rattle.std.proofs.Common.{refl}
use Rattle.std.proofs.Math.Logic.{∥∥₁_map}
use Rattle.shard.proofs.Booked.{still-of}
use Rattle.shard.proofs.shard_core.Core.turn_over.Goals as goal

pub invariant_of-self : goal.invariant_of-self
invariant_of-self g c =
    let h = c.turn_over.ensures.turned in
    record { replays = ∥∥₁_map c.args.self.now.replays (λ r. still-of _ _ _ _ _ _ _ _ h.setup refl h.facts h.memory r) }
