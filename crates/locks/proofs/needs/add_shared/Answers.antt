use Rattle.units.specs.Keys.{Bytes}
use Rattle.units.specs.declared.lock.Lock.{Lock}
use Rattle.units.specs.declared.lock.Mode.TheVariants.{Shared}
use Rattle.locks.proofs.Passes.{pushed}
use Rattle.locks.proofs.needs.add_shared.Goals as goal

pub loop-key-preserved : goal.loop-key-preserved
loop-key-preserved c =
    pushed {B = Lock} (λ (k : Bytes). record { key = k; mode = Shared }) c.as_slice-key-items.result.now c.loop-key.key-index c.key-item.result
    c.args.locks.now.items c.loop-key.locks.items c.push.new.self.items c.loop-key-test.true c.key-item.is c.loop-key.invariant c.in-Ok.ensures.items
