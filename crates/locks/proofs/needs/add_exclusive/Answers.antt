use Rattle.units.specs.declared.lock.Lock.{Lock}
use Rattle.units.specs.declared.lock.Mode.TheVariants.{Exclusive}
use Rattle.units.specs.declared.writes.Write.{Write}
use Rattle.locks.proofs.Passes.{pushed}
use Rattle.locks.proofs.needs.add_exclusive.Goals as goal

pub loop-write-preserved : goal.loop-write-preserved
loop-write-preserved c =
    pushed {B = Lock} (λ (w : Write). record { key = w.key; mode = Exclusive }) c.as_slice-write-items.result.now c.loop-write.write-index
    c.write-item.result c.args.locks.now.items c.loop-write.locks.items c.push.new.self.items c.loop-write-test.true c.write-item.is
    c.loop-write.invariant c.in-Ok.ensures.items
