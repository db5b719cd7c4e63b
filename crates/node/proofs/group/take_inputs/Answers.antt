use Rattle.std.proofs.Common.{◌≤◌, ◌∷◌, [], length, length-append, ap, sym, subst, arith}
use Rattle.shard.specs.Gathered.{seen_ahead}
use Rattle.node.proofs.Grouped.{next_input}
use Rattle.node.proofs.group.take_inputs.Goals as goal

pub loop-input-preserved : goal.loop-input-preserved
loop-input-preserved g c = (
  omega (arith, ap length c.push_reserved.ensures.items, length-append c.loop-input.refusals.items (c.take_one.result ∷ []), c.loop-input.invariant.0),
  subst (λ room. length c.args.inputs.now ≤ room) (sym c.push_reserved.ensures.capacity) c.loop-input.invariant.1,
  λ from h. next_input g.D.Disk.file g.D.Disk.clock g.D.Disk.since g.D.Disk.failures from (seen_ahead c.loop-input.ahead)
      (seen_ahead c.take_one.new.ahead) c.args.now.now c.args.inputs.now c.loop-input.input-index c.input-item.result
      c.loop-input.refusals.items c.push_reserved.new.self.items c.take_one.result c.loop-input-test.true c.input-item.is
      c.loop-input.invariant.0 c.push_reserved.ensures.items (c.take_one.ensures.ahead from) c.take_one.ensures.cause
      (c.loop-input.invariant.2 from h),
)
