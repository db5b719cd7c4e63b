use Rattle.std.proofs.Common.{◌≡◌, ◌++◌, ◌∷◌, [], suc, length, replicate, ap, ◌∙◌, subst, arith}
use Rattle.world.specs.World.{fresh_shard}
use Rattle.lives.specs.Fleet.{AreStanding}
use Rattle.lives.proofs.Fleets.{one_more_fresh}
use Rattle.lives.proofs.fleet.fill.Goals as goal

pub loop-number-preserved : goal.loop-number-preserved
loop-number-preserved c =
    one_more_fresh c.args.config.now c.loop-number.number c.loop-number.shards.items c.push_reserved.new.self.items c.in-Ok.shard
    c.loop-number.invariant c.in-Ok.ensures.fresh
    (c.push_reserved.ensures.items ∙ ap (λ rs. rs ++ c.in-Ok.shard ∷ []) c.in_ok-reserve.ensures.items)

pub returns-clause-filled : goal.returns-clause-filled
returns-clause-filled c =
    let config = c.args.config.now in
    let all : c.loop-number.number ≡ suc (length config.splits) = omega (
      arith,
      c.loop-number-test.false,
      c.loop-number.auto.number-end,
      ap length c.as_slice.ensures.same,
    ) in
    subst (λ n. AreStanding config 0 c.loop-number.shards.items (replicate n fresh_shard)) all c.loop-number.invariant
