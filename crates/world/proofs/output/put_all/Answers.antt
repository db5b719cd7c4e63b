use Rattle.std.proofs.Common.{[], ◌∷◌, ◌++◌, append_assoc, ap, ◌∙◌}
use Rattle.world.proofs.output.put_all.Goals as goal

pub loop-envelope-preserved : goal.loop-envelope-preserved
loop-envelope-preserved c =
    let one = c.in-Some.envelope in
    c.in_ok-put.ensures.ok ∙ ap (λ l. l ++ one ∷ []) c.loop-envelope.invariant ∙ append_assoc c.args.bag.now c.loop-envelope.yielded (one ∷ [])
