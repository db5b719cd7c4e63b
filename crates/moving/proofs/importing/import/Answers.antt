use Rattle.std.proofs.Common.{◌∙◌, ◌++◌, ◌∷◌, [], arith}
use Rattle.moving.proofs.Putting.{counted_on, given_on, put_more}
use Rattle.moving.proofs.importing.import.Goals as goal

pub loop-batch-preserved : goal.loop-batch-preserved
loop-batch-preserved g c =
    let was = c.loop-batch.invariant in
    let batches = was.1.0 in
    let batch = c.in-Ok.batch.items in (
      c.put_all.ensures.run ∙ was.0,
      (
        batches ++ batch ∷ [],
        put_more _ _ batches batch _ was.0 c.deref.ensures.value was.1.1 c.in-Ok-put_all.ensures.put,
        omega (arith, counted_on batches batch, was.1.2, c.len.ensures, c.in-Some.ensures),
        given_on _ _ _ batches batch was.1.3 c.in-Ok.ensures,
      ),
    )
