use Rattle.std.proofs.Common.{◌∙◌, ◌++◌, ◌∷◌, [], sym, ap, append_assoc}
use Rattle.disk.specs.File.{surface}
use Rattle.moving.proofs.Copying.{as_many, copied_on}
use Rattle.moving.proofs.copied.Whole.copy_onto.Goals as goal

pub loop-log-preserved : goal.loop-log-preserved
loop-log-preserved g c =
    let done = c.loop-log.yielded in
    let was = c.loop-log.invariant in
    let copied = c.in_ok-copy_next.ensures in (
      append_assoc done (c.in-Some.log ∷ []) c.next.new.self.rest.items ∙ ap (λ r. done ++ r) (sym c.in-Some.ensures.steps.0) ∙ was.0,
      as_many done _ _ c.in-Some.log copied.0 copied.1 was.1,
      λ from to. copied_on (λ log. (surface (g.D.Disk.file log)).seen) g.E.Disk.file done _ _ c.in-Some.log copied.0 copied.1 (was.2 from to) (copied.2 from to),
    )
