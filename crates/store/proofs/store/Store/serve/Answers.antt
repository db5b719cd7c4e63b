use Rattle.std.proofs.Common.{◌∙◌, List, ap, arith, slice_index_or, subst}
use Rattle.std.specs.Prelude.{Contains}
use Rattle.board.specs.Views.{Viewing}
use Rattle.store.specs.Standing.{Standing}
use Rattle.store.proofs.store.Store.serve.Goals as goal

-- the clients are of the run, the splits and the clock of the store
pub returns-in-Ok-answer-clause-clients : goal.returns-in-Ok-answer-clause-clients
returns-in-Ok-answer-clause-clients g c =
    let worked = c.in-Ok-answer.ensures.clients in (
      worked.0,
      worked.1,
      λ k d lt. (
        (worked.2 k d lt).0 ∙ ap (λ (s : Standing). s.run) c.self.view_is,
        (worked.2 k d lt).1 ∙ ap (λ (s : Standing). s.splits) c.self.view_is,
        (worked.2 k d lt).2 ∙ ap (λ (s : Standing). s.epsilon) c.self.view_is,
        (worked.2 k d lt).3 ∙ ap (λ (s : Standing). s.last) c.self.view_is,
        (worked.2 k d lt).4,
        subst (λ (lists : List (List Viewing)). Contains lists (slice_index_or worked.0.items k d).viewers)
            (ap (λ (s : Standing). s.dealt) c.self.view_is) (worked.2 k d lt).5,
      ),
    )

pub returns-in-Err-clause-refused : goal.returns-in-Err-clause-refused
returns-in-Err-clause-refused g c = c.in-Err.ensures.refused c.self.invariant.0 (omega (arith, c.self.invariant.1))

-- a disk of each node comes back
pub returns-in-Ok-answer-clause-disks : goal.returns-in-Ok-answer-clause-disks
returns-in-Ok-answer-clause-disks g c = c.closed.ensures ∙ ap (λ (s : Standing). s.shards) c.self.view_is
