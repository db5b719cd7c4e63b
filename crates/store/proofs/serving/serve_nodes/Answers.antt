use Rattle.std.proofs.Common.{◌∙◌, map, slice_index_or, subst}
use Rattle.std.specs.Prelude.{Contains}
use Rattle.std.proofs.lemmas.Result.{IfOk-weaker}
use Rattle.store.proofs.serving.serve_nodes.Goals as goal

-- the clients are of the run and the splits that they share, and have the clock that is made for them
pub returns-in-Ok-clause-clients : goal.returns-in-Ok-clause-clients
returns-in-Ok-clause-clients g c =
    IfOk-weaker c.work_beside.result _ _
    (λ answer worked. (
      worked.0,
      worked.1,
      λ k d lt. (
        (worked.2 k d lt).0 ∙ c.in_ok-shared.ensures.run,
        (worked.2 k d lt).1 ∙ c.in_ok-shared.ensures.splits,
        (worked.2 k d lt).2 ∙ c.new-clock.ensures.epsilon,
        (worked.2 k d lt).3 ∙ c.new-clock.ensures.from,
        (worked.2 k d lt).4,
        subst (λ lists. Contains (map (λ own. own.items) lists) (slice_index_or worked.0.items k d).viewers) c.in_ok-shared.ensures.viewers
            (worked.2 k d lt).5,
      ),
    ))
    c.work_beside.ensures.clients
