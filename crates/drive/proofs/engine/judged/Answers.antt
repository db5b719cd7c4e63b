use Rattle.std.proofs.Common.{⊎_elim, inl, inr}
use Rattle.node.proofs.Outcomes.{on_err}
use Rattle.drive.proofs.engine.judged.Goals as goal

pub returns-clause-unjudged : goal.returns-clause-unjudged
returns-clause-unjudged g c =
    on_err _ _ c.judge.result (λ fault why. ⊎_elim (λ memory. inl memory) (λ else. ⊎_elim (λ failed. inr (inl failed.0)) (λ log. inr (inr log.0)) else) why)
    c.judge.ensures.refused
