use Rattle.std.proofs.Common.{◌∙◌}
use Rattle.std.proofs.lemmas.Result.{IfOk-weaker}
use Rattle.session.specs.Sessions.{closing_messages}
use Rattle.session.specs.Shown.{closing_client}
use Rattle.session.proofs.Steps.{closing_same}
use Rattle.session.proofs.tx.Tx.again.Goals as goal

pub returns-clause-same : goal.returns-clause-same
returns-clause-same g c =
    let s = c.args.self.now in
    let e = c.request-request.ensures in
    IfOk-weaker c.messages.result _ _
    (λ out h. h ∙ (λ i. closing_messages (e.splits i) (closing_client (e.txn i) (e.taken i) (e.writes i))) ∙ closing_same s.splits s.client)
    c.messages.ensures.same
