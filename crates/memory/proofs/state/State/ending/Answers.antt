use Rattle.std.proofs.Common.{◌++◌, ◌∷◌, ◌∙◌, List, ap, map}
use Rattle.units.specs.declared.setup.Setup.{Setup}
use Rattle.message.specs.declared.message.Envelope.{Envelope}
use Rattle.protocol.specs.Cells.{other_parts}
use Rattle.protocol.specs.Outputs.{outcome_to}
use Rattle.memory.proofs.state.State.ending.Goals as goal

pub returns-in-Ok-tell_others-clause-out : goal.returns-in-Ok-tell_others-clause-out
returns-in-Ok-tell_others-clause-out c =
    let t = c.args.txn in
    let outcome = c.args.outcome in
    let parts = c.args.parts in
    let here = c.setup.result.now.shard in
    c.in-Ok-tell_others.ensures.told
    ∙ ap (λ (out : List Envelope). out ++ map (outcome_to here t outcome) (other_parts here parts)) c.in-Ok.ensures.one
    ∙ ap (λ (s : Setup). c.args.first ∷ map (outcome_to s.shard t outcome) (other_parts s.shard parts)) c.setup.ensures
