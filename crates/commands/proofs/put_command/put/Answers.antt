use Rattle.std.proofs.lemmas.Result.{IfOk-weaker}
use Rattle.commands.proofs.put_command.put.Goals as goal

pub returns-clause-put : goal.returns-clause-put
returns-clause-put g c =
    IfOk-weaker c.put_value.result _ _ (λ told is. (c.in_ok-value.value, is.0, c.in_ok-value.ensures.given, is.1, is.2, is.3)) c.put_value.ensures.put
