use Rattle.std.proofs.Common.{inl}
use Rattle.std.proofs.lemmas.Result.{IfOk-weaker}
use Rattle.commands.proofs.Refusals.{both_hold, refused_more}
use Rattle.commands.proofs.put_command.put_value.Goals as goal

pub returns-clause-put : goal.returns-clause-put
returns-clause-put g c =
    IfOk-weaker c.told.result _ _ (λ told is. (c.in_ok-ended.ended, c.in_ok-ended.ensures.put, is.0, is.1))
    (both_hold _ _ c.told.result c.told.ensures.status c.told.ensures.text)

pub returns-clause-refused : goal.returns-clause-refused
returns-clause-refused g c = refused_more c.told.result (λ fault memory. inl (inl (inl memory))) c.told.ensures.memory
