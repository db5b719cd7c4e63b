use Rattle.std.proofs.Common.{rules, ◌∙◌}
use Rattle.std.proofs.lemmas.Nat.{be_bytes_8}
use Rattle.store.proofs.typed.U64Typed.from_value.Goals as goal

pub returns-in-Ok-clause-read : goal.returns-in-Ok-clause-read
returns-in-Ok-clause-read c =
    be_bytes_8 c.in-Ok.bytes c.from_be_bytes.result (search rules) (search rules) c.from_be_bytes.ensures ∙ (c.in-Ok.ensures.1.same ∙ c.as_bytes.ensures.same)
