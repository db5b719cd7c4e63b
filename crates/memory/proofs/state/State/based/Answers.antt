use Rattle.std.proofs.Common.{◌<◌, ◌∙◌, sym, subst}
use Rattle.std.proofs.lemmas.Result.{IfOk-weaker}
use Rattle.memory.proofs.Logged.{base_begins, base_epoch, none_stage}
use Rattle.memory.proofs.state.State.based.Goals as goal

pub begun-requires-clause-begins : goal.begun-requires-clause-begins
begun-requires-clause-begins c =
    base_begins c.args.setup.shard c.args.epoch c.args.floor c.args.horizon c.requires.0 c.requires.1

pub begun-requires-clause-opened : goal.begun-requires-clause-opened
begun-requires-clause-opened c = subst (λ n. 0 < n) (sym (base_epoch c.args.epoch c.args.floor c.args.horizon)) c.requires.0

pub returns-clause-stage : goal.returns-clause-stage
returns-clause-stage c =
    IfOk-weaker c.begun.result _ _ (λ s same. same ∙ none_stage) c.begun.ensures.stage
