use Rattle.std.proofs.Common.{inl, inr}
use Rattle.std.proofs.lemmas.Result.{IfErr-weaker, IfOk-weaker}
use Rattle.recovery.specs.Recovered.{items}
use Rattle.showing.proofs.Values.{nothing_told, rebuilt_facts, rebuilt_none, value_kept}
use Rattle.showing.proofs.shard_log.value_of_log.Goals as goal

pub returns-in_default-clause-value : goal.returns-in_default-clause-value
returns-in_default-clause-value c =
    nothing_told c.args.key.now c.args.at (items c.args.entries.now)
    (rebuilt_none c.args.setup.now _ c.args.state c.requires.rebuilt c.in_default.is)

pub returns-clause-value : goal.returns-clause-value
returns-clause-value c =
    IfOk-weaker c.value_from-value.result _ _
    (λ value is. value_kept c.args.key.now c.args.at c.whole_from-from.result (items c.args.entries.now) c.in-Some.state _
    (rebuilt_facts c.args.setup.now _ c.args.state c.in-Some.state c.requires.rebuilt c.in-Some.is) c.whole_from-from.ensures is)
    c.value_from-value.ensures.value

pub returns-clause-refused : goal.returns-clause-refused
returns-clause-refused c =
    IfErr-weaker c.value_from-value.result _ _
    (λ fault why. elim why [
      | inl memory ↦ inl memory
      | inr late ↦ inr (
        late.0,
        value_kept c.args.key.now c.args.at c.whole_from-from.result (items c.args.entries.now) c.in-Some.state _
            (rebuilt_facts c.args.setup.now _ c.args.state c.in-Some.state c.requires.rebuilt c.in-Some.is) c.whole_from-from.ensures late.1,
      )
    ])
    c.value_from-value.ensures.refused
