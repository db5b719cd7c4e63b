use Rattle.std.proofs.Common.{ap, ◌∙◌}
use Rattle.recovery.specs.Recovered.{items}
use Rattle.showing.specs.Histories.{whole_from}
use Rattle.showing.proofs.Values.{history_found}
use Rattle.showing.proofs.shard_log.read_history.Goals as goal

pub returns-clause-told : goal.returns-clause-told
returns-clause-told g c keeps =
    history_found c.args.setup.now _ c.args.key.now (items c.in_ok-entries.entries.items) (items c.deref.result.now) c.whole_from.result
    c.in_ok-told.told.items (c.in_ok-entries.ensures.log keeps) (ap items c.deref.ensures.value)
    (c.whole_from.ensures ∙ ap (λ es. whole_from (items es)) c.deref-2.ensures.value) c.in_ok-told.ensures.told
