use Rattle.std.proofs.Common.{◌∙◌, ap}
use Rattle.recovery.specs.Recovered.{items}
use Rattle.showing.specs.Histories.{settled_by}
use Rattle.showing.proofs.Values.{settled_is}
use Rattle.showing.proofs.shard_log.is_settled_at.Goals as goal

pub returns-clause-settled : goal.returns-clause-settled
returns-clause-settled c =
    settled_is c.args.key.now c.args.at c.floor-floor.result (items c.args.entries.now) c.in_ok-facts.facts.facts c.in_ok-told.told.items c.settled_by.result
    c.in_ok-facts.ensures.facts c.floor-floor.ensures c.in_ok-told.ensures.told
    (c.settled_by.ensures ∙ ap (λ told. settled_by c.floor-floor.result told c.args.at) c.deref.ensures.value)
