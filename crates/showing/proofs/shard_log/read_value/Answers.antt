use Rattle.std.proofs.Common.{ap, sym, ◌∙◌}
use Rattle.recovery.specs.Recovered.{items}
use Rattle.showing.specs.Histories.{is_settled, value_told}
use Rattle.showing.proofs.Values.{found_in}
use Rattle.showing.proofs.shard_log.read_value.Goals as goal

pub returns-clause-value : goal.returns-clause-value
returns-clause-value g c keeps =
    found_in c.args.setup.now _ c.args.key.now c.args.at (items c.in_ok-entries.entries.items) c.in_ok-value.value c.in_ok-is_settled.is_settled
    (c.in_ok-entries.ensures.log keeps)
    (ap (λ es. value_told (items es) c.args.key.now c.args.at) (sym c.deref.ensures.value) ∙ c.in_ok-value.ensures.value)
    (c.in_ok-is_settled.ensures.settled ∙ ap (λ es. is_settled (items es) c.args.key.now c.args.at) c.deref-2.ensures.value)
