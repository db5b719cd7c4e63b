use Rattle.std.proofs.Common.{rules, ◌≡◌, ◌∙◌, true, not, nat_le, refl, sym, ap, subst}
use Rattle.std.specs.List.{list_any}
use Rattle.units.specs.Ids.{older}
use Rattle.units.proofs.ListLaws.{not_any}
use Rattle.record.specs.declared.record.Record.{Record}
use Rattle.facts.specs.Stages.{follows_next}
use Rattle.protocol.specs.Beside.{fits_facts, standing_rows}
use Rattle.recovery.proofs.Again.{absent_before}
use Rattle.recovery.proofs.Beside.{below_rows, decision_steps, horizon_rules, horizon_steps, promise_steps, rows_are}
use Rattle.recovery.proofs.replaying.fits_beside.Goals as goal

pub stands_beside-requires-clause-absent : goal.stands_beside-requires-clause-absent
stands_beside-requires-clause-absent c =
    let k = c.args.state.now in
    absent_before k k.setup.shard (Record.Prepare c.in-Prepare.p) c.in-Prepare.p.txn c.requires.recovered
    (promise_steps k.setup.shard k.stage k.facts c.in-Prepare.p (subst (λ r. follows_next k.setup.shard k.stage k.facts r
    ≡ true) c.in-Prepare.is c.requires.follows)) refl

pub stands_beside-requires-in-Commit-clause-absent : goal.stands_beside-requires-in-Commit-clause-absent
stands_beside-requires-in-Commit-clause-absent c =
    let k = c.args.state.now in
    absent_before k k.setup.shard (Record.Commit c.in-Commit.c) c.in-Commit.c.txn c.requires.recovered
    (decision_steps k.setup.shard k.stage k.facts c.in-Commit.c (subst (λ r. follows_next k.setup.shard k.stage k.facts r
    ≡ true) c.in-Commit.is c.requires.follows)) refl

pub returns-in-Horizon-clause-fits : goal.returns-in-Horizon-clause-fits
returns-in-Horizon-clause-fits c =
    let k = c.args.state.now in
    let at = c.in-Horizon.at in
    let told = horizon_rules k.setup.shard k.facts at
    (horizon_steps k.setup.shard k.stage k.facts at (subst (λ r. follows_next k.setup.shard k.stage k.facts r ≡ true) c.in-Horizon.is c.requires.follows)) in
    let is : c.le.result ≡ nat_le at c.safe.result = (search rules) in
    subst (λ r. c.le.result ≡ fits_facts k.facts r) (sym c.in-Horizon.is)
    (is ∙ ap (nat_le at) c.safe.ensures ∙ below_rows k at c.requires.recovered told.0 told.1)

pub returns-in-Retired-clause-fits : goal.returns-in-Retired-clause-fits
returns-in-Retired-clause-fits c =
    let k = c.args.state.now in
    let below = c.in-Retired.below in
    subst (λ r. not c.has_row_below.result ≡ fits_facts k.facts r) (sym c.in-Retired.is)
    (ap not c.has_row_below.ensures
    ∙ ap (λ rows. not (list_any (λ r. older r.txn below) rows)) (rows_are k c.requires.recovered)
    ∙ not_any (λ r. older r.txn below) (standing_rows k.facts))
